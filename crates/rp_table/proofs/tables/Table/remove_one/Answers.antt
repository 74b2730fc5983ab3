use Rattle.std.proofs.Common.{sym, ap, ◌∙◌}
use Rattle.std.specs.FinMap.{remove}
use Rattle.rp_table.proofs.Rows.{without_found, without_absent}
use Rattle.rp_table.proofs.Edits.{removed}
use Rattle.rp_table.proofs.tables.Table.remove_one.Goals as goal

pub invariant_of-self : goal.invariant_of-self
invariant_of-self c =
    rw c.remove.ensures.list
    (removed c.self.inside.rows.list c.self.invariant _ c.args.key (without_found _ _ _ c.self.invariant c.in-Ok.ensures.found)).0

pub returns-in-Ok-clause-map : goal.returns-in-Ok-clause-map
returns-in-Ok-clause-map c =
    rw c.remove.ensures.list
    ((removed c.self.inside.rows.list c.self.invariant _ c.args.key (without_found _ _ _ c.self.invariant c.in-Ok.ensures.found)).1
    ∙ ap (λ h. remove h.map c.args.key) c.self.view_is)

pub returns-in_default-clause-map : goal.returns-in_default-clause-map
returns-in_default-clause-map c =
    let absent = removed c.self.inside.rows.list c.self.invariant _ c.args.key (without_absent _ _ _ c.self.invariant c.in_default.ensures.absent) in
    sym (ap (λ h. h.map) c.self.view_is) ∙ absent.1 ∙ ap (λ h. remove h.map c.args.key) c.self.view_is
