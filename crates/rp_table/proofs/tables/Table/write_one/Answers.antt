use Rattle.std.proofs.Common.{ap, ◌∙◌}
use Rattle.std.specs.FinMap.{insert}
use Rattle.rp_table.proofs.Rows.{put_found, put_absent}
use Rattle.rp_table.proofs.Edits.{written}
use Rattle.rp_table.proofs.tables.Table.write_one.Goals as goal

pub invariant_of-self : goal.invariant_of-self
invariant_of-self c =
    rw c.replace.ensures.list
    (written c.self.inside.rows.list c.self.invariant _ c.args.key c.args.value (put_found _ _ _ _ c.in-Ok.ensures.found)).0

pub invariant_of-self-in-Err : goal.invariant_of-self-in-Err
invariant_of-self-in-Err c =
    rw c.insert.ensures.list
    (written c.self.inside.rows.list c.self.invariant _ c.args.key c.args.value (put_absent _ _ _ _ c.in-Err.ensures.absent)).0

pub returns-in-Ok-clause-map : goal.returns-in-Ok-clause-map
returns-in-Ok-clause-map c =
    rw c.replace.ensures.list
    ((written c.self.inside.rows.list c.self.invariant _ c.args.key c.args.value (put_found _ _ _ _ c.in-Ok.ensures.found)).1
    ∙ ap (λ h. insert h.map c.args.key c.args.value) c.self.view_is)

pub returns-in-Err-clause-map : goal.returns-in-Err-clause-map
returns-in-Err-clause-map c =
    rw c.insert.ensures.list
    ((written c.self.inside.rows.list c.self.invariant _ c.args.key c.args.value (put_absent _ _ _ _ c.in-Err.ensures.absent)).1
    ∙ ap (λ h. insert h.map c.args.key c.args.value) c.self.view_is)
