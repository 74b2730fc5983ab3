use Rattle.std.proofs.Common.{nat_le, ap, ◌∙◌}
use Rattle.std.specs.FinMap.{retain_keys}
use Rattle.rp_table.proofs.Edits.{kept_from}
use Rattle.rp_table.proofs.tables.Table.split_off.Goals as goal

pub invariant_of-result : goal.invariant_of-result
invariant_of-result c =
    (kept_from c.self.inside.rows.list c.self.invariant _ c.args.key _ (rw c.bound.ensures.value at c.place_of-at.ensures) c.in_ok-rows.ensures).0

pub returns : goal.returns
returns c =
    (kept_from c.self.inside.rows.list c.self.invariant _ c.args.key _ (rw c.bound.ensures.value at c.place_of-at.ensures) c.in_ok-rows.ensures).1
    ∙ ap (λ h. retain_keys h.map (λ k. nat_le c.args.key k)) c.self.view_is
