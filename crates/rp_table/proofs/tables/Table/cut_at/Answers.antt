use Rattle.std.proofs.Common.{nat_lt, ap, ◌∙◌}
use Rattle.std.specs.FinMap.{retain_keys}
use Rattle.rp_table.proofs.Rows.{below_place}
use Rattle.rp_table.proofs.Edits.{retained}
use Rattle.rp_table.proofs.tables.Table.cut_at.Goals as goal

pub invariant_of-self : goal.invariant_of-self
invariant_of-self c =
    rw c.truncate.ensures.list
    (retained c.self.inside.rows.list c.self.invariant _ (λ k. nat_lt k c.args.key) (below_place _ _ _ (rw c.bound.ensures.value at c.place_of-at.ensures))).0

pub returns-clause-map : goal.returns-clause-map
returns-clause-map c =
    rw c.truncate.ensures.list
    ((retained c.self.inside.rows.list c.self.invariant _ (λ k. nat_lt k c.args.key) (below_place _ _ _ (rw c.bound.ensures.value at c.place_of-at.ensures))).1
    ∙ ap (λ h. retain_keys h.map (λ k. nat_lt k c.args.key)) c.self.view_is)
