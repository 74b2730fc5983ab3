use Rattle.std.proofs.Common.{nat_le, nat_lt, ◌&&◌, ap, ◌∙◌, arith}
use Rattle.std.specs.FinMap.{len, retain_keys}
use Rattle.rp_table.proofs.Rows.{places_in_order}
use Rattle.rp_table.proofs.Edits.{count_between}
use Rattle.rp_table.proofs.tables.Table.count_in.Goals as goal

pub overflow_sub-result : goal.overflow_sub-result
overflow_sub-result c =
    places_in_order c.self.inside.rows.list _ _ _ _ (omega (arith, c.args.span.ordered)) c.place_of-low.ensures c.place_of-high.ensures

pub returns : goal.returns
returns c =
    count_between c.self.inside.rows.list c.self.invariant _ _ _ _ (omega (arith, c.args.span.ordered)) c.place_of-low.ensures c.place_of-high.ensures
    ∙ ap (λ h. len (retain_keys h.map (λ k. nat_le c.args.span.start k && nat_lt k c.args.span.end))) c.self.view_is
