use Rattle.std.proofs.Common.{refl, ap, ◌∙◌}
use Rattle.std.specs.Ordering.{nat_cmp}
use Rattle.std.specs.FinMap.{from_sorted, empty_of_len}
use Rattle.rp_table.proofs.Edits.{len_here}
use Rattle.rp_table.proofs.tables.Table.new.Goals as goal

pub returns : goal.returns
returns c = ap (from_sorted {R = nat_cmp}) c.new.ensures ∙ empty_of_len _ (len_here _ refl)
