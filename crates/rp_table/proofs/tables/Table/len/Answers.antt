use Rattle.std.proofs.Common.{sym, ap, ◌∙◌}
use Rattle.std.specs.FinMap.{len}
use Rattle.rp_table.proofs.Edits.{len_here}
use Rattle.rp_table.proofs.tables.Table.len.Goals as goal

pub returns : goal.returns
returns c = c.len.ensures ∙ sym (len_here _ c.self.invariant) ∙ ap (λ h. len h.map) c.self.view_is
