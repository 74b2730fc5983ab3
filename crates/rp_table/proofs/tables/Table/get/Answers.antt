use Rattle.std.proofs.Common.{sym, ap, ◌∙◌}
use Rattle.std.specs.FinMap.{get}
use Rattle.rp_table.proofs.Rows.{read_found, find_absent}
use Rattle.rp_table.proofs.Edits.{get_here}
use Rattle.rp_table.proofs.tables.Table.get.Goals as goal

pub returns-in-Ok : goal.returns-in-Ok
returns-in-Ok c =
    sym (get_here _ c.self.invariant _ ∙ read_found _ _ _ _ c.in-Ok.ensures.found c.at.ensures)
    ∙ ap (λ h. get h.map c.args.key) c.self.view_is

pub returns-in-Err : goal.returns-in-Err
returns-in-Err c =
    sym (get_here _ c.self.invariant _ ∙ find_absent _ _ _ c.self.invariant c.in-Err.ensures.absent)
    ∙ ap (λ h. get h.map c.args.key) c.self.view_is
