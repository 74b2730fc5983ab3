use Rattle.std.proofs.Common.{Bor}
use Rattle.rp_apply.specs.declared.states.ApplyState.{ApplyState}
use Rattle.rp_chronicle.proofs.Kept.{any_fills}
use Rattle.rp_chronicle.proofs.pieces.fill_any.Goals as goal

pub returns-in-Some : goal.returns-in-Some
returns-in-Some c = any_fills (λ (s : Bor ApplyState). s.now.history) c.args.kept c.in-Some.kept c.args.base c.args.records.now c.fill_all.new.records c.in-Some.is c.fill_all.ensures
