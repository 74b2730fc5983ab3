use Rattle.std.proofs.Common.{false, sym, ◌∙◌}
use Rattle.rp_serving.proofs.Asking.{may_end}
use Rattle.rp_serving.proofs.turns.Turn.end.Goals as goal

pub step-requires : goal.step-requires
step-requires g c = may_end _ _ _ _ _ c.requires.has.reached _ c.requires.under_way (sym c.is_full.ensures ∙ c.if-is_full.false)
