use Rattle.std.proofs.Common.{false, sym, ◌∙◌}
use Rattle.rp_events.specs.Nodes.{is_full}
use Rattle.rp_serving.proofs.Asking.{may_ask}
use Rattle.rp_serving.proofs.Stepping.{steps_on}
use Rattle.rp_serving.proofs.turns.Turn.answer.Goals as goal

pub step-requires : goal.step-requires
step-requires g c =
    may_ask _ _ _ _ _ c.requires.has.reached c.requires.has.past _ c.requires.under_way (sym c.is_full.ensures ∙ c.if-is_full.false) _ c.requires.may

pub returns-in-Ok-clause-ok : goal.returns-in-Ok-clause-ok
returns-in-Ok-clause-ok g c =
    steps_on _ c.args.self.now.few _ _ _ _ _ c.requires.has.reached c.requires.has.past _ _ _ _ c.requires.under_way (sym c.is_full.ensures ∙ c.if-is_full.false) c.requires.may c.in-Ok.ensures.ok
