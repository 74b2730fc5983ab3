use Rattle.std.proofs.Common.{arith, ◌∙◌, ap}
use Rattle.std.specs.Prelude.{slice_get}
use Rattle.rp_race.specs.Rounds.{handovers_of}
use Rattle.rp_serving.proofs.Rounding.{due_is}
use Rattle.rp_serving.proofs.turns.Turn.due_handover.Goals as goal

pub returns-then-rounds : goal.returns-then-rounds
returns-then-rounds g c =
    let count = c.rounds.ensures in
    let last = c.if-rounds.true in
    due_is _ _ _ _ _ c.args.node.now.node c.args.handed _ c.requires.has.reached c.requires.under_way
    (c.next_handover.ensures ∙ ap (λ r. slice_get (handovers_of r c.args.self.now.node) c.args.handed) c.args.self.now.rules_are) c.requires.handed (omega (arith, count, last))
