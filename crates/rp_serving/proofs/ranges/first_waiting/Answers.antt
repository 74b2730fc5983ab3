use Rattle.std.proofs.Common.{rules, ◌≡◌, ap, sym, ◌∙◌}
use Rattle.rp_events.specs.Nodes.{seat}
use Rattle.rp_race.specs.Rounds.{waits}
use Rattle.rp_serving.proofs.Ranging.{find_later}
use Rattle.rp_serving.proofs.ranges.first_waiting.Goals as goal

pub loop-number-preserved : goal.loop-number-preserved
loop-number-preserved g c =
    let at : c.unwrap-range.result ≡ c.loop-number.number = search rules in
    c.loop-number.invariant
    ∙ find_later (λ range. waits (seat c.args.node.now.node range)) c.loop-number.number (search rules)
    (ap (λ k. waits (seat c.args.node.now.node k)) (sym at) ∙ sym c.waits.ensures ∙ c.if-waits.false)
