use Rattle.std.proofs.Common.{rules, ap, ◌∙◌, drop, ℕ, ◌+◌}
use Rattle.rp_node.specs.Waits.{waits_from}
use Rattle.rp_node.proofs.Waiting.{waits_more}
use Rattle.rp_node.proofs.rounds.longest_wait.Goals as goal

pub loop-seat-preserved : goal.loop-seat-preserved
loop-seat-preserved c =
    ap (λ (m : ℕ). waits_from c.args.rounds m (drop (c.loop-seat.seat-index + 1) c.args.seats.now)) (search rules)
    ∙ waits_more c.args.rounds c.loop-seat.most c.args.seats.now c.loop-seat.seat-index c.seat-item.result c.loop-seat-test.true c.seat-item.is
    ∙ c.loop-seat.invariant
