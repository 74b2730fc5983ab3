use Rattle.std.proofs.Common.{rules, arith}
use Rattle.rp_node.proofs.Seating.{seat_is}
use Rattle.rp_node.proofs.Silence.{only_more}
use Rattle.rp_node.proofs.quiet.all_only_count.Goals as goal

pub loop-seat-init : goal.loop-seat-init
loop-seat-init c = λ range less. absurd (omega (arith, less))

pub loop-seat-preserved : goal.loop-seat-preserved
loop-seat-preserved c = only_more c.args.ticks c.args.seats.now c.loop-seat.seat-index c.seat-item.result
    (seat_is c.args.seats.now c.loop-seat.seat-index c.seat-item.result (search rules) c.seat-item.is) (search rules) c.loop-seat.invariant

pub returns : goal.returns
returns c = λ only range within. c.loop-seat.invariant range (search rules)
