use Rattle.rp_node.proofs.Silence.{OnlySoFar}
use Rattle.rp_node.proofs.quiet.all_only_count.Given as goal

-- the seats so far only count
abbrev pub invariant-loop-seat : goal.invariant-loop-seat
invariant-loop-seat l = OnlySoFar l.ticks l.fn.seats l.seat-index
