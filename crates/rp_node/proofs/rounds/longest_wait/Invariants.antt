use Rattle.std.proofs.Common.{◌≡◌, drop}
use Rattle.rp_node.specs.Waits.{waits_from}
use Rattle.rp_node.proofs.rounds.longest_wait.Given as goal

-- the longest wait from here on is that of all
abbrev pub invariant-loop-seat : goal.invariant-loop-seat
invariant-loop-seat l = waits_from l.rounds l.most (drop l.seat-index l.seats) ≡ waits_from l.rounds 0 l.seats
