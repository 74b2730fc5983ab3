use Rattle.std.proofs.Common.{◌≡◌, take}
use Rattle.rp_contest.proofs.copies.copied_clients.Given as goal

-- the clients so far
abbrev pub invariant-loop-sent : goal.invariant-loop-sent
invariant-loop-sent l = l.copy.items ≡ take l.sent-index l.clients
