use Rattle.std.proofs.Common.{◌≡◌, map}
use Rattle.rp_raft.proofs.proposals.entries_of.Given as goal

-- the payloads so far are entries
abbrev pub invariant-loop-payload : goal.invariant-loop-payload
invariant-loop-payload l = l.entries.items ≡ map (λ payload. record { term = l.term; payload = payload }) l.yielded
