use Rattle.std.proofs.Common.{◌≡◌, ◌++◌, map}
use Rattle.rp_raftstep.specs.declared.messages.Message.TheVariants.{Forward}
use Rattle.rp_raft.proofs.proposals.push_forwards.Given as goal

-- the payloads so far are forwarded
abbrev pub invariant-loop-payload : goal.invariant-loop-payload
invariant-loop-payload g l = l.messages ≡ l.initial.messages ++ map (λ payload. (l.leader, Forward payload)) l.yielded
