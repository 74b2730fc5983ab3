use Rattle.std.proofs.Common.{◌≡◌, map, take}
use Rattle.rp_raftstep.specs.declared.messages.Message.TheVariants.{Vote}
use Rattle.rp_raft.proofs.rafts.Raft.requests.Given as goal

-- the requests so far
abbrev pub invariant-loop-peer : goal.invariant-loop-peer
invariant-loop-peer g l = l.messages ≡ map (λ peer. (peer, Vote l.term l.last_index l.last_term)) (take l.peer-index l.peer-items)
