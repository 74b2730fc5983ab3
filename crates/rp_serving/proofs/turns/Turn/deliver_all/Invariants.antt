use Rattle.rp_serving.specs.Turns.{known_of}
use Rattle.rp_serving.proofs.Halfway.{Halfway}
use Rattle.rp_serving.proofs.turns.Turn.deliver_all.Given as goal

-- the letters of the senders so far are delivered
abbrev pub invariant-loop-place : goal.invariant-loop-place
invariant-loop-place g l = Halfway (known_of l.self) l.self.node l.place l.fn.mail l.mail l.fn.node.node l.node.node
