use Rattle.rp_serving.specs.Turns.{known_of}
use Rattle.rp_serving.proofs.Halfway.{FromLeft}
use Rattle.rp_serving.proofs.turns.Turn.deliver_from.Given as goal

-- the letters that the iterator still has are left
abbrev pub invariant-loop-letter : goal.invariant-loop-letter
invariant-loop-letter g l = FromLeft (known_of l.self) l.self.node l.from l.fn.node.node l.node.node l.letter-iterator.rest.items
