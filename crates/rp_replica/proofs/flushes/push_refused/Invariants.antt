use Rattle.std.proofs.Common.{◌≡◌, ◌++◌, drop, map}
use Rattle.rp_events.specs.declared.moves.Move.TheVariants.{GivesUp}
use Rattle.rp_replica.proofs.flushes.push_refused.Given as goal

-- the moves so far, and those of what is left, are what all of it makes
abbrev pub invariant-loop-id : goal.invariant-loop-id
invariant-loop-id l = l.moves.items ++ map GivesUp (drop l.id-index l.refused) ≡ l.fn.moves.items ++ map GivesUp l.refused
