use Rattle.std.proofs.Common.{◌≡◌, ◌++◌, drop, map}
use Rattle.rp_events.specs.declared.moves.Move.TheVariants.{TakesBack}
use Rattle.rp_replica.proofs.refreshes.push_back.Given as goal

-- the moves so far, and those of what is left, are what all of it makes
abbrev pub invariant-loop-id : goal.invariant-loop-id
invariant-loop-id l = l.moves.items ++ map TakesBack (drop l.id-index l.ids) ≡ l.fn.moves.items ++ map TakesBack l.ids
