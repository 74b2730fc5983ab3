use Rattle.std.proofs.Common.{◌≡◌, ◌++◌, drop, map}
use Rattle.rp_events.specs.declared.moves.Move.TheVariants.{Repeats}
use Rattle.rp_replica.proofs.refreshes.push_again.Given as goal

-- the moves so far, and those of what is left, are what all of it makes
abbrev pub invariant-loop-id : goal.invariant-loop-id
invariant-loop-id l = l.moves.items ++ map Repeats (drop l.id-index l.ids) ≡ l.fn.moves.items ++ map Repeats l.ids
