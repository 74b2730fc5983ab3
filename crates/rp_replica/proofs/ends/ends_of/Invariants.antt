use Rattle.std.proofs.Common.{◌≡◌, ◌++◌, drop}
use Rattle.std.specs.Prelude.{filter_map}
use Rattle.rp_replica.specs.Ends.{end_by}
use Rattle.rp_replica.proofs.ends.ends_of.Given as goal

-- the ends so far, and those of what is left, are all of them
abbrev pub invariant-loop-standing : goal.invariant-loop-standing
invariant-loop-standing l = l.ends.items ++ filter_map (end_by l.cause) (drop l.standing-index l.standings) ≡ filter_map (end_by l.cause) l.standings
