use Rattle.std.proofs.Common.{◌≡◌, ◌++◌, drop}
use Rattle.std.specs.Prelude.{filter_map}
use Rattle.rp_replica.specs.Handing.{told_by}
use Rattle.rp_replica.proofs.payloads.told.Given as goal

-- what is told so far, and what the moves tell that are left, is all that is told
abbrev pub invariant-loop-one : goal.invariant-loop-one
invariant-loop-one l = l.ends.items ++ filter_map (told_by l.lease) (drop l.one-index l.moves) ≡ filter_map (told_by l.lease) l.moves
