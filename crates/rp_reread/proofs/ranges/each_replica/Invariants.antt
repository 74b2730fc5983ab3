use Rattle.std.proofs.Common.{◌≡◌, ◌+◌, ◌++◌, map, drop}
use Rattle.std.specs.Prelude.{option_map}
use Rattle.serde_json.specs.View.{view}
use Rattle.rp_reread.specs.Forms.{replicas_from}
use Rattle.rp_reread.proofs.ranges.each_replica.Given as goal

-- what was read, with what is left, is all of it; the nodes are counted from 1
abbrev pub invariant-loop-value : goal.invariant-loop-value
invariant-loop-value l = record {
  read : option_map (λ rest. l.found ++ rest) (replicas_from l.turn (map view (drop l.value-index l.values))) ≡ replicas_from 1 (map view l.values);
  turn : l.turn ≡ l.value-index + 1;
}
