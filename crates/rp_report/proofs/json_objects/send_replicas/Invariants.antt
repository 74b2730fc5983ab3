use Rattle.std.proofs.Common.{◌≡◌, ◌+◌, drop}
use Rattle.rp_report.specs.Json.{items_from, replica_value}
use Rattle.rp_report.proofs.JsonLists.{EndsWell}
use Rattle.rp_report.proofs.json_objects.send_replicas.Given as goal

-- what ends the items that are left ends all of them
abbrev pub invariant-loop-replica : goal.invariant-loop-replica
invariant-loop-replica g l = record {
  sent : EndsWell (items_from replica_value 1 l.replicas) (g.S.Serializer.written l.initial.out) (items_from replica_value l.node (drop l.replica-index l.replicas)) (g.S.Serializer.written l.out);
  number : l.node ≡ l.replica-index + 1;
}
