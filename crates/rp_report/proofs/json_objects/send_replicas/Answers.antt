use Rattle.std.proofs.Common.{length, refl}
use Rattle.rp_report.specs.Json.{replica_value}
use Rattle.rp_report.proofs.JsonLists.{closes_numbered}
use Rattle.rp_report.proofs.json_objects.send_replicas.Goals as goal

pub returns : goal.returns
returns g c =
    closes_numbered replica_value 1 c.args.replicas.now c.loop-replica.replica-index c.loop-replica.node c.end_seq.result (g.S.Serializer.written c.args.out.now) (g.S.Serializer.written c.begin_seq.new.self)
    (g.S.Serializer.written c.loop-replica.out) (g.S.Serializer.written c.end_seq.new.self) (length c.args.replicas.now)
    c.in_ok-begin_seq.ensures refl c.loop-replica-test.false c.loop-replica.invariant.sent c.end_seq.ensures
