use Rattle.std.proofs.Common.{arith}
use Rattle.rp_replica.proofs.Moving.{moves_on, items_more}
use Rattle.rp_replica.proofs.replicas.Replica.make_moves.Goals as goal

pub make_move-requires : goal.make_move-requires
make_move-requires c =
    let more = items_more c.args.moves.now c.loop-one.one-index c.one-item.result c.loop-one-test.true c.one-item.is in
    let room = c.loop-one.invariant.room in
    omega (arith, more, room)

pub loop-one-preserved : goal.loop-one-preserved
loop-one-preserved c =
    let more = items_more c.args.moves.now c.loop-one.one-index c.one-item.result c.loop-one-test.true c.one-item.is in
    let before = c.loop-one.invariant.room in
    let after = c.make_move.ensures.room in
    record {
      leads = moves_on c.args.ticks c.args.round c.args.moves.now c.loop-one.one-index c.one-item.result c.loop-one.self.replica c.make_move.new.self.replica _
          c.loop-one-test.true c.one-item.is c.make_move.ensures.replica c.loop-one.invariant.leads;
      room = omega (arith, more, before, after);
    }
