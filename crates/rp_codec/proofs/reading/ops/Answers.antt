use Rattle.std.proofs.Common.{◌≡◌, ◌∷◌, ◌++◌, [], length, arith, length-append, ap, ◌∙◌}
use Rattle.rp_codec.specs.Reading.{ops_at}
use Rattle.rp_codec.proofs.Writes.{goes_on, ends, is_done}
use Rattle.rp_codec.proofs.reading.ops.Goals as goal

pub returns-in-Err : goal.returns-in-Err
returns-in-Err c = rw c.from.ensures
    (ends c.args.texts c.in-Err.field c.loop.batch c.args.count c.loop.counter c.loop.cursor (ops_at c.args.texts c.args.count c.args.cursor.now) c.loop-test.true c.in-Err.ensures c.loop.invariant.same)

pub loop-preserved : goal.loop-preserved
loop-preserved c =
    let pushed : c.push.new.self ≡ c.loop.batch ++ c.in-Ok.op ∷ [] = c.in_ok-push-in-Ok.ensures.ok in
    record {
      same = rw pushed (goes_on c.args.texts c.loop.batch c.args.count c.loop.counter c.loop.cursor c.in-Ok.op c.op.new.cursor (ops_at c.args.texts c.args.count c.args.cursor.now) c.loop-test.true c.in-Ok.ensures c.loop.invariant.same);
      room = ap length pushed ∙ omega (arith, length-append c.loop.batch (c.in-Ok.op ∷ []), c.loop.invariant.room);
    }

pub returns : goal.returns
returns c = is_done c.args.texts c.loop.batch c.args.count c.loop.counter c.loop.cursor (ops_at c.args.texts c.args.count c.args.cursor.now) c.loop-test.false c.loop.invariant.same
