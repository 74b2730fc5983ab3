use Rattle.std.proofs.Common.{rules, ◌+◌, arith}
use Rattle.rp_serving.proofs.Copying.{copy_more}
use Rattle.rp_serving.proofs.lanes.Lane.copy.Goals as goal

pub loop-parcel-preserved : goal.loop-parcel-preserved
loop-parcel-preserved g c =
    let step = c.in_ok-look_at.ensures.ok in
    let one = step.0 in
    let was = c.loop-parcel.invariant.copied in
    record {
      copied = omega (arith, one, was);
      letters = copy_more c.args.rules.now c.args.from c.args.to (c.args.self.now.copied + 1) c.loop-parcel.self.copied c.loop-parcel.parcel-index _ _ _ _ c.parcel-item.result
          (search rules) c.parcel-item.is (omega (arith, was)) c.loop-parcel.invariant.letters step.1;
    }
