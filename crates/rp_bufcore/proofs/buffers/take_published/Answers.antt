use Rattle.std.proofs.Common.{refl, arith}
use Rattle.std.proofs.lemmas.Grind.{common_steps}
use Rattle.rp_bufcore.proofs.Taking.{half_more, published_within}
use Rattle.rp_bufcore.proofs.buffers.take_published.Goals as goal

pub loop-slot-preserved : goal.loop-slot-preserved
loop-slot-preserved c = record {
  half = rw (c.take_one.ensures.slot, c.take_one.ensures.given) (half_more _ _ _ _ _ _ _ c.loop-slot.invariant.half (omega arith) (omega arith) refl);
  spare = grind (arith, common_steps);
  room = grind (arith, common_steps);
}

pub returns-clause-most : goal.returns-clause-most
returns-clause-most c = published_within _
