use Rattle.std.proofs.Common.{refl}
use Rattle.rp_told.proofs.laws.nodes_and_buffers_change_apart.Goals as goal
use Rattle.rp_told.proofs.Looking.{skipped, taken, other_buffers, these_buffers}

pub returns : goal.returns
returns c = record {
  skipped = skipped;
  taken = taken;
  buffers = λ b node what. refl;
  nodes = λ b node range change. refl;
  others = other_buffers;
  here = these_buffers;
}
