use Rattle.std.proofs.Common.{◌≡◌, take}
use Rattle.rp_world.specs.Weighing.{capped, load}
use Rattle.rp_world.proofs.weights.sent_weight.Given as goal

-- the weight so far
abbrev pub invariant-loop-parcel : goal.invariant-loop-parcel
invariant-loop-parcel l = l.weight ≡ capped (load (take l.parcel-index l.sent))
