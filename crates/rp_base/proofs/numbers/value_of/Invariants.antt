use Rattle.std.proofs.Common.{◌≡◌, ◌<◌, ◌^◌, take}
use Rattle.rp_base.specs.Numbers.{number_of}
use Rattle.rp_base.proofs.numbers.value_of.Given as goal

abbrev pub invariant-loop-byte : goal.invariant-loop-byte
invariant-loop-byte l = (l.number ≡ number_of (take l.byte-index l.digits)) × (l.number < 2 ^ 64)
