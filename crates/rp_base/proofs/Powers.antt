-- Powers of two up to 2 to the third.
use Rattle.std.proofs.Common.{◌≡◌, ℕ, zero, suc, ◌*◌, ◌%◌, ◌^◌, ◌<◌, ◌≤◌, refl, arith, lit≤}

-- a byte holds them as it shifts them
pub one_shifted : (level : ℕ) → level < 3 → (1 * 2 ^ level % 256 ≡ 2 ^ level) × (2 ^ level ≤ 4)
one_shifted zero low = (refl, lit≤ tt)
one_shifted (suc zero) low = (refl, lit≤ tt)
one_shifted (suc (suc zero)) low = (refl, lit≤ tt)
one_shifted (suc (suc (suc level))) low = absurd (omega arith)
