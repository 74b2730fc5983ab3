-- How many commands each client has.
use Rattle.std.proofs.Common.{ℕ, ◌≤◌, zero, suc, replicate, slice_index, arith}

-- at first no client has any
pub none_sent : (n k : ℕ) → slice_index (replicate n 0) k ≤ 0
none_sent zero k = omega arith
none_sent (suc n) zero = omega arith
none_sent (suc n) (suc k) = none_sent n k
