-- The greatest number that passes a test, looked for from above.
use Rattle.std.proofs.Common.{◌≡◌, ℕ, zero, suc, ◌+◌, ◌<◌, ◌≤◌, max, Bool, true, false, cond, ap, ◌∙◌, arith}
use Rattle.rp_raftstep.specs.Step.{greatest}

greatest_at : (test : ℕ → Bool) (n : ℕ) (b : Bool) → test (suc n) ≡ b → greatest test (suc n) ≡ cond b (suc n) (greatest test n)
greatest_at test n b e = ap (λ z. cond z (suc n) (greatest test n)) e

-- what passes is the greatest
pub found : (test : ℕ → Bool) (commit n : ℕ) → commit < n → test n ≡ true → n ≡ max commit (greatest test n)
found test commit zero lt e = absurd (omega arith)
found test commit (suc n) lt e = omega (arith, greatest_at test n true e)

-- what does not pass is left behind
pub passed : (test : ℕ → Bool) (n m : ℕ) → n ≡ m + 1 → test n ≡ false → greatest test n ≡ greatest test m
passed test zero m same e = absurd (omega arith)
passed test (suc n) m same e = greatest_at test n false e ∙ ap (greatest test) (omega arith)

by_test : (b : Bool) (n k : ℕ) → k ≤ n → cond b (suc n) k ≤ suc n
by_test true n k le = omega arith
by_test false n k le = omega arith

greatest_le : (test : ℕ → Bool) (n : ℕ) → greatest test n ≤ n
greatest_le test zero = omega arith
greatest_le test (suc n) = by_test (test (suc n)) n (greatest test n) (greatest_le test n)

-- nothing above the commit index passes
pub ended : (test : ℕ → Bool) (commit n : ℕ) → n ≤ commit → commit ≡ max commit (greatest test n)
ended test commit n le = omega (arith, greatest_le test n)
