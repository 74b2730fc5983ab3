-- A request covers its own keys.
use Rattle.std.proofs.Common.{ℕ, ◌==◌, ◌||◌, IsTrue, arith}
use Rattle.std.proofs.lemmas.Bool.Decides.{nat_tests}

-- each key is itself
pub itself : (k : ℕ) → IsTrue (k == k)
itself k = grind (arith, nat_tests)

-- a move covers both its keys
pub covers_from : (from to : ℕ) → IsTrue (from == from || from == to)
covers_from from to = grind (arith, nat_tests)

pub covers_to : (from to : ℕ) → IsTrue (to == from || to == to)
covers_to from to = grind (arith, nat_tests)
