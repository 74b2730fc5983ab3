-- Tests by cases. What std has is not here: its `lemmas.Bool` has and_from, and_parts, and_cases, or_left,
-- or_right, or_from, or_parts, not-true, eqb-true, eq-eqb and eqb-false, and its `Math.Bool` or-false.
use Rattle.std.proofs.Common.{◌≡◌, ℕ, ◌==◌, ◌||◌, Bool, true, false, cond, IsTrue, Result, refl, arith}
use Rattle.std.specs.Prelude.{IfOk}
use Rattle.std.proofs.lemmas.Bool.Decides.{nat_tests}

pub false_true : false ≡ true → ⊥
false_true h = cc

-- by the test that passes
pub either_way : {P : Type 0} (a b : Bool) → IsTrue (a || b) → (IsTrue a → P) → (IsTrue b → P) → P
either_way true b h l r = l refl
either_way false b h l r = r h

-- a number is itself, and one of two that it is
pub number_itself : (k : ℕ) → IsTrue (k == k)
number_itself k = grind (arith, nat_tests)

pub number_first : (k l : ℕ) → IsTrue (k == k || k == l)
number_first k l = grind (arith, nat_tests)

pub number_second : (k l : ℕ) → IsTrue (l == k || l == l)
number_second k l = grind (arith, nat_tests)

-- a result chosen by a test
pub ok_either : {X E : Type 0} (P : X → Type 0) (b : Bool) (x y : Result X E) → IfOk x P → IfOk y P → IfOk (cond b x y) P
ok_either P true x y h k = h
ok_either P false x y h k = k
