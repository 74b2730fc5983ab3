-- The numbers of slots, each once: what an edit makes of them.
use Rattle.std.proofs.Common.{◌≡◌, ℕ, zero, suc, ◌+◌, ◌<◌, ◌≤◌, cond, ◌==◌, nat_lt, List, [], ◌∷◌, ◌++◌, length, get_or, take, drop, sym, ap, ◌∙◌, arith}
use Rattle.std.proofs.lemmas.Bool.Decides.{nat_tests}
use Rattle.std.proofs.lemmas.List.Sums.{sum_by-cons, sum_by-append, sum_by_push, sum_by-take-le, sum_by-insert, sum_by-remove}
use Rattle.std.specs.List.{count_by, insert, remove}
use Rattle.rp_slots.specs.Slots.{AreSlots}

-- how often a number stands among these
abbrev pub times : ℕ → List ℕ → ℕ
times i ks = count_by (λ k. k == i) ks

-- all numbers are below a bound
abbrev pub Below : ℕ → List ℕ → Type 0
Below n [] = Unit {0}
Below n (k ∷ ks) = (k < n) × Below n ks

itself : (k : ℕ) → ◌≡◌ {A = ℕ} (cond (k == k) 1 0) 1
itself k = grind (arith, nat_tests)

at_most : (k i : ℕ) → cond (k == i) 1 0 ≤ 1
at_most k i = grind (arith, nat_tests)

some_low : (k n c : ℕ) → 1 + c ≤ cond (nat_lt k n) 1 0 → k < n
some_low k n c h = grind (arith, nat_tests)

-- numbers that stand no oftener than those of slots are below
below_by : (n : ℕ) (ks : List ℕ) → ((i : ℕ) → times i ks ≤ cond (nat_lt i n) 1 0) → Below n ks
below_by n [] h = tt
below_by n (k ∷ ks) h = (
  some_low k n (times k ks) (let e = sum_by-cons (λ x. cond (x == k) 1 0) k ks in let o = itself k in let m = h k in omega arith),
  below_by n ks (λ i. let e = sum_by-cons (λ x. cond (x == i) 1 0) k ks in let m = h i in omega arith),
)

pub below : (n : ℕ) (ks : List ℕ) → AreSlots n ks → Below n ks
below n ks h = below_by n ks (λ i. let e = h i in omega arith)

pub below_take : (n m : ℕ) (ks : List ℕ) → Below n ks → Below n (take m ks)
below_take n zero ks h = tt
below_take n (suc m) [] h = tt
below_take n (suc m) (k ∷ ks) h = (h.0, below_take n m ks h.1)

pub below_drop : (n m : ℕ) (ks : List ℕ) → Below n ks → Below n (drop m ks)
below_drop n zero ks h = h
below_drop n (suc m) [] h = tt
below_drop n (suc m) (k ∷ ks) h = below_drop n m ks h.1

pub below_at : (n : ℕ) (ks : List ℕ) (m d : ℕ) → Below n ks → m < length ks → get_or ks m d < n
below_at n [] m d h l = absurd (omega arith)
below_at n (k ∷ ks) zero d h l = h.0
below_at n (k ∷ ks) (suc m) d h l = below_at n ks m d h.1 (omega arith)

pub below_front : (n : ℕ) (ks js : List ℕ) → Below n (ks ++ js) → Below n ks
below_front n [] js h = tt
below_front n (k ∷ ks) js h = (h.0, below_front n ks js h.1)

-- a number stands at most once
pub at_most_once : (n : ℕ) (ks : List ℕ) (s : ℕ) → AreSlots n ks → times s ks ≤ 1
at_most_once n ks s h = let e = h s in let l = some s n in omega arith where
  some : (s n : ℕ) → cond (nat_lt s n) 1 0 ≤ 1
  some s n = grind (arith, nat_tests)

-- so one that stands at a place stands nowhere else
pub alone : (ks : List ℕ) (m s : ℕ) → times s ks ≤ 1 → m < length ks → s ≡ get_or ks m s → (times s (take m ks) ≡ 0) × (times s (drop (suc m) ks) ≡ 0)
alone ks m s h l is =
    let e = sum_by-remove (λ x. cond (x == s) 1 0) ks m s l in
    let o : ◌≡◌ {A = ℕ} (cond (get_or ks m s == s) 1 0) 1 = ap (λ k. cond (k == s) 1 0) (sym is) ∙ itself s in
    let f = sum_by-append (λ x. cond (x == s) 1 0) (take m ks) (drop (suc m) ks) in
    (omega arith, omega arith)

pub none_take : (s m : ℕ) (ks : List ℕ) → times s ks ≡ 0 → times s (take m ks) ≡ 0
none_take s m ks h = let l = sum_by-take-le (λ x. cond (x == s) 1 0) ks m in omega arith

-- a number behind the others is none of them
pub last_once : (n : ℕ) (ks : List ℕ) (s : ℕ) → AreSlots n (ks ++ s ∷ []) → times s ks ≡ 0
last_once n ks s h =
    let e = sum_by_push (λ x. cond (x == s) 1 0) ks s in
    let o = itself s in
    let t = h s in
    let most : cond (nat_lt s n) 1 0 ≤ 1 = grind (arith, nat_tests) in
    omega arith

pub last_below : (n : ℕ) (ks : List ℕ) (s : ℕ) → AreSlots n (ks ++ s ∷ []) → s < n
last_below n ks s h =
    some_low s n (times s ks) (let e = sum_by_push (λ x. cond (x == s) 1 0) ks s in let o = itself s in let t = h s in omega arith)

-- a new number
one_more : (i n : ℕ) → cond (nat_lt i n) 1 0 + cond (n == i) 1 0 ≡ cond (nat_lt i (n + 1)) 1 0
one_more i n = grind (arith, nat_tests)

pub slots_new : (n : ℕ) (ks : List ℕ) (p : ℕ) → AreSlots n ks → AreSlots (n + 1) (insert ks p n)
slots_new n ks p h i = sum_by-insert (λ x. cond (x == i) 1 0) ks p n ∙ ap (λ c. c + cond (n == i) 1 0) (h i) ∙ one_more i n

-- the last number goes to a place
pub slots_taken : (n : ℕ) (ks : List ℕ) (s p : ℕ) → AreSlots n (ks ++ s ∷ []) → AreSlots n (insert ks p s)
slots_taken n ks s p h i =
    sum_by-insert (λ x. cond (x == i) 1 0) ks p s ∙ sym (sum_by_push (λ x. cond (x == i) 1 0) ks s) ∙ h i

-- the number at a place goes to the end
pub slots_freed : (n : ℕ) (ks : List ℕ) (p s : ℕ) → AreSlots n ks → p < length ks → s ≡ get_or ks p s → AreSlots n (remove ks p ++ s ∷ [])
slots_freed n ks p s h l e i =
    sum_by_push (λ x. cond (x == i) 1 0) (remove ks p) s
    ∙ ap (λ k. times i (remove ks p) + cond (k == i) 1 0) e
    ∙ sum_by-remove (λ x. cond (x == i) 1 0) ks p s l ∙ h i
