-- The greatest index that a majority has.
use Rattle.std.proofs.Common.{◌≡◌, ℕ, zero, suc, ◌+◌, ◌<◌, ◌≤◌, Bool, true, false, true≢false, cond, ◌&&◌, leb, eqb, List, [], ◌∷◌, sum, All, refl, sym, ap, subst, ◌∙◌, arith, eq-eqb, eqb-true, leb-true, leb-false, ltb-true, ⊎_elim, le_trans, ◌*◌, length, take, get_or}
use Rattle.std.specs.Prelude.{count_by}
use Rattle.std.proofs.lemmas.Bool.{cases_lt}
use Rattle.std.proofs.lemmas.List.Elements.{All-head, All-tail, All-more, All-weaker}
use Rattle.std.proofs.lemmas.List.Sums.{sum_by-cons}
use Rattle.rp_raftstep.specs.declared.heads.Head.{Head}
use Rattle.rp_raftstep.specs.RaftState.{is_majority}
use Rattle.rp_raftstep.specs.Step.{greatest}
use Rattle.rp_raft.specs.Plans.{at_least}
use Rattle.rp_raft.proofs.Greatest.{passed}

not_true : (b : Bool) → (b ≡ true → ⊥) → b ≡ false
not_true true h = absurd (h refl)
not_true false h = refl

abbrev bit : Bool → ℕ
bit b = cond b 1 0

-- what is at least an index is that index, or at least the next
bits : (i x : ℕ) (a b c : Bool) → leb i x ≡ a → leb (i + 1) x ≡ b → eqb x i ≡ c → bit a ≡ bit b + bit c
bits i x true true true ea eb ec = absurd (omega (arith, leb-true (i + 1) x eb, eqb-true x i ec))
bits i x true true false ea eb ec = refl
bits i x true false true ea eb ec = refl
bits i x true false false ea eb ec = absurd (true≢false (sym (eq-eqb x i (omega (arith, leb-true i x ea, leb-false (i + 1) x eb))) ∙ ec))
bits i x false true c ea eb ec = absurd (omega (arith, leb-false i x ea, leb-true (i + 1) x eb))
bits i x false false true ea eb ec = absurd (omega (arith, leb-false i x ea, eqb-true x i ec))
bits i x false false false ea eb ec = refl

step : (i : ℕ) (xs : List ℕ) → at_least i xs ≡ at_least (i + 1) xs + count_by (λ x. eqb x i) xs
step i [] = refl
step i (x ∷ xs) =
    omega (arith, sum_by-cons (λ y. cond (leb i y) 1 0) x xs, sum_by-cons (λ y. cond (leb (i + 1) y) 1 0) x xs, sum_by-cons (λ y. cond (eqb y i) 1 0) x xs, bits i x _ _ _ refl refl refl, step i xs)

no_bit : (i x : ℕ) (b : Bool) → leb i x ≡ b → x < i → bit b ≡ 0
no_bit i x true e h = absurd (omega (arith, leb-true i x e))
no_bit i x false e h = refl

-- nothing is above the sum of all
far : (i : ℕ) (xs : List ℕ) → sum xs < i → at_least i xs ≡ 0
far i [] h = refl
far i (x ∷ xs) h =
    let s = sum_by-cons (λ y. y) x xs in
    let b : bit (leb i x) ≡ 0 = no_bit i x _ refl (omega (arith, s)) in
    omega (arith, sum_by-cons (λ y. cond (leb i y) 1 0) x xs, b, far i xs (omega (arith, s)))

held_by : (P : ℕ → Type 0) (k x : ℕ) (xs : List ℕ) (b : Bool) → eqb x k ≡ b → P x → (0 < count_by (λ y. eqb y k) xs → P k) → 0 < count_by (λ y. eqb y k) (x ∷ xs) → P k
held_by P k x xs true e here rest h = subst P (eqb-true x k e) here
held_by P k x xs false e here rest h =
    let z : bit (eqb x k) ≡ 0 = ap bit e in
    rest (omega (arith, sum_by-cons (λ y. cond (eqb y k) 1 0) x xs))

-- what holds of each holds of one that is counted
held : (P : ℕ → Type 0) (k : ℕ) (xs : List ℕ) → All P xs → 0 < count_by (λ y. eqb y k) xs → P k
held P k [] a h = absurd (omega arith)
held P k (x ∷ xs) a h = held_by P k x xs _ refl (All-head P x xs a) (held P k xs (All-tail P x xs a)) h

-- one index down: none stands there, or it lies within the reach
above_by : (majority : ℕ → Bool) (xs : List ℕ) (reach index n : ℕ) → n ≡ count_by (λ x. eqb x index) xs
    → All (λ k. majority (at_least k xs) ≡ true → k ≤ reach) xs → reach < index → majority (at_least (index + 1) xs) ≡ false → majority (at_least index xs) ≡ false
above_by majority xs reach index zero e all past next =
    let same : at_least index xs ≡ at_least (index + 1) xs = omega (arith, step index xs) in
    ap majority same ∙ next
above_by majority xs reach index (suc n) e all past next =
    not_true (majority (at_least index xs)) (λ yes.
    let within : index ≤ reach = held (λ k. majority (at_least k xs) ≡ true → k ≤ reach) index xs all (omega arith) yes in
    omega arith)

above_in : (majority : ℕ → Bool) (xs : List ℕ) (reach : ℕ) → majority 0 ≡ false → All (λ k. majority (at_least k xs) ≡ true → k ≤ reach) xs
    → (d index : ℕ) → sum xs < index + d → reach < index → majority (at_least index xs) ≡ false
above_in majority xs reach none all zero index wide past = ap majority (far index xs (omega arith)) ∙ none
above_in majority xs reach none all (suc d) index wide past =
    above_by majority xs reach index _ refl all past (above_in majority xs reach none all d (index + 1) (omega arith) (omega arith))

-- above what the table's own indexes reach, no index is on a majority
pub above : (majority : ℕ → Bool) (xs : List ℕ) (reach : ℕ) → majority 0 ≡ false → All (λ k. majority (at_least k xs) ≡ true → k ≤ reach) xs
    → (index : ℕ) → reach < index → majority (at_least index xs) ≡ false
above majority xs reach none all index past = above_in majority xs reach none all (sum xs + 1) index (omega arith) past

pub and_false : (a b : Bool) → b ≡ false → a && b ≡ false
and_false true b e = e
and_false false b e = refl

-- what lies above a bound, where nothing passes, need not be looked at
pub lower : (test : ℕ → Bool) (n m : ℕ) → m ≤ n → ((i : ℕ) → m < i → i ≤ n → test i ≡ false) → greatest test n ≡ greatest test m
lower test zero m le h =
    let e : 0 ≡ m = omega arith in
    ap (greatest test) e
lower test (suc n) m le h =
    ⊎_elim (λ (less : m < suc n). passed test (suc n) n (omega arith) (h (suc n) less (omega arith)) ∙ lower test n m (omega arith) (λ i a b. h i a (omega arith)))
    (λ (most : suc n ≤ m). let e : suc n ≡ m = omega arith in ap (greatest test) e) (cases_lt m (suc n))

pub no_majority : (head : Head) → is_majority head 0 ≡ false
no_majority head = not_true (is_majority head 0) (λ t. omega (arith, ltb-true head.nodes (2 * 0) t))

-- one index of the table more
pub more : (majority : ℕ → Bool) (xs : List ℕ) (reach next i d : ℕ) → i < length xs → All (λ k. majority (at_least k xs) ≡ true → k ≤ reach) (take i xs)
    → reach ≤ next → (majority (at_least (get_or xs i d) xs) ≡ true → get_or xs i d ≤ next)
    → All (λ k. majority (at_least k xs) ≡ true → k ≤ next) (take (i + 1) xs)
more majority xs reach next i d lt old le here =
    All-more (λ k. majority (at_least k xs) ≡ true → k ≤ next) xs i d lt
    (All-weaker (λ k. majority (at_least k xs) ≡ true → k ≤ reach) (λ k. majority (at_least k xs) ≡ true → k ≤ next)
    (λ k h yes. le_trans (h yes) le) (take i xs) old)
    here
