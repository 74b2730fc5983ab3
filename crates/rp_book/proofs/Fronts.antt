-- How many messages in front were handled, as one more is.
use Rattle.std.proofs.Common.{◌≡◌, ℕ, zero, suc, ◌+◌, ◌-◌, ◌≤◌, ◌<◌, Bool, true, false, List, [], ◌∷◌, ◌++◌, length, drop, take, replicate, refl, sym, ap, ◌∙◌, arith}
use Rattle.std.specs.Prelude.{slice_set}
use Rattle.std.specs.List.{prefix_len}
use Rattle.std.proofs.lemmas.List.{length-drop}
use Rattle.std.proofs.lemmas.List.Sums.{prefix_len-le-length}
use Rattle.rp_book.specs.Handling.{handled, padded}

-- what was handled in front still is
pub Keeps : List Bool → List Bool → Type 0
Keeps [] after = Unit {0}
Keeps (false ∷ before) after = Unit {0}
Keeps (true ∷ before) [] = ⊥
Keeps (true ∷ before) (f ∷ after) = (f ≡ true) × Keeps before after

abbrev front : List Bool → ℕ
front flags = prefix_len (λ was. was) flags

drop_one : (n : ℕ) (x : Bool) (xs : List Bool) → drop (1 + n) (x ∷ xs) ≡ drop n xs
drop_one n x xs = ap (λ k. drop k (x ∷ xs)) (let e : 1 + n ≡ suc n = omega arith in e)

pub front_on : (before after : List Bool) → Keeps before after → front after ≡ front before + front (drop (front before) after)
unfolding Keeps
front_on [] after k = omega arith
front_on (false ∷ before) after k = omega arith
front_on (true ∷ before) [] k = absurd k
front_on (true ∷ before) (true ∷ after) k =
    let more = front_on before after k.1 in
    let fewer : drop (1 + front before) (true ∷ after) ≡ drop (front before) after = drop_one (front before) true after in
    let rest : front (drop (1 + front before) (true ∷ after)) ≡ front (drop (front before) after) = ap front fewer in
    omega (arith, more, rest)
front_on (true ∷ before) (false ∷ after) k = absurd (let clash : false ≡ true = k.0 in cc)

pub front_within : (before after : List Bool) → Keeps before after → front before ≤ length after
unfolding Keeps
front_within [] after k = omega arith
front_within (false ∷ before) after k = omega arith
front_within (true ∷ before) [] k = absurd k
front_within (true ∷ before) (f ∷ after) k = let more = front_within before after k.1 in omega (arith, more)

length-take-le : {X : Type 0} (k : ℕ) (xs : List X) → length (take k xs) ≤ length xs
length-take-le zero xs = omega arith
length-take-le (suc k) [] = omega arith
length-take-le (suc k) (x ∷ xs) = let more = length-take-le k xs in omega (arith, more)

keeps_longer : (before more : List Bool) → Keeps before (before ++ more)
unfolding Keeps
keeps_longer [] more = tt
keeps_longer (false ∷ before) more = tt
keeps_longer (true ∷ before) more = (refl, keeps_longer before more)

keeps_set : (before after : List Bool) (i : ℕ) → Keeps before after → Keeps before (slice_set after i true)
unfolding Keeps
keeps_set [] after i k = tt
keeps_set (false ∷ before) after i k = tt
keeps_set (true ∷ before) [] i k = absurd k
keeps_set (true ∷ before) (f ∷ after) zero k = (refl, k.1)
keeps_set (true ∷ before) (f ∷ after) (suc i) k = (k.0, keeps_set before after i k.1)

pub keeps_handled : (number : ℕ) (before : List Bool) → Keeps before (handled number before)
keeps_handled number before = keeps_set before (padded number before) (number - 1) (keeps_longer before (replicate (number - length before) false))

-- both at the call that counts on
pub within_handled : (number : ℕ) (before after : List Bool) (n : ℕ) → n ≡ front before → after ≡ handled number before → n ≤ length after
within_handled number before after n is new =
    let le : front before ≤ length (handled number before) = front_within before (handled number before) (keeps_handled number before) in
    let same : length after ≡ length (handled number before) = ap length new in
    omega (arith, le, same, is)

pub front_handled : (number : ℕ) (before after : List Bool) (n : ℕ) → n ≡ front before → after ≡ handled number before → n + front (drop n after) ≡ front after
front_handled number before after n is new =
    ap (λ k. k + front (drop k after)) is
    ∙ ap (λ l. front before + front (drop (front before) l)) new
    ∙ sym (front_on before (handled number before) (keeps_handled number before))
    ∙ ap front (sym new)

pub front_length : (flags : List Bool) (n : ℕ) → n ≡ front flags → n ≤ length flags
front_length flags n is = let few : front flags ≤ length flags = prefix_len-le-length (λ was. was) flags in omega (arith, few, is)

pub sum_fits : (flags : List Bool) (n more k : ℕ) → n ≤ length flags → more ≡ front (take k (drop n flags)) → length flags < 18446744073709551616 → n + more < 18446744073709551616
sum_fits flags n more k le is small =
    let few : front (take k (drop n flags)) ≤ length (take k (drop n flags)) = prefix_len-le-length (λ was. was) (take k (drop n flags)) in
    let cut : length (take k (drop n flags)) ≤ length (drop n flags) = length-take-le k (drop n flags) in
    let left : length (drop n flags) ≡ length flags - n = length-drop n flags in
    omega (arith, le, few, cut, left, is, small)
