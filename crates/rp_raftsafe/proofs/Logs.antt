-- Whole logs: the terms of their entries, and that two of them agree up to a place.
use Rattle.std.proofs.Common.{◌≡◌, ℕ, zero, suc, ◌<◌, ◌≤◌, List, [], ◌∷◌, ◌++◌, length, take, get_or, refl, sym, ap, subst, ◌∙◌, arith, take-take, get_or-take, length-take, ⊎_elim}
use Rattle.std.proofs.lemmas.Bool.{cases_lt, cases_eq}
use Rattle.std.proofs.lemmas.List.{get_or_past, get_or_append_left, get_or_push, take-append-le, length_push, take_all}
use Rattle.rp_raftlog.specs.declared.entries.Entry.{Entry}

-- what stands past the end
abbrev pub no_entry : Entry
no_entry = record { term = 0; payload = [] }

-- the term at a place, from 0; 0 past the end
abbrev pub tm : List Entry → ℕ → ℕ
tm xs j = (get_or xs j no_entry).term

-- the term at an index, from 1; 0 at the index 0
abbrev pub term_in : List Entry → ℕ → ℕ
term_in xs zero = 0
term_in xs (suc j) = tm xs j

-- the last term, or 0
abbrev pub last_tm : List Entry → ℕ
last_tm xs = term_in xs (length xs)

pub same_less : (k m : ℕ) (xs ys : List Entry) → k ≤ m → take m xs ≡ take m ys → take k xs ≡ take k ys
same_less k m xs ys le e = sym (take-take k m xs le) ∙ ap (take k) e ∙ take-take k m ys le

pub same_length : (k : ℕ) (xs ys : List Entry) → k ≤ length xs → take k xs ≡ take k ys → k ≤ length ys
same_length k xs ys le e = omega (arith, ap length e, length-take k xs, length-take k ys)

pub same_get : (j k : ℕ) (xs ys : List Entry) → j < k → take k xs ≡ take k ys → get_or xs j no_entry ≡ get_or ys j no_entry
same_get j k xs ys lt e = sym (get_or-take k xs j no_entry lt) ∙ ap (λ z. get_or z j no_entry) e ∙ get_or-take k ys j no_entry lt

pub same_tm : (j k : ℕ) (xs ys : List Entry) → j < k → take k xs ≡ take k ys → tm xs j ≡ tm ys j
same_tm j k xs ys lt e = ap (λ z. z.term) (same_get j k xs ys lt e)

pub same_term_in : (j k : ℕ) (xs ys : List Entry) → j ≤ k → take k xs ≡ take k ys → term_in xs j ≡ term_in ys j
same_term_in zero k xs ys le e = refl
same_term_in (suc j) k xs ys le e = same_tm j k xs ys (omega arith) e

-- terms up to a bound, after one more entry
pub tm_push : (xs : List Entry) (e : Entry) (t : ℕ) → ((j : ℕ) → tm xs j ≤ t) → e.term ≤ t → (j : ℕ) → tm (xs ++ e ∷ []) j ≤ t
tm_push xs e t old new j =
    ⊎_elim
    (λ lt. subst (λ z. z.term ≤ t) (sym (get_or_append_left xs (e ∷ []) no_entry j lt)) (old j))
    (λ le.
    ⊎_elim
    (λ same. subst (λ z. z.term ≤ t) (sym (get_or_push xs e no_entry j (sym same))) new)
    (λ ne. subst (λ z. z.term ≤ t) (sym (get_or_past (xs ++ e ∷ []) j no_entry (omega (arith, length_push xs e)))) (omega arith))
    (cases_eq j (length xs)))
    (cases_lt j (length xs))

pub tm_past : (xs : List Entry) (j : ℕ) → length xs ≤ j → tm xs j ≡ 0
tm_past xs j le = ap (λ z. z.term) (get_or_past xs j no_entry le)

-- each front of xs that ends with an entry of term t is a front of the log of the leader of t
abbrev pub Good : (ℕ → List Entry) → List Entry → Type 0
Good llog xs = (j : ℕ) → j < length xs → take (suc j) xs ≡ take (suc j) (llog (tm xs j))

-- two logs that have one term at a place are the same up to it
pub logs_match : (llog : ℕ → List Entry) (xs ys : List Entry) (j : ℕ) → Good llog xs → Good llog ys → j < length xs → j < length ys → tm xs j ≡ tm ys j → take (suc j) xs ≡ take (suc j) ys
logs_match llog xs ys j gx gy lx ly e = gx j lx ∙ ap (λ t. take (suc j) (llog t)) e ∙ sym (gy j ly)

-- the leaders' logs are extended
abbrev pub Longer : (ℕ → List Entry) → (ℕ → List Entry) → Type 0
Longer f g = (t : ℕ) → take (length (f t)) (g t) ≡ f t

pub longer_take : (xs ys : List Entry) (k : ℕ) → take (length xs) ys ≡ xs → k ≤ length xs → take k ys ≡ take k xs
longer_take xs ys k e le = sym (take-take k (length xs) ys le) ∙ ap (take k) e

pub longer_length : (xs ys : List Entry) → take (length xs) ys ≡ xs → length xs ≤ length ys
longer_length xs ys e = omega (arith, ap length e, length-take (length xs) ys)

pub good_more : (f g : ℕ → List Entry) (xs : List Entry) → Longer f g → Good f xs → Good g xs
good_more f g xs more good j lt =
    let t : ℕ = tm xs j in
    let within : suc j ≤ length (f t) = same_length (suc j) xs (f t) (omega arith) (good j lt) in
    good j lt ∙ sym (longer_take (f t) (g t) (suc j) (more t) within)

-- xs with an entry of term t behind it, where it is then all of the leader's log of that term
pub good_push : (f g : ℕ → List Entry) (xs : List Entry) (e : Entry) → Longer f g → Good f xs → g e.term ≡ xs ++ e ∷ [] → Good g (xs ++ e ∷ [])
good_push f g xs e more good all j lt =
    ⊎_elim
    (λ (old : j < length xs).
    let front : take (suc j) (xs ++ e ∷ []) ≡ take (suc j) xs = take-append-le (suc j) xs (e ∷ []) (omega arith) in
    let same : tm (xs ++ e ∷ []) j ≡ tm xs j = ap (λ z. z.term) (get_or_append_left xs (e ∷ []) no_entry j old) in
    front ∙ good_more f g xs more good j old ∙ ap (λ t. take (suc j) (g t)) (sym same))
    (λ (le : length xs ≤ j).
    let at : length xs ≡ j = omega (arith, length_push xs e) in
    let same : tm (xs ++ e ∷ []) j ≡ e.term = ap (λ z. z.term) (get_or_push xs e no_entry j at) in
    ap (take (suc j)) (sym all) ∙ ap (λ t. take (suc j) (g t)) (sym same))
    (cases_lt j (length xs))

pub longer_refl : (xs : List Entry) → take (length xs) xs ≡ xs
longer_refl xs = take_all (length xs) xs (omega arith)

pub longer_push : (xs : List Entry) (e : Entry) → take (length xs) (xs ++ e ∷ []) ≡ xs
longer_push xs e = take-append-le (length xs) xs (e ∷ []) (omega arith) ∙ longer_refl xs

-- a log that ends with an entry is a front of the log of that entry's leader
pub whole_front : (llog : ℕ → List Entry) (xs : List Entry) → Good llog xs → take (length xs) xs ≡ take (length xs) (llog (last_tm xs))
whole_front llog xs good = front (length xs) refl
  where
    front : (k : ℕ) → k ≡ length xs → take k xs ≡ take k (llog (term_in xs k))
    front zero e = refl
    front (suc k) e = good k (omega arith)
