-- What a log shows with entries put behind it.
use Rattle.std.proofs.Common.{◌≡◌, ℕ, zero, suc, ◌+◌, ◌-◌, ◌<◌, ◌≤◌, min, List, [], ◌∷◌, ◌++◌, length, take, drop, refl, sym, ap, ◌∙◌, arith, length-append, length-take}
use Rattle.std.specs.Prelude.{slice_get}
use Rattle.std.specs.Option.{option_map}
use Rattle.std.proofs.lemmas.Grind.{common_steps}
use Rattle.rp_raftlog.specs.declared.entries.Entry.{Entry}
use Rattle.rp_raftlog.specs.LogState.{LogState, last_index, term_at, appended}

pub last_ahead : (log : LogState) (added : List Entry) → last_index (appended log added) ≡ last_index log + length added
last_ahead log added = omega (arith, length-append log.entries added)

get_left : {A : Type 0} (xs ys : List A) (i : ℕ) → i < length xs → slice_get (xs ++ ys) i ≡ slice_get xs i
get_left [] ys i lt = absurd (omega arith)
get_left (x ∷ xs) ys zero lt = refl
get_left (x ∷ xs) ys (suc i) lt = get_left xs ys i (omega arith)

get_right : {A : Type 0} (xs ys : List A) (i j : ℕ) → i ≡ length xs + j → slice_get (xs ++ ys) i ≡ slice_get ys j
get_right [] ys i j e = ap (slice_get ys) (e ∙ omega arith)
get_right (x ∷ xs) ys zero j e = absurd (omega arith)
get_right (x ∷ xs) ys (suc i) j e = get_right xs ys i j (omega arith)

-- an index that the log itself shows
pub term_held : (log : LogState) (added : List Entry) (index : ℕ) → index ≤ last_index log → term_at (appended log added) index ≡ term_at log index
term_held log added index le = grind (arith, common_steps, get_left log.entries added (index - log.base - 1))

-- an index among the entries behind it
pub term_added : (log : LogState) (added : List Entry) (index place : ℕ) → index ≡ last_index log + place + 1 → term_at (appended log added) index ≡ option_map (λ entry. entry.term) (slice_get added place)
term_added log added index place e = grind (arith, common_steps, get_right log.entries added (index - log.base - 1) place)

none_away : (n : ℕ) → n ≡ n - 0
none_away n = omega arith

nil_drop : {A : Type 0} (n : ℕ) → ◌≡◌ {A = List A} (drop n []) []
nil_drop zero = refl
nil_drop (suc n) = refl

nothing_less : (n : ℕ) → 0 ≡ 0 - n
nothing_less n = omega arith

drop_both : {A : Type 0} (k : ℕ) (xs ys : List A) → drop k (xs ++ ys) ≡ drop k xs ++ drop (k - length xs) ys
drop_both zero xs ys = ap (λ n. xs ++ drop n ys) (nothing_less (length xs))
drop_both (suc k) [] ys = ap (λ n. drop n ys) (none_away (suc k))
drop_both (suc k) (x ∷ xs) ys = drop_both k xs ys ∙ ap (λ n. drop k xs ++ drop n ys) (omega arith)

take_both : {A : Type 0} (m : ℕ) (xs ys : List A) → take m (xs ++ ys) ≡ take m xs ++ take (m - length xs) ys
take_both zero xs ys = ap (λ n. take n ys) (nothing_less (length xs))
take_both (suc m) [] ys = ap (λ n. take n ys) (none_away (suc m))
take_both (suc m) (x ∷ xs) ys = ap (λ z. x ∷ z) (take_both m xs ys ∙ ap (λ n. take m xs ++ take n ys) (omega arith))

one_more : (a b : ℕ) → min (suc a) (suc b) ≡ suc (min a b)
one_more a b = omega arith

none_of : (b : ℕ) → min 0 b ≡ 0
none_of b = omega arith

capped : {A : Type 0} (k : ℕ) (xs : List A) → drop (min k (length xs)) xs ≡ drop k xs
capped zero xs = ap (λ n. drop n xs) (none_of (length xs))
capped (suc k) [] = nil_drop (min (suc k) 0)
capped (suc k) (x ∷ xs) = ap (λ n. drop n (x ∷ xs)) (one_more k (length xs)) ∙ capped k xs

drop_most : {A : Type 0} (j k : ℕ) (xs : List A) → j ≡ min k (length xs) → drop j xs ≡ drop k xs
drop_most j k xs e = ap (λ n. drop n xs) e ∙ capped k xs

-- the front of a part of two lists: what the first gives, and then what the second does
pub front_of_part : {A : Type 0} (xs ys : List A) (from held most left skipped : ℕ) → held ≡ min from (length xs) → skipped ≡ from - length xs → left ≡ most - length (take most (drop held xs))
    → take most (drop held xs) ++ take left (drop skipped ys) ≡ take most (drop from (xs ++ ys))
front_of_part xs ys from held most left skipped h s l =
    ap (λ z. take most z ++ take left (drop skipped ys)) (drop_most held from xs h)
    ∙ ap (λ n. take most (drop from xs) ++ take left (drop n ys)) s
    ∙ ap (λ n. take most (drop from xs) ++ take n (drop (from - length xs) ys)) (l ∙ ap (λ z. most - length (take most z)) (drop_most held from xs h) ∙ omega (arith, length-take most (drop from xs)))
    ∙ sym (ap (take most) (drop_both from xs ys) ∙ take_both most (drop from xs) (drop (from - length xs) ys))
