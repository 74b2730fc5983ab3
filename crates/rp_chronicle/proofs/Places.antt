-- What stands where in a list that was joined, cut or written over.
use Rattle.std.proofs.Common.{◌≡◌, ℕ, zero, suc, ◌+◌, ◌<◌, ◌≤◌, Option, None, Some, List, [], ◌∷◌, ◌++◌, length, take, drop, refl, sym, ap, ◌∙◌, arith}
use Rattle.std.specs.Prelude.{Contains, slice_get}
use Rattle.std.proofs.lemmas.List.{length-append, length-drop, length-take-le}
use Rattle.std.proofs.lemmas.Option.{get_or_from_slice_get, slice_get_within}
use Rattle.rp_request.specs.declared.items.Record.{Record}
use Rattle.rp_chronicle.specs.Filling.{pasted}

pub some_is : {A : Type 0} (a b : A) → ◌≡◌ {A = Option A} (Some a) (Some b) → a ≡ b
some_is a b e = cc

pub get_inside : {X : Type 0} (xs : List X) (place : ℕ) → place < length xs → (x : X) × (slice_get xs place ≡ Some x)
get_inside [] place lt = absurd (omega (arith, lt))
get_inside (x ∷ xs) zero lt = (x, refl)
get_inside (x ∷ xs) (suc place) lt = get_inside xs place (omega (arith, lt))

pub get_past : {X : Type 0} (xs : List X) (place : ℕ) → length xs ≤ place → slice_get xs place ≡ None
get_past [] place le = refl
get_past (x ∷ xs) zero le = absurd (omega (arith, le))
get_past (x ∷ xs) (suc place) le = get_past xs place (omega (arith, le))

pub get_left : {X : Type 0} (xs ys : List X) (place : ℕ) → place < length xs → slice_get (xs ++ ys) place ≡ slice_get xs place
get_left [] ys place lt = absurd (omega (arith, lt))
get_left (x ∷ xs) ys zero lt = refl
get_left (x ∷ xs) ys (suc place) lt = get_left xs ys place (omega (arith, lt))

pub get_right : {X : Type 0} (xs ys : List X) (place : ℕ) → slice_get (xs ++ ys) (length xs + place) ≡ slice_get ys place
get_right [] ys place = ap (slice_get ys) (omega arith)
get_right (x ∷ xs) ys place = let same : length (x ∷ xs) + place ≡ suc (length xs + place) = omega arith in ap (slice_get (x ∷ (xs ++ ys))) same ∙ get_right xs ys place

get_take : {X : Type 0} (xs : List X) (n i : ℕ) → i < n → slice_get (take n xs) i ≡ slice_get xs i
get_take xs zero i lt = absurd (omega (arith, lt))
get_take [] (suc n) i lt = refl
get_take (x ∷ xs) (suc n) zero lt = refl
get_take (x ∷ xs) (suc n) (suc i) lt = get_take xs n i (omega (arith, lt))

get_drop : {X : Type 0} (xs : List X) (n i : ℕ) → slice_get (drop n xs) i ≡ slice_get xs (n + i)
get_drop xs zero i = ap (slice_get xs) (omega arith)
get_drop [] (suc n) i = refl
get_drop (x ∷ xs) (suc n) i = let same : suc n + i ≡ suc (n + i) = omega arith in get_drop xs n i ∙ ap (slice_get (x ∷ xs)) (sym same)

-- an element of a list stands at some place
pub placed : {X : Type 0} (xs : List X) (x : X) → Contains xs x → (place : ℕ) × (slice_get xs place ≡ Some x)
placed xs x c = let i = get_inside xs c.0 c.1 in (c.0, i.1 ∙ ap Some (sym (get_or_from_slice_get xs c.0 i.0 x i.1) ∙ c.2))

pub at_place : {X : Type 0} (xs : List X) (place : ℕ) (x : X) → slice_get xs place ≡ Some x → Contains xs x
at_place xs place x e = (place, slice_get_within xs place x e, get_or_from_slice_get xs place x x e)

pub same_places : {X : Type 0} (xs ys : List X) → length xs ≡ length ys → ((place : ℕ) → place < length ys → slice_get xs place ≡ slice_get ys place) → xs ≡ ys
same_places [] [] long h = refl
same_places [] (y ∷ ys) long h = absurd (omega (arith, long))
same_places (x ∷ xs) [] long h = absurd (omega (arith, long))
same_places (x ∷ xs) (y ∷ ys) long h =
    ap (λ z. z ∷ xs) (some_is x y (h 0 (omega arith)))
    ∙ ap (λ zs. y ∷ zs) (same_places xs ys (omega (arith, long)) (λ place lt. h (suc place) (omega (arith, lt))))

-- a list that was written over from a place on
module _ (at : ℕ) (piece records : List Record) (fits : at + length piece ≤ length records) where
  front_length : length (take at records) ≡ at
  front_length = length-take-le at records (omega (arith, fits))

  both_length : length (take at records ++ piece) ≡ at + length piece
  both_length = let one = length-append (take at records) piece in let two = front_length in omega (arith, one, two)

  pub pasted_length : length (pasted at piece records) ≡ length records
  pasted_length =
      let one = length-append (take at records ++ piece) (drop (at + length piece) records) in
      let two = both_length in
      let three = length-drop (at + length piece) records in
      omega (arith, one, two, three, fits)

  pub pasted_below : (place : ℕ) → place < at → slice_get (pasted at piece records) place ≡ slice_get records place
  pasted_below place lt =
      let both = both_length in
      let front = front_length in
      get_left (take at records ++ piece) (drop (at + length piece) records) place (omega (arith, both, lt))
      ∙ get_left (take at records) piece place (omega (arith, front, lt))
      ∙ get_take records at place lt

  pub pasted_inside : (place : ℕ) → place < length piece → slice_get (pasted at piece records) (at + place) ≡ slice_get piece place
  pasted_inside place lt =
      let both = both_length in
      let front = front_length in
      get_left (take at records ++ piece) (drop (at + length piece) records) (at + place) (omega (arith, both, lt))
      ∙ ap (λ n. slice_get (take at records ++ piece) (n + place)) (sym front)
      ∙ get_right (take at records) piece place

  pub pasted_above : (place : ℕ) → slice_get (pasted at piece records) (at + length piece + place) ≡ slice_get records (at + length piece + place)
  pasted_above place =
      ap (λ n. slice_get (pasted at piece records) (n + place)) (sym both_length)
      ∙ get_right (take at records ++ piece) (drop (at + length piece) records) place
      ∙ get_drop records (at + length piece) place
