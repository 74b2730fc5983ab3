-- Places of lists.
use Rattle.std.proofs.Common.{◌≡◌, ℕ, zero, suc, ◌-◌, Option, None, Some, List, [], ◌∷◌, map, set, refl, sym, ap, ◌∙◌, slice_get, slice_index_or}
use Rattle.std.specs.Option.{option_map}

pub get_map : {A B : Type 0} (f : A → B) (xs : List A) (i : ℕ) (x : A) → slice_get xs i ≡ Some x → slice_get (map f xs) i ≡ Some (f x)
get_map f [] i x e = absurd cc
get_map f (y ∷ xs) zero x e = ap (option_map f) e
get_map f (y ∷ xs) (suc i) x e = get_map f xs i x e

pub set_stays : {A : Type 0} (xs : List A) (i : ℕ) (x : A) → slice_get xs i ≡ Some x → set xs i x ≡ xs
set_stays [] i x e = refl
set_stays {A} (y ∷ xs) zero x e = go x e where
  go : (x : A) → ◌≡◌ {A = Option A} (Some y) (Some x) → x ∷ xs ≡ y ∷ xs
  go x e = cc
set_stays (y ∷ xs) (suc i) x e = ap (λ l. y ∷ l) (set_stays xs i x e)

pub index_of : {A : Type 0} (xs : List A) (i : ℕ) (x d : A) → slice_get xs i ≡ Some x → slice_index_or xs i d ≡ x
index_of [] i x d e = absurd cc
index_of {A} (y ∷ xs) zero x d e = go x e where
  go : (x : A) → ◌≡◌ {A = Option A} (Some y) (Some x) → y ≡ x
  go x e = cc
index_of (y ∷ xs) (suc i) x d e = index_of xs i x d e
