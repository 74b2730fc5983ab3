-- Odd words by their bytes.
use Rattle.std.proofs.Common.{◌≡◌, ℕ, ◌==◌, ◌&&◌, ◌||◌, Bool, true, false, nat_lt, List, [], ◌∷◌, length, refl, arith}
use Rattle.std.proofs.lemmas.Bool.Decides.{nat_tests}
use Rattle.std.specs.Prelude.{not, slice_index, if◌then◌else◌}
use Rattle.rp_words.specs.Words.{Text, is_odd, named, behind_hyphen}

abbrev pub odd_at : Text → Bool
odd_at w = if nat_lt (length w) 1 || not (slice_index w 0 == 45) then false else (nat_lt (length w) 3 || not (slice_index w 1 == 45))

-- three bytes or more
many_at : (x y z : ℕ) (zs : Text) (b : Bool) → (x == 45) ≡ b → (c : Bool) → (y == 45) ≡ c → is_odd (x ∷ y ∷ z ∷ zs) ≡ odd_at (x ∷ y ∷ z ∷ zs)
many_at x y z zs b e c f =
    let some : nat_lt (length (x ∷ y ∷ z ∷ zs)) 1 ≡ false = grind (arith, nat_tests) in
    let more : nat_lt (length (x ∷ y ∷ z ∷ zs)) 3 ≡ false = grind (arith, nat_tests) in
    first b e c f some more
  where
    first : (b : Bool) → (x == 45) ≡ b → (c : Bool) → (y == 45) ≡ c → nat_lt (length (x ∷ y ∷ z ∷ zs)) 1 ≡ false → nat_lt (length (x ∷ y ∷ z ∷ zs)) 3 ≡ false
        → is_odd (x ∷ y ∷ z ∷ zs) ≡ odd_at (x ∷ y ∷ z ∷ zs)
    first false e c f some more = rw (e, some) refl
    first true e false f some more = rw (e, f, some, more) refl
    first true e true f some more = rw (e, f, some, more) refl

pub by_places : (w : Text) → is_odd w ≡ odd_at w
by_places [] = refl
by_places (x ∷ []) = go (x == 45) refl
  where
    go : (b : Bool) → (x == 45) ≡ b → is_odd (x ∷ []) ≡ odd_at (x ∷ [])
    go false e = rw e refl
    go true e = rw e refl
by_places (x ∷ y ∷ []) = go (x == 45) refl (y == 45) refl
  where
    go : (b : Bool) → (x == 45) ≡ b → (c : Bool) → (y == 45) ≡ c → is_odd (x ∷ y ∷ []) ≡ odd_at (x ∷ y ∷ [])
    go false e c f = rw e refl
    go true e false f = rw (e, f) refl
    go true e true f = rw (e, f) refl
by_places (x ∷ y ∷ z ∷ zs) = go (x == 45) refl (y == 45) refl
  where
    go : (b : Bool) → (x == 45) ≡ b → (c : Bool) → (y == 45) ≡ c → is_odd (x ∷ y ∷ z ∷ zs) ≡ odd_at (x ∷ y ∷ z ∷ zs)
    go false e c f = many_at x y z zs false e c f
    go true e c f = many_at x y z zs true e c f
