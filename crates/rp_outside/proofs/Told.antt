-- How what devices tell of several calls joins to one telling.
use Rattle.std.proofs.Common.{ℕ, ◌+◌, ◌≤◌, List, [], ◌++◌, take, length, Option, Some, None, refl, ap, sym, ◌∙◌, append_assoc, arith}
use Rattle.std.proofs.lemmas.List.{append-nil}
use Rattle.std.proofs.Math.Seq.{take-length, take-append-add}
use Rattle.rp_outside.specs.Devices.{Rose, Comes, IsAtEnd, IsAll, Adds, AddsFront}

-- no bytes came
pub comes_none : (a : Option (List ℕ)) → Comes a [] a
comes_none (Some old) = refl
comes_none None = tt

-- bytes came, and then more
pub comes_more : (a b c : Option (List ℕ)) (xs ys : List ℕ) → Comes a xs b → Comes b ys c → Comes a (xs ++ ys) c
comes_more (Some old) (Some mid) (Some new) xs ys first second = first ∙ ap (λ m. xs ++ m) second ∙ sym (append_assoc xs ys new)
comes_more (Some old) (Some mid) None xs ys first second = absurd second
comes_more (Some old) None c xs ys first second = absurd first
comes_more None b c xs ys first second = tt

-- what came up to the end is all
pub came_all : (a b : Option (List ℕ)) (xs : List ℕ) → Comes a xs b → IsAtEnd b → IsAll a xs
came_all (Some old) (Some new) xs comes at_end = sym (comes ∙ ap (λ m. xs ++ m) at_end ∙ append-nil xs)
came_all (Some old) None xs comes at_end = absurd comes
came_all None b xs comes at_end = tt

-- what came is a front of all
pub came_front : (a b : Option (List ℕ)) (xs : List ℕ) → Comes a xs b → (rest : List ℕ) × IsAll a (xs ++ rest)
came_front (Some old) (Some new) xs comes = (new, sym comes)
came_front (Some old) None xs comes = absurd comes
came_front None b xs comes = ([], tt)

-- no bytes were added
pub adds_none : (a : Option (List ℕ)) → Adds a [] a
adds_none (Some old) = sym (append-nil old)
adds_none None = tt

-- bytes were added, and then more
pub adds_more : (a b c : Option (List ℕ)) (xs ys : List ℕ) → Adds a xs b → Adds b ys c → Adds a (xs ++ ys) c
adds_more (Some old) (Some mid) (Some new) xs ys first second = second ∙ ap (λ m. m ++ ys) first ∙ append_assoc old xs ys
adds_more None (Some mid) c xs ys first second = absurd first
adds_more a None (Some new) xs ys first second = absurd second
adds_more a b None xs ys first second = tt

-- all of the bytes are a front of them
pub adds_front : (a b : Option (List ℕ)) (xs : List ℕ) → Adds a xs b → AddsFront a xs b
adds_front a b xs adds = (length xs, rw (take-length xs) adds)

-- none of the bytes is a front of them
pub adds_front_none : (a b : Option (List ℕ)) (xs : List ℕ) → Adds a [] b → AddsFront a xs b
adds_front_none a b xs adds = (0, adds)

-- bytes were added, and then a front of more
pub adds_front_more : (a b c : Option (List ℕ)) (xs ys : List ℕ) → Adds a xs b → AddsFront b ys c → AddsFront a (xs ++ ys) c
adds_front_more a b c xs ys first second =
    (length xs + second.0, rw (take-append-add xs ys second.0) (adds_more a b c xs (take second.0 ys) first second.1))

-- a count that rose stays risen
pub rose_later : (a b c : ℕ) → Rose a b → b ≤ c → Rose a c
rose_later a b c rose later = omega arith

-- a count that rose has risen from each earlier state too
pub rose_earlier : (a b c : ℕ) → a ≤ b → Rose b c → Rose a c
rose_earlier a b c earlier rose = omega arith
