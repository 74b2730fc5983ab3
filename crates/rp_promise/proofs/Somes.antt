-- Two values that are there are one where the options are.
use Rattle.std.proofs.Common.{◌≡◌, Option, Some}

pub some_is : {A : Type 0} (a b : A) → ◌≡◌ {A = Option A} (Some a) (Some b) → a ≡ b
some_is a b e = cc
