-- How a list is kept in slots.
use Rattle.std.specs.Prelude.{ℕ, ◌≡◌, ◌==◌, nat_lt, cond, List, [], ◌∷◌, ◌++◌, take, drop}
use Rattle.std.specs.List.{count_by}

-- what the slots of these numbers hold, in the order of the numbers
abbrev pub shown : {X : Type 0} → List X → List ℕ → List X
shown items [] = []
shown items (k ∷ ks) = take 1 (drop k items) ++ shown items ks

-- these are the numbers of n slots, each once
abbrev pub AreSlots : ℕ → List ℕ → Type 0
AreSlots n ks = (i : ℕ) → count_by (λ k. k == i) ks ≡ cond (nat_lt i n) 1 0
