-- What a call of a device does to the bytes that it tells of, and to its count of faults.
use Rattle.std.specs.Prelude.{◌≡◌, ℕ, ◌+◌, ◌-◌, ◌^◌, ◌≤◌, min, List, [], ◌++◌, take, Option, Some, None}

-- a count rose, or stands at its type's end
abbrev pub Rose : ℕ → ℕ → Type 0
Rose before now = min (before + 1) (2 ^ 64 - 1) ≤ now

-- these bytes came, and the rest is left, where that is told
abbrev pub Comes : Option (List ℕ) → List ℕ → Option (List ℕ) → Type 0
Comes (Some old) bytes (Some new) = old ≡ bytes ++ new
Comes (Some old) bytes None = ⊥
Comes None bytes new = Unit {0}

-- nothing is left, where that is told
abbrev pub IsAtEnd : Option (List ℕ) → Type 0
IsAtEnd (Some left) = left ≡ []
IsAtEnd None = Unit {0}

-- these bytes are all that was left, where that is told
abbrev pub IsAll : Option (List ℕ) → List ℕ → Type 0
IsAll (Some left) bytes = bytes ≡ left
IsAll None bytes = Unit {0}

-- these bytes were added, as far as it is told. What is no longer told stays untold
abbrev pub Adds : Option (List ℕ) → List ℕ → Option (List ℕ) → Type 0
Adds (Some old) bytes (Some new) = new ≡ old ++ bytes
Adds None bytes (Some new) = ⊥
Adds old bytes None = Unit {0}

-- a front of these bytes was added
abbrev pub AddsFront : Option (List ℕ) → List ℕ → Option (List ℕ) → Type 0
AddsFront old bytes new = (n : ℕ) × Adds old (take n bytes) new
