-- A result of the code against what is meant: want of memory alone is free.
use Rattle.std.specs.Prelude.{◌≡◌, Option, None, Some, Result, Ok, Err}

-- a fault is the one that is meant; where it stands for none, as want of memory, nothing is said
abbrev pub Fails : {Y F : Type 0} → Option F → Result Y F → Type 0
Fails (Some fault) v = v ≡ Err fault
Fails None v = Unit {0}

-- a result is what is meant, but for want of memory: `view` is how a value is seen, and `fault` is
-- what an error stands for
abbrev pub Gives : {X Y E F : Type 0} → (X → Y) → (E → Option F) → Result X E → Result Y F → Type 0
Gives view fault (Ok x) v = v ≡ Ok (view x)
Gives view fault (Err e) v = Fails (fault e) v
