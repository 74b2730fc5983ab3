-- What contracts see of the devices in memory.
use Rattle.std.specs.Prelude.{◌≡◌, ℕ, ◌+◌, ◌-◌, ◌^◌, min, nat_le, ◌==◌, List, ◌++◌, length, take, drop, Option, Some, None, option_map, Bool, if◌then◌else◌}
use Rattle.std.specs.List.{list_any}

-- a source without faults: the bytes still to come, and the most that one call gives
pub record Feed : Type 0 where
  pub left : List ℕ
  pub piece : ℕ

-- a read into a buffer: the next n bytes came in its front, as many as are left and fit, at most
-- a piece of them, and the rest of the buffer is as before
pub record Reads (old : Feed) (before : List ℕ) (n : ℕ) (after : List ℕ) (new : Feed) : Type 0 where
  pub count : n ≡ min old.piece (min (length before) (length old.left))
  pub given : after ≡ take n old.left ++ drop n before
  pub rest : new ≡ record { left = drop n old.left; piece = old.piece }

-- a sink without faults: the bytes taken, where it tells them, the most that one call takes,
-- and how many bytes it can keep without memory
pub record Store : Type 0 where
  pub held : Option (List ℕ)
  pub piece : ℕ
  pub spare : ℕ

-- the bytes are told as long as all of them are kept
abbrev pub told_if : Bool → List ℕ → Option (List ℕ)
told_if whole bytes = if whole then Some bytes else None

-- what is told of the bytes taken once these have come: where they have no room, nothing
abbrev pub held_with : Store → List ℕ → Option (List ℕ)
held_with s bytes =
    if nat_le (length bytes) s.spare then option_map (λ held. held ++ bytes) s.held else None

-- a count goes up by one, and stands still at its type's end
abbrev pub count_up : ℕ → ℕ
count_up n = min (n + 1) (2 ^ 64 - 1)

-- the numbers of the calls that fail, how many calls came, and how many faults
pub record Troubles : Type 0 where
  pub fails : List ℕ
  pub calls : ℕ
  pub faults : ℕ

-- the next call, counted from 1, is one of those that fail
abbrev pub fails_next : Troubles → Bool
fails_next t = list_any (λ n. n == t.calls + 1) t.fails

-- one call more came, with a fault or without
abbrev pub after_call : Troubles → Bool → Troubles
after_call t failed =
    record {
      fails = t.fails;
      calls = count_up t.calls;
      faults = (if failed then count_up t.faults else t.faults);
    }

-- a source of which some calls fail
pub record FailingFeed : Type 0 where
  pub feed : Feed
  pub troubles : Troubles

-- a sink of which some calls fail: the bytes taken, the most that one call takes, how many bytes it
-- can keep without memory, and its troubles
pub record FailingStore : Type 0 where
  pub held : List ℕ
  pub piece : ℕ
  pub spare : ℕ
  pub troubles : Troubles

-- a reader or writer of the system, and how many faults it had
pub record Adapted (T : Type 0) : Type 0 where
  pub inner : T
  pub faults : ℕ
