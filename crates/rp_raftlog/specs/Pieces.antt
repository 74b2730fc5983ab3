-- A list that stands in pieces of one size, each full before the next one has an item.
use Rattle.std.specs.Prelude.{◌≡◌, ℕ, zero, suc, ◌*◌, ◌^◌, ◌<◌, ◌≤◌, List, [], ◌∷◌, length, take, drop}
use Rattle.std.specs.List.{flat_map}
use Rattle.rp_raftlog.specs.declared.entries.Entry.{Entry}

-- how many entries a segment has room for
abbrev pub segment : ℕ
segment = 64

-- a list cut into so many pieces of this size: the last may be shorter or empty
abbrev pub pieces : {X : Type 0} → ℕ → ℕ → List X → List (List X)
pieces size zero xs = []
pieces size (suc n) xs = take size xs ∷ pieces size n (drop size xs)

-- pieces put together
abbrev pub joined : {X : Type 0} → List (List X) → List X
joined parts = flat_map (λ part. part) parts

-- What contracts see of entries in segments: the entries, and how many can be put behind them without memory.
pub record Stored : Type 0 where
  pub entries : List Entry
  pub spare : ℕ

-- segments whose entries from a first place on are the list, up to a place behind the last
pub record AreSegments (segments : List (List Entry)) (first end : ℕ) : Type 0 where
  pub cut : segments ≡ pieces segment (length segments) (joined segments)
  pub held : length (joined segments) ≡ end
  pub begun : first ≤ end
  pub room : end ≤ segment * length segments
  pub fits : segment * length segments < 2 ^ 64
