-- The free units of a quota in one word, and what its shares know (this project).
use Rattle.std.specs.Prelude.{◌≡◌, ◌≢◌, ℕ, ◌+◌, ◌-◌, ◌≤◌, List, [], ◌∷◌, ◌++◌, length, sum_by, slice_index}
use mathlib.Core.Option.{some}
use lib.ListN.{get_elem?}
use Rattle.atomic_table.specs.Table.{State, Me, Step}
use Rattle.rp_quota.specs.declared.rule.Holding.{Holding}
use Rattle.rp_quota.specs.declared.rule.Look.{Look}
use Rattle.rp_quota.specs.declared.rule.Look.TheVariants.{Loaded, Asked}

-- the most units that a quota has
abbrev pub most_units : ℕ
most_units = 65536

-- how many parts the first share has. Each share has at least one, so one with all is the only one
abbrev pub all_parts : ℕ
all_parts = 1024

-- a share's parts, the units that it holds, and what its steps told
abbrev pub holding : ℕ → ℕ → List Look → Holding
holding parts units looks = record { parts = parts; units = units; looks = looks }

-- what the first share knows
abbrev pub first : ℕ → Holding
first capacity = holding all_parts 0 []

-- after every step the free units and those of all shares are the capacity, and a share without
-- parts holds nothing
pub record Kept (capacity : ℕ) (s : State (Unit {0}) Holding) : Type 0 where
  pub one_word : length s.words ≡ 1
  pub within : capacity ≤ most_units
  pub whole : slice_index s.words 0 + sum_by (λ (v : Holding). v.units) s.views ≡ capacity
  pub parted : sum_by (λ (v : Holding). v.parts) s.views ≡ all_parts
  pub idle : (id : ℕ) (v : Holding) → get_elem? s.views id ≡ some v → v.parts ≡ 0 → v.units ≡ 0

-- a share between two steps
abbrev pub Standing : Type 0
Standing = Me (Unit {0}) Holding

-- a load tells the number of free units
abbrev pub loaded : Step (Unit {0}) → Standing → ℕ → Standing → Type 0
loaded s m found m' = (m'.0 ≡ holding m.0.parts m.0.units (m.0.looks ++ Loaded found ∷ [])) × (m'.1 ≡ m.1)

-- an exchange tells what it found; where that is what it asked for, the difference is the share's
abbrev pub took : Step (Unit {0}) → Standing → ℕ → Standing → Type 0
took s m found m' =
    (found ≡ s.first → m'.0 ≡ holding m.0.parts (m.0.units + (s.first - s.second)) (m.0.looks ++ Asked s.first found ∷ []))
    × (found ≢ s.first → m'.0 ≡ holding m.0.parts m.0.units (m.0.looks ++ Asked s.first found ∷ []))
    × (m'.1 ≡ m.1)

-- what is added to the free units is the share's no more
abbrev pub gave : Step (Unit {0}) → Standing → ℕ → Standing → Type 0
gave s m found m' = (m'.0 ≡ holding m.0.parts (m.0.units - s.first) m.0.looks) × (m'.1 ≡ m.1)

-- a share keeps its units, and the new one has one part and none
abbrev pub left : Holding → Holding
left v = holding (v.parts - 1) v.units v.looks

abbrev pub right : Holding → Holding
right v = holding 1 0 []

-- parts and units add up
abbrev pub both : Holding → Holding → Holding
both v w = holding (v.parts + w.parts) (v.units + w.units) (v.looks ++ w.looks)

abbrev pub spent : Holding
spent = holding 0 0 []
