-- When a worker has seen that no more is to be waited for (this project).
use Rattle.std.specs.Prelude.{◌≡◌, ℕ, ◌<◌, ◌≤◌, List, slice_get, Some}
use Rattle.rp_bench.specs.declared.stations.Station.{Station}

-- each of so many nodes has had so many rounds, as it was seen
abbrev pub AllHad : List Station → (nodes rounds : ℕ) → Type 0
AllHad stations nodes rounds =
    (place : ℕ) → place < nodes → (s : Station) × (slice_get stations place ≡ Some s) × (rounds ≤ s.rounds)

-- an attempt of one of them waited through so many
pub record SomeWaited (stations : List Station) (nodes rounds : ℕ) : Type 0 where
  pub place : ℕ
  pub low : place < nodes
  pub station : Station
  pub here : slice_get stations place ≡ Some station
  pub waited : rounds ≤ station.waited
