-- How a race ends (this project).
use Rattle.std.specs.Prelude.{◌≡◌, ℕ, ◌<◌, ◌≤◌, false, Some, sum_by, length}
use Rattle.rp_events.specs.Nodes.{Node, is_full}
use Rattle.rp_events.specs.Worlds.{World, node_of}
use Rattle.rp_race.specs.declared.rules.RaceRules.{RaceRules}
use Rattle.rp_race.specs.Ends.{unended, patience, IsWaitedOut, WasPending}
use Rattle.rp_race.specs.Rounds.{stage_of, between}
use Rattle.rp_racelines.specs.declared.verdicts.Verdict.{Verdict}
use Rattle.rp_racelines.specs.declared.verdicts.Verdict.TheVariants.{Ok, Unfinished, GoesOn}

-- how many commands the script has
abbrev pub command_count : RaceRules → ℕ
command_count rules = sum_by (λ sent. length sent.requests) rules.requests

-- no node is full
abbrev pub NoneFull : World → Type 0
NoneFull w = (node : ℕ) (n : Node) → node_of w node ≡ Some n → is_full n ≡ false

-- the race has ended: no node is full, and no command is open
pub record HasEnded (rules : RaceRules) (w : World) : Type 0 where
  pub room : NoneFull w
  pub ended : unended rules w ≡ 0

-- through so many rounds of its node or more some attempt was pending, counted from its first flush
pub record WasPendingFor (rounds : ℕ) (w : World) : Type 0 where
  pub node : ℕ
  pub through : ℕ
  pub least : rounds ≤ through
  pub pending : WasPending w node through

-- no more is waited for: no node is full, so many commands are open, each node with a live replica has had the rounds that
-- are waited for an end, and through as many some attempt was pending
pub record IsUnfinished (rules : RaceRules) (w : World) (open_count : ℕ) : Type 0 where
  pub room : NoneFull w
  pub count : open_count ≡ unended rules w
  pub some : 0 < open_count
  pub waited : IsWaitedOut (patience rules) w
  pub pending : WasPendingFor (patience rules) w

-- a race ends by this verdict; it goes on where it neither has ended nor is waited out
abbrev pub EndsBy : RaceRules → World → Verdict → Type 0
EndsBy rules w Ok = HasEnded rules w
EndsBy rules w (Unfinished open_count) = IsUnfinished rules w open_count
EndsBy rules w GoesOn =
    (HasEnded rules w → ⊥) × ((open_count : ℕ) → IsUnfinished rules w open_count → ⊥)

-- no round of a node was broken off
abbrev pub AreWhole : World → Type 0
AreWhole w = (node : ℕ) (n : Node) → node_of w node ≡ Some n → stage_of n.journal ≡ between
