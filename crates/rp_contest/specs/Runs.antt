-- The nodes of a race that was run (this project).
use Rattle.std.specs.Prelude.{◌≡◌, ℕ, ◌<◌, Bool, true, List}
use Rattle.std.specs.List.{list_any}
use Rattle.rp_events.specs.Lawful.{IsReached}
use Rattle.rp_events.specs.Nodes.{is_full}
use Rattle.rp_events.specs.Worlds.{World}
use Rattle.rp_clients.specs.Tries.{Try}
use Rattle.rp_race.specs.declared.rules.RaceRules.{RaceRules}
use Rattle.rp_race.specs.Ends.{unended, patience, IsWaitedOutForGood}
use Rattle.rp_race.specs.Played.{IsTriesOf}
use Rattle.rp_race.specs.Race.{IsRace}

-- Their rounds are those of a race, but for a last round of some that may have been broken off; each client has made
-- its tries as it may; and where a command is open no more is waited for.
pub record IsRun (nodes : ℕ) (rules : RaceRules) (w : World) : Type 0 where
  pub reached : IsReached nodes w
  pub broken : ℕ → Bool
  pub race : IsRace rules broken w
  pub tries : (client : ℕ) → List Try
  pub each : (client : ℕ) → IsTriesOf rules w client (tries client)
  pub settled : 0 < unended rules w → IsWaitedOutForGood (patience rules) w

-- some node is full
abbrev pub HasFull : World → Type 0
HasFull w = list_any is_full w ≡ true
