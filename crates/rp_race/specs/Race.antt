-- A race: what the journals and sent lists of its nodes are like (this project).
use Rattle.std.specs.Prelude.{◌≡◌, ◌≢◌, ℕ, Bool, true, false, List, slice_get, Some}
use Rattle.rp_events.specs.declared.journals.JournalEntry.{JournalEntry}
use Rattle.rp_events.specs.Journals.{stood_before}
use Rattle.rp_events.specs.Nodes.{Node}
use Rattle.rp_events.specs.Worlds.{World, node_of}
use Rattle.rp_journals.specs.Growth.{Begins}
use Rattle.rp_clients.specs.Tries.{Try}
use Rattle.rp_race.specs.declared.rules.RaceRules.{RaceRules}
use Rattle.rp_race.specs.Rounds.{may_come, stage_of, between}
use Rattle.rp_race.specs.Owed.{heard_from, carried, RoundsOwed}
use Rattle.rp_race.specs.Played.{IsTriesOf}
use Rattle.rp_race.specs.InTurn.{CameInTurn}

-- the rounds of all nodes are as those of a race; of each node it is said whether its last round may have been broken off
pub record IsRace (rules : RaceRules) (broken : ℕ → Bool) (w : World) : Type 0 where
  -- each event of a journal might come as its node stood
  pub order : (node : ℕ) (n : Node) → node_of w node ≡ Some n → (place : ℕ) (e : JournalEntry)
      → slice_get n.journal place ≡ Some e → may_come rules (stood_before w n place) e.event ≡ true
  -- what came from a sender is, in order and once, what went to the node and was not lost, up to some message
  pub heard : (node from : ℕ) (n m : Node) → node_of w node ≡ Some n → node_of w from ≡ Some m → from ≢ node
      → Begins (heard_from from n.journal) (carried rules from node m.sent)
  -- behind the last round there are admissions alone, but where it was broken off
  pub whole : (node : ℕ) (n : Node) → node_of w node ≡ Some n → broken node ≡ false
      → stage_of n.journal ≡ between
  pub owed : RoundsOwed rules w
  -- no client made a try before its earlier ones had ended
  pub in_turn : CameInTurn w

-- race play, and rounds owed: no round was broken off, and each client has made its tries as it may
pub record IsPlayed (rules : RaceRules) (w : World) : Type 0 where
  pub race : IsRace rules (λ node. false) w
  pub tries : (client : ℕ) → List Try
  pub each : (client : ℕ) → IsTriesOf rules w client (tries client)
