-- What a seat that has a node knows, as far as a round of it is played by that (this project).
use Rattle.std.specs.Prelude.{◌≡◌, ℕ, ◌-◌, ◌≤◌, true, List, [], length, All, Some}
use Rattle.rp_base.specs.Limits.{buffer_capacity}
use Rattle.rp_base.specs.declared.items.Item.{Item}
use Rattle.rp_events.specs.Lawful.{IsReached}
use Rattle.rp_events.specs.Nodes.{Node, is_full}
use Rattle.rp_events.specs.Worlds.{World, node_of}
use Rattle.rp_race.specs.declared.rules.Handover.{Handover}
use Rattle.rp_race.specs.declared.rules.RaceRules.{RaceRules}
use Rattle.rp_race.specs.Gives.{AllSeen}
use Rattle.rp_race.specs.Rounds.{between, stage_of}
use Rattle.rp_switch.specs.Views.{Stage, Idle, HasNode, HasCell, Chooses, Rounds, Knowledge, right_at}
use Rattle.rp_serving.specs.declared.faults.BrokenOff.{BrokenOff}
use Rattle.rp_serving.specs.declared.faults.BrokenOff.TheVariants.{Full, NoMemory}

-- the world from which a seat took the node that it has
abbrev pub world_of : Stage → World
world_of Idle = []
world_of (HasNode place at) = at
world_of (HasCell place) = []
world_of (Chooses choice) = []

abbrev pub taken_from : Knowledge → World
taken_from v = world_of v.stage

-- a seat has this node, from a world from which all that it saw is past, and carries the right to its rounds
pub record HasIt (v : Knowledge) (node : ℕ) : Type 0 where
  pub stage : v.stage ≡ HasNode (node - 1) (taken_from v)
  pub reached : IsReached v.terms.nodes (taken_from v)
  pub past : AllSeen v.terms.nodes v.seen (taken_from v)
  pub carries : right_at v.rights (node - 1) ≡ Rounds

-- the node is as it was taken, and is between two rounds
pub record IsTaken (v : Knowledge) (node : ℕ) (n : Node) : Type 0 where
  pub has : node_of (taken_from v) node ≡ Some n
  pub begins : stage_of n.journal ≡ between

-- the handovers are to nodes that there are
abbrev pub HandsWithin : (nodes : ℕ) → RaceRules → Type 0
HandsWithin nodes rules = All (λ (h : Handover). h.to ≤ nodes) rules.transfers

-- a buffer end never gives more than a buffer holds
abbrev pub GivesFew : {B : Type 0} → (B → ℕ → List Item → B → Type 0) → Type 0
GivesFew {B} gives = (old : B) (range : ℕ) (items : List Item) (new : B) → gives old range items new → length items ≤ buffer_capacity

-- where a round is broken off as the node is full it is
abbrev pub WhyBroken : BrokenOff → Node → Type 0
WhyBroken Full n = is_full n ≡ true
WhyBroken NoMemory n = Unit {0}
