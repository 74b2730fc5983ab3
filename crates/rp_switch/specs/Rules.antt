-- The rule of a switch: its words, what lies in its slots and all seats show one reached world, which is
-- that of a race (this project).
use Rattle.std.specs.Prelude.{◌≡◌, ℕ, suc, ◌+◌, ◌-◌, ◌<◌, ◌≤◌, Bool, false, List, [], ◌++◌, length, replicate, sum_by, slice_get, slice_index, Some}
use mathlib.Core.Option as maybe
use lib.ListN.{get_elem?}
use Rattle.atomic_table.specs.Table.{State}
use Rattle.rp_clients.specs.declared.answers.Answer.{Answer}
use Rattle.rp_clients.specs.declared.answers.Answer.TheVariants as answers
use Rattle.rp_events.specs.Nodes.{Node}
use Rattle.rp_events.specs.Worlds.{World, first_world, node_of}
use Rattle.rp_events.specs.Lawful.{IsReached, IsLater}
use Rattle.rp_race.specs.Ends.{IsWaitedOutForGood, patience}
use Rattle.rp_race.specs.Gives.{AllSeen, OnlyAdmitted, Tried}
use Rattle.rp_race.specs.Played.{IsTriesOf}
use Rattle.rp_race.specs.Race.{IsRace}
use Rattle.rp_node.specs.Steps.{Held}
use Rattle.rp_switch.specs.declared.slots.Slot.{Slot}
use Rattle.rp_switch.specs.declared.slots.Slot.TheVariants.{Nothing, Body, Reply}
use Rattle.rp_switch.specs.declared.terms.Terms.{Terms}
use Rattle.rp_switch.specs.Gifts.{CarriesClient, tries_known}
use Rattle.rp_switch.specs.Views.{Right, Lacks, Tries, Rounds, BrokenOff, Stage, Idle, HasNode, HasCell, Chooses, Knowledge, all_parts, nothing_known, right_at}

-- a node is at home, or out with the seat of this number
pub data Phase : Type 0 where
  home : Phase
  out : ℕ → Phase

-- a client's cell is empty, or full, or out with the seat of this number
pub data Cell : Type 0 where
  empty : Cell
  full : Answer → Cell
  taken : ℕ → Cell

-- a node's word is 1 where it is out
abbrev pub node_word : Phase → ℕ
node_word home = 0
node_word (out id) = 1

-- a cell's word is 1 where it is full, and 2 where it is out
abbrev pub cell_word : Cell → ℕ
cell_word empty = 0
cell_word (full a) = 1
cell_word (taken id) = 2

-- how many clients there are
abbrev pub clients_of : Terms → ℕ
clients_of t = length t.rules.requests

-- how many words and slots there are: one for each node, then one for each client
abbrev pub size_of : Terms → ℕ
size_of t = t.nodes + clients_of t

-- a node's slot at home holds the node of the world
abbrev pub InPhase : {E : Type 0} → List (maybe.Option (Slot E)) → World → (place : ℕ) → Phase → Type 0
InPhase {E} homes w place home =
    (x : Held E) × (get_elem? homes place ≡ maybe.some (maybe.some (Body x))) × (slice_get w place ≡ Some x.node)
InPhase homes w place (out id) = Unit {0}

-- The answer is true of this world: an end is that of an attempt of this client, and stands in the
-- outcomes of a node; that all is over comes where the race was waited for to its end.
abbrev pub IsTrueOf : Terms → World → (client : ℕ) → Answer → Type 0
IsTrueOf t w client (answers.Ended id outcome) =
    (id.client ≡ client) × ((node : ℕ) × (n : Node) × (k : ℕ) × (node_of w node ≡ Some n)
    × (slice_get n.outcomes k ≡ Some (record { id = id; outcome = outcome })))
IsTrueOf t w client answers.Over = IsWaitedOutForGood (patience t.rules) w
IsTrueOf t w client answers.NoMemory = Unit {0}

-- a cell's slot at home is empty, or holds an answer that is true
abbrev pub InCell : {E : Type 0} → Terms → List (maybe.Option (Slot E)) → World → (place : ℕ) → Cell → Type 0
InCell t homes w place empty = get_elem? homes (t.nodes + place) ≡ maybe.some (maybe.some Nothing)
InCell t homes w place (full a) =
    (get_elem? homes (t.nodes + place) ≡ maybe.some (maybe.some (Reply a))) × IsTrueOf t w (suc place) a
InCell t homes w place (taken id) = Unit {0}

-- a node whose rounds a seat may play has only admitted since the seat saw it last
abbrev pub OnlyAdmittedSince : (rights : List Right) (seen w : World) → Type 0
OnlyAdmittedSince rights seen w =
    (place : ℕ) (before now : Node) → right_at rights place ≡ Rounds
    → slice_get seen place ≡ Some before → slice_get w place ≡ Some now → OnlyAdmitted before now

-- What a step tells of the world that it came to: it is reached, and all that the seat saw is past there; it is
-- that of a race, but for rounds that were broken off, none of them of a node whose rounds the seat may play; such
-- a node has only admitted since; each client made its tries as it may, those of the seat's clients as it keeps them.
pub record IsNow (v : Knowledge) (at : World) : Type 0 where
  pub reached : IsReached v.terms.nodes at
  pub past : AllSeen v.terms.nodes v.seen at
  pub broken : ℕ → Bool
  pub race : IsRace v.terms.rules broken at
  pub unbroken : (place : ℕ) → right_at v.rights place ≡ Rounds → broken (suc place) ≡ false
  pub admitted : OnlyAdmittedSince v.rights v.seen at
  pub tries : Tried
  pub each : (client : ℕ) → IsTriesOf v.terms.rules at client (tries client)
  pub kept : (client : ℕ) → CarriesClient v client → tries_known v client ≡ tries client

-- the seat has this node, which has not changed since it was taken
pub record HasIt (t : Terms) (w : World) (phases : ℕ → Phase) (id place : ℕ) (at seen : World) : Type 0 where
  pub low : place < t.nodes
  pub has : phases place ≡ out id
  pub reached : IsReached t.nodes at
  pub later : IsLater at w
  pub same : slice_get w place ≡ slice_get at place
  pub saw : slice_get at place ≡ slice_get seen place

abbrev pub AtStage : Terms → World → (ℕ → Phase) → (ℕ → Cell) → (id : ℕ) → (seen : World) → Stage → Type 0
AtStage t w phases cells id seen Idle = Unit {0}
AtStage t w phases cells id seen (HasNode place at) = HasIt t w phases id place at seen
AtStage t w phases cells id seen (HasCell place) = (place < clients_of t) × (cells place ≡ taken id)
AtStage t w phases cells id seen (Chooses choice) = Unit {0}

-- a client's right keeps its tries; a right of rounds that were not broken off tells just that
abbrev pub RightOf : Terms → Tried → (broken : ℕ → Bool) → (k : ℕ) → Right → Type 0
RightOf t tries broken k Lacks = Unit {0}
RightOf t tries broken k (Tries ts) = (t.nodes ≤ k) × (tries (suc (k - t.nodes)) ≡ ts)
RightOf t tries broken k Rounds = (k < t.nodes) × (broken (suc k) ≡ false)
RightOf t tries broken k BrokenOff = k < t.nodes

-- what was heard of other worlds is past
abbrev pub AllHeard : (nodes : ℕ) → List World → World → Type 0
AllHeard nodes joined w = (k : ℕ) (seen : World) → slice_get joined k ≡ Some seen → AllSeen nodes seen w

-- a seat that is not spent knows what the switch is made for and of each right whether it carries it,
-- and has seen each node, those whose rounds it may play since their last round
pub record IsWhole (t : Terms) (w : World) (v : Knowledge) : Type 0 where
  pub terms : v.terms ≡ t
  pub seen : AllSeen t.nodes v.seen w
  pub rights : length v.rights ≡ size_of t
  pub heard : AllHeard t.nodes v.joined w
  pub admitted : OnlyAdmittedSince v.rights v.seen w

-- what a seat knows is so
pub record Knows (t : Terms) (w : World) (tries : Tried) (broken : ℕ → Bool) (phases : ℕ → Phase)
    (cells : ℕ → Cell) (id : ℕ) (v : Knowledge) : Type 0 where
  pub stage : AtStage t w phases cells id v.seen v.stage
  pub rights : (k : ℕ) → RightOf t tries broken k (right_at v.rights k)
  pub spent : v.parts ≡ 0 → v ≡ nothing_known
  pub whole : 0 < v.parts → IsWhole t w v

-- one where a seat carries a right
abbrev pub weight : Right → ℕ
weight Lacks = 0
weight (Tries ts) = 1
weight Rounds = 1
weight BrokenOff = 1

abbrev pub right_on : ℕ → Knowledge → ℕ
right_on k v = weight (right_at v.rights k)

-- the seat of this number has the node
pub record IsWith (views : List Knowledge) (place id : ℕ) : Type 0 where
  pub view : Knowledge
  pub at : get_elem? views id ≡ maybe.some view
  pub world : World
  pub has : view.stage ≡ HasNode place world

-- After every step there is a reached world, which is that of a race, but for a last round of each node
-- that was broken off. Its nodes lie in the slots, or are out as the seat that has one took it. What each
-- seat knows is so; an answer that lies in a cell is true; and each right is there once.
pub record Kept {E : Type 0} (t : Terms) (s : State (Slot E) Knowledge) : Type 0 where
  pub world : World
  pub broken : ℕ → Bool
  pub tries : Tried
  pub phases : ℕ → Phase
  pub cells : ℕ → Cell
  pub reached : IsReached t.nodes world
  pub race : IsRace t.rules broken world
  pub each_client : (client : ℕ) → IsTriesOf t.rules world client (tries client)
  pub wide : length s.words ≡ size_of t
  pub long : length s.homes ≡ size_of t
  pub nodes : (place : ℕ) → place < t.nodes
      → (slice_index s.words place ≡ node_word (phases place)) × InPhase s.homes world place (phases place)
  pub replies : (place : ℕ) → place < clients_of t
      → (slice_index s.words (t.nodes + place) ≡ cell_word (cells place)) × InCell t s.homes world place (cells place)
  pub each_seat : (id : ℕ) (v : Knowledge) → get_elem? s.views id ≡ maybe.some v
      → Knows t world tries broken phases cells id v
  pub with_seat : (place id : ℕ) → phases place ≡ out id → IsWith s.views place id
  pub parted : sum_by (λ (v : Knowledge). v.parts) s.views ≡ all_parts
  pub once : (k : ℕ) → sum_by (right_on k) s.views ≤ 1
  pub there : (k : ℕ) → k < size_of t → 1 ≤ sum_by (right_on k) s.views

-- the first seat has all parts and all rights, and has seen the nodes as they start
abbrev pub first : Terms → Knowledge
first t = record {
  terms = t;
  parts = all_parts;
  stage = Idle;
  seen = first_world t.nodes;
  rights = replicate t.nodes Rounds ++ replicate (clients_of t) (Tries []);
  looks = [];
  joined = [];
}
