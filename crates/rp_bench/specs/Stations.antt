-- What a worker keeps of each node, by what its seat knows (this project).
use Rattle.std.specs.Prelude.{◌≡◌, ◌≢◌, ℕ, suc, ◌+◌, ◌-◌, ◌<◌, ◌%◌, Bool, true, false, List, [], slice_get, Some, Result, Ok, Err, OnOk, All, length, drop}
use Rattle.rp_base.specs.declared.memory.NoMemory.{NoMemory}
use Rattle.rp_clients.specs.declared.answers.Answer.TheVariants as answers
use Rattle.rp_events.specs.declared.answers.Ended.{Ended}
use Rattle.rp_events.specs.Nodes.{Node}
use Rattle.rp_events.specs.Worlds.{World, node_of}
use Rattle.rp_race.specs.declared.rules.RaceRules.{RaceRules}
use Rattle.rp_race.specs.Gives.{NoneBehind}
use Rattle.rp_race.specs.Rounds.{stage_of}
use Rattle.rp_switch.specs.declared.terms.Terms.{Terms}
use Rattle.rp_switch.specs.Rules.{IsTrueOf}
use Rattle.rp_switch.specs.Gifts.{is_between}
use Rattle.rp_switch.specs.Views.{Knowledge, right_at, is_rounds}
use Rattle.rp_serving.specs.declared.faults.BrokenOff.{BrokenOff}
use Rattle.rp_serving.specs.declared.faults.BrokenOff.TheVariants as broken
use Rattle.rp_serving.specs.declared.lanes.Lane.{Lane}
use Rattle.rp_serving.specs.declared.mails.Mail.{Mail}
use Rattle.rp_serving.specs.Mails.{lane_in, IsMailOf, IsWhole, IsCopied}
use Rattle.rp_bench.specs.declared.stations.Station.{Station}
use Rattle.rp_bench.specs.Worked.{is_idle}

-- what a copy leaves in the mail: the sender's lane goes on, and the others stay
pub record Copies (rules : RaceRules) (from : ℕ) (m : Node) (old : Mail) (copied : Result (Unit {0}) NoMemory) (new : Mail)
    : Type 0 where
  pub lane : (before : Lane) × (after : Lane) × (lane_in old from ≡ Some before) × (lane_in new from ≡ Some after)
      × IsCopied rules from old.node m before copied after
  pub others : (k : ℕ) → k ≢ from - 1 → slice_get new.lanes k ≡ slice_get old.lanes k
  pub node : new.node ≡ old.node
  pub handed : new.handed ≡ old.handed

-- after a round that was broken off no more are played
abbrev pub may_play_on : Result (Unit {0}) BrokenOff → Bool → Bool
may_play_on (Ok done) may_play = may_play
may_play_on (Err why) may_play = false

-- where the node is full the worker goes on
abbrev pub settled : Result (Unit {0}) BrokenOff → Result (Unit {0}) NoMemory
settled (Ok done) = Ok done
settled (Err broken.Full) = Ok tt
settled (Err broken.NoMemory) = Err (record {})

-- the rounds of a node, and how long an attempt waited there, are those that the seat saw last
abbrev pub AreSeen : World → List Station → Type 0
AreSeen seen stations =
    (place : ℕ) (n : Node) (s : Station) → slice_get seen place ≡ Some n → slice_get stations place ≡ Some s
    → (s.rounds ≡ n.rounds) × (s.waited ≡ n.waited)

-- the seat may play the rounds of a node that stands between two, and what is kept is that node's mail
pub record Serves (v : Knowledge) (place : ℕ) (n : Node) (kept : Mail) : Type 0 where
  pub carries : is_rounds (right_at v.rights place) ≡ true
  pub begins : is_between (stage_of n.journal) ≡ true
  pub mail : IsMailOf v.terms.rules (suc place) v.seen n kept

abbrev pub AllServe : Knowledge → List Station → Type 0
AllServe v stations =
    (place : ℕ) (n : Node) (s : Station) → slice_get v.seen place ≡ Some n → slice_get stations place ≡ Some s
    → s.may_play ≡ true → Serves v place n s.mail

-- the seat is between two visits, and what is kept of the nodes is so
pub record IsAtWork (v : Knowledge) (stations : List Station) : Type 0 where
  pub idle : is_idle v.stage ≡ true
  pub size : length v.seen ≡ v.terms.nodes
  pub seen : AreSeen v.seen stations
  pub serve : AllServe v stations

-- one of the stations changes so, and the others stay
abbrev pub Changes : (place : ℕ) → (Station → Station → Type 0) → List Station → List Station → Type 0
Changes place how old new =
    (s : Station) × (t : Station) × (slice_get old place ≡ Some s) × (slice_get new place ≡ Some t) × how s t

abbrev pub OthersStay : (place : ℕ) → List Station → List Station → Type 0
OthersStay place old new = (k : ℕ) → k ≢ place → slice_get new k ≡ slice_get old k

-- the node is seen as it is now
abbrev pub Notes : Node → Station → Station → Type 0
Notes n s t = t ≡ record s { rounds = n.rounds; waited = n.waited }

-- what another node has sent is copied where rounds may be played
abbrev pub CopiesInto : RaceRules → (from : ℕ) → Node → Result (Unit {0}) NoMemory → Station → Station → Type 0
CopiesInto rules from m copied s t =
    (t ≡ record s { mail = t.mail }) × (s.may_play ≡ true → Copies rules from m s.mail copied t.mail)

-- a round is played of it, which took from the mail
abbrev pub PlaysBy : RaceRules → (node : ℕ) → World → Node → Result (Unit {0}) BrokenOff → Station → Station → Type 0
PlaysBy rules node seen n played s t =
    (t ≡ record s { mail = t.mail }) × OnOk played (IsMailOf rules node seen n t.mail)

-- the outcomes are those behind the posted ones, and are posted from now on; at want of memory nothing changes
abbrev pub HasPosted : Node → Result (List Ended) NoMemory → Station → Station → Type 0
HasPosted n (Ok ends) s t = (ends ≡ drop s.posted n.outcomes) × (t ≡ record s { posted = length n.outcomes })
HasPosted n (Err want) s t = t ≡ s

-- a round is to be played now, where all is copied that the other nodes had sent
pub record IsDue (nodes : ℕ) (s : Station) : Type 0 where
  pub may_play : s.may_play ≡ true
  pub behind : (seen : World) (n : Node) → length seen ≡ nodes → IsWhole s.mail.node seen s.mail → n.rounds ≡ s.rounds
      → NoneBehind s.mail.node seen n

-- a round of this node may be played now: all that was sent to it is copied, and no other node is behind
pub record MayPlay (v : Knowledge) (stations : List Station) (node : ℕ) : Type 0 where
  pub station : Station
  pub here : slice_get stations (node - 1) ≡ Some station
  pub may_play : station.may_play ≡ true
  pub whole : IsWhole node v.seen station.mail
  pub behind : (n : Node) → node_of v.seen node ≡ Some n → NoneBehind node v.seen n

-- nothing is kept of any node yet, and those may be played that the worker serves
pub record IsFresh (worker workers nodes : ℕ) (place : ℕ) (s : Station) : Type 0 where
  pub rounds : s.rounds ≡ 0
  pub waited : s.waited ≡ 0
  pub serves : s.may_play ≡ true → (place < nodes) × (place % workers ≡ worker)
  pub mail : (rules : RaceRules) (seen : World) (n : Node) → n.journal ≡ [] → IsMailOf rules (suc place) seen n s.mail

abbrev pub AreFresh : (worker workers nodes : ℕ) → List Station → Type 0
AreFresh worker workers nodes stations =
    (place : ℕ) (s : Station) → slice_get stations place ≡ Some s → IsFresh worker workers nodes place s

-- each of these ends is true of the nodes as they were seen
abbrev pub AreTrue : Terms → World → List Ended → Type 0
AreTrue t seen ends =
    All (λ (e : Ended). IsTrueOf t seen e.id.client (answers.Ended e.id e.outcome)) ends
