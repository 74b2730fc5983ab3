-- What a clause says of a switch and of its seats (this project).
use Rattle.std.specs.Prelude.{◌≡◌, ◌≢◌, ℕ, ◌+◌, ◌-◌, ◌%◌, ◌<◌, ◌≤◌, Bool, true, false, List, slice_get, Some, Result, Ok, Err}
use Rattle.rp_bufcore.specs.declared.ends.BufferEnd.{Ghosts}
use Rattle.rp_clients.specs.declared.answers.Answer.{Answer}
use Rattle.rp_clients.specs.declared.answers.Empty.{Empty}
use Rattle.rp_clients.specs.Tries.{Try}
use Rattle.rp_events.specs.Worlds.{World}
use Rattle.rp_events.specs.Lawful.{IsReached}
use Rattle.rp_events.specs.Nodes.{Node}
use Rattle.rp_race.specs.Gives.{AllSeen}
use Rattle.rp_race.specs.Played.{IsTriesOf}
use Rattle.rp_race.specs.Race.{IsRace}
use Rattle.rp_switch.specs.declared.switch.Switch.{Switch}
use Rattle.rp_switch.specs.declared.switch.Seat.{Seat}
use Rattle.rp_switch.specs.declared.switch.Taken.{Taken}
use Rattle.rp_switch.specs.declared.faults.Busy.{Busy}
use Rattle.rp_switch.specs.declared.faults.CellBusy.{CellBusy}
use Rattle.rp_switch.specs.declared.terms.Terms.{Terms}
use Rattle.rp_switch.specs.Rules.{AllHeard, IsNow, IsTrueOf, OnlyAdmittedSince, clients_of}
use Rattle.rp_switch.specs.Views.{Right, Lacks, Tries, Rounds, BrokenOff, Found, Knowledge, right_at, noting, taking, reaching, fetching, posting, at_rest}
use Rattle.rp_switch.specs.Gifts.{CarriesClient, tries_known}
use Rattle.rp_switch.specs.Plays.{giving}

-- what a switch is made for
abbrev pub terms_of : {E : Type 0} → Switch E → Terms
terms_of s = s.table.shared.key

module _ {E : Type 0} {g : Ghosts E} where
  -- what a seat knows
  abbrev pub known_by : Seat E g → Knowledge
  known_by p = p.seat.me.0

  -- a seat is one of this switch, and knows what it is made for
  abbrev pub IsSeatOf : Switch E → Seat E g → Type 0
  IsSeatOf s p = (p.seat.table_id ≡ s.table.shared.table_id) × ((known_by p).terms ≡ terms_of s)

  -- a seat stays one of the same switch
  abbrev pub IsSame : Seat E g → Seat E g → Type 0
  IsSame old new = (new.seat.table_id ≡ old.seat.table_id) × ((known_by new).terms ≡ (known_by old).terms)

-- What a try to take a node tells. The exchange of its word found it free, and the seat has the node of
-- a world of which all is so that the seat knows; or it found the node taken, and nothing changed.
abbrev pub Takes : {E : Type 0} → Knowledge → (node : ℕ) → Result (Taken E) Busy → Knowledge → Type 0
Takes v node (Ok t) w =
    (at : World) × IsNow v at × (slice_get at (node - 1) ≡ Some t.node.node) × (t.number ≡ node)
    × (w ≡ taking (node - 1) at t.node.node v)
Takes v node (Err busy) w =
    (busy.node ≡ node) × (w ≡ noting (Found (node - 1) 1) v)

-- what giving a node back tells: what the seat knows goes on by what the node has written down since
abbrev pub GivesBack : Knowledge → (number : ℕ) → Node → Knowledge → Type 0
GivesBack v number after w =
    (before : Node) → slice_get v.seen (number - 1) ≡ Some before → w ≡ giving (number - 1) before after v

-- What a try to post tells: the exchange of the cell's word found the cell empty, and the answer lies there;
-- or it found another word than that of an empty cell.
abbrev pub Posts : Knowledge → (client : ℕ) → Answer → Result (Unit {0}) CellBusy → Knowledge → Type 0
Posts v client answer (Ok done) w =
    w ≡ posting (v.terms.nodes + client - 1) answer (reaching (v.terms.nodes + client - 1) (client - 1) v)
Posts v client answer (Err busy) w = (found : ℕ) × (found ≢ 0) × (w ≡ noting (Found (v.terms.nodes + client - 1) found) v)

-- What a try to fetch tells: the exchange found the cell full, and the answer that lay there is true of a world of
-- which all is so that the seat knows; where it tells an end, the client's right has learnt it. Or it found another word than that of a full cell.
abbrev pub Fetches : Knowledge → (client : ℕ) → Result Answer Empty → Knowledge → Type 0
Fetches v client (Ok a) w =
    (at : World) × IsNow v at × IsTrueOf v.terms at client a
    × (w ≡ at_rest (fetching (v.terms.nodes + client - 1) (client - 1) a at v))
Fetches v client (Err empty) w = (found : ℕ) × (found ≢ 1) × (w ≡ noting (Found (v.terms.nodes + client - 1) found) v)

-- the seat carries the right to the rounds of each node that the worker serves
abbrev pub IsCarried : Right → Type 0
IsCarried Lacks = ⊥
IsCarried (Tries ts) = Unit {0}
IsCarried Rounds = Unit {0}
IsCarried BrokenOff = Unit {0}

abbrev pub CarriesRounds : Knowledge → (worker workers : ℕ) → Type 0
CarriesRounds v worker workers =
    (place : ℕ) → place < v.terms.nodes → place % workers ≡ worker → IsCarried (right_at v.rights place)

-- a node whose round was broken off
abbrev pub is_broken : Right → Bool
is_broken Lacks = false
is_broken (Tries ts) = false
is_broken Rounds = false
is_broken BrokenOff = true

-- What the last seat knows of the nodes at the close: they are those of a reached world, which is that of
-- a race, but for a last round of each node whose right says that one was broken off; and what it keeps of
-- each client's tries is all that the journals have.
-- All that it saw and heard of, and that each seat did that was joined to it, is past there; and a node of which
-- no round was broken off has only admitted since. Each client made its tries as it may.
pub record Closes (v : Knowledge) (nodes : List Node) : Type 0 where
  pub reached : IsReached v.terms.nodes nodes
  pub race : IsRace v.terms.rules (λ node. is_broken (right_at v.rights (node - 1))) nodes
  pub past : AllSeen v.terms.nodes v.seen nodes
  pub heard : AllHeard v.terms.nodes v.joined nodes
  pub admitted : OnlyAdmittedSince v.rights v.seen nodes
  pub carries : (client : ℕ) → 1 ≤ client → client ≤ clients_of v.terms → CarriesClient v client
  pub tries : (client : ℕ) → CarriesClient v client → IsTriesOf v.terms.rules nodes client (tries_known v client)
  pub each_client : (client : ℕ) → (tries : List Try) × IsTriesOf v.terms.rules nodes client tries
