-- Which messages come, and which rounds owe them (this project).
use Rattle.std.specs.Prelude.{◌≡◌, ◌≢◌, ◌⊎◌, ℕ, ◌+◌, ◌-◌, ◌≤◌, Bool, true, false, not, ◌&&◌, ◌==◌, if◌then◌else◌, List, [], ◌∷◌, length, take, slice_get, filter_map, count_by, Option, None, Some}
use Rattle.std.specs.List.{list_any}
use Rattle.rp_request.specs.Applied.{AppliedState}
use Rattle.rp_events.specs.declared.answers.EventAnswer.{EventAnswer}
use Rattle.rp_events.specs.declared.journals.JournalEntry.{JournalEntry}
use Rattle.rp_events.specs.declared.journals.PastEvent.{PastEvent}
use Rattle.rp_events.specs.declared.journals.PastEvent.TheVariants.{Deliver, Round}
use Rattle.rp_events.specs.declared.parcels.Parcel.{Parcel}
use Rattle.rp_events.specs.Nodes.{Node, parcel_of}
use Rattle.rp_events.specs.Worlds.{World, node_of}
use Rattle.rp_workers.specs.Losses.{is_lost}
use Rattle.rp_race.specs.declared.rules.RaceRules.{RaceRules}

-- the numbers of the messages that a journal has from a sender, in order
abbrev pub number_from : (from : ℕ) → PastEvent → Option ℕ
number_from from (Deliver sender number) = if sender == from then Some number else None
number_from from _ = None

abbrev pub heard_from : (from : ℕ) → List JournalEntry → List ℕ
heard_from from journal = filter_map (λ e. number_from from e.event) journal

-- a message that goes to the node and is not lost
abbrev pub is_carried : RaceRules → (from to number : ℕ) → Parcel AppliedState → Bool
is_carried rules from to number p = p.to == to && not (is_lost rules.loss rules.salt from number)

-- the numbers of these among what a sender has sent, where the first of the list has this number
abbrev pub carried_behind : RaceRules → (from to number : ℕ) → List (Parcel AppliedState) → List ℕ
carried_behind rules from to number [] = []
carried_behind rules from to number (p ∷ ps) =
    if is_carried rules from to number p
    then number ∷ carried_behind rules from to (number + 1) ps
    else carried_behind rules from to (number + 1) ps

abbrev pub carried : RaceRules → (from to : ℕ) → List (Parcel AppliedState) → List ℕ
carried rules from to sent = carried_behind rules from to 1 sent

-- a round ends here
abbrev pub is_round : PastEvent → Bool
is_round (Round sent) = true
is_round _ = false

-- how many rounds a journal has
abbrev pub rounds_in : List JournalEntry → ℕ
rounds_in journal = count_by (λ e. is_round e.event) journal

-- the journal's round of this number, from 1, ends at this place, when the node had sent so much
pub record IsRoundAt (journal : List JournalEntry) (round place sent : ℕ) : Type 0 where
  pub answer : EventAnswer
  pub here : slice_get journal place ≡ Some (record { event = Round sent; answer = answer })
  pub number : rounds_in (take place journal) + 1 ≡ round

-- the message was delivered
abbrev pub is_delivery : (from number : ℕ) → PastEvent → Bool
is_delivery from number (Deliver sender other) = sender == from && other == number
is_delivery from number _ = false

abbrev pub was_delivered : (from number : ℕ) → List JournalEntry → Bool
was_delivered from number journal = list_any (λ e. is_delivery from number e.event) journal

-- a node that has a round of this number, at this place of its journal, had heard by then what another node had sent by
-- its own third round before: each message is lost or was delivered
pub record HasHeard (rules : RaceRules) (node from : ℕ) (n m : Node) (round place : ℕ) : Type 0 where
  pub at : ℕ
  pub sent : ℕ
  pub ended : IsRoundAt m.journal (round - 3) at sent
  pub each : (number : ℕ) (p : Parcel AppliedState) → number ≤ sent → parcel_of m.sent number ≡ Some p
      → p.to ≡ node → (is_lost rules.loss rules.salt from number ≡ true)
      ⊎ (was_delivered from number (take place n.journal) ≡ true)

-- each round from the fourth on has heard, of each other node, what it is owed
abbrev pub RoundsOwed : RaceRules → World → Type 0
RoundsOwed rules w =
    (node from : ℕ) (n m : Node) → node_of w node ≡ Some n → node_of w from ≡ Some m → from ≢ node
    → (round place sent : ℕ) → 4 ≤ round → IsRoundAt n.journal round place sent
    → HasHeard rules node from n m round place
