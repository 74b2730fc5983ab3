-- A node: what it has of each range, and what it keeps of all that happened to it (this project).
use Rattle.std.specs.Prelude.{ℕ, zero, suc, ◌-◌, ◌^◌, Bool, max, nat_le, List, [], ◌∷◌, ◌++◌, length, map, filter_map, fold, replicate, slice_get, slice_index_or, slice_set, Option, None, Some}
use Rattle.rp_raftstep.specs.declared.messages.Message.{Message}
use Rattle.rp_request.specs.Applied.{AppliedState}
use Rattle.rp_request.specs.History.{History}
use Rattle.rp_request.specs.declared.requests.Request.{Request}
use Rattle.rp_pending.specs.Refreshes.{first_round}
use Rattle.rp_events.specs.declared.answers.Ended.{Ended}
use Rattle.rp_events.specs.declared.answers.EventAnswer.{EventAnswer}
use Rattle.rp_events.specs.declared.journals.JournalEntry.{JournalEntry}
use Rattle.rp_events.specs.declared.journals.PastEvent.{PastEvent}
use Rattle.rp_events.specs.declared.parcels.Parcel.{Parcel}
use Rattle.rp_events.specs.Replicas.{Replica, Done, started}
use Rattle.rp_request.specs.States.{first_applied}

-- what a node has of a range: nothing yet, a replica, or a tombstone, which keeps what was applied
pub data Status : Type 0 where
  Absent : Status
  Live : Replica → Status
  Removed : History → Status

-- its number and how many nodes there are; its seats, one for each range; its ticks and rounds; all that
-- it sent, the first one numbered 1; its journal, with the requests that were to be admitted; the
-- outcomes of admitted attempts, as they ended; and the most rounds through which one of its attempts
-- was pending, counted from its first flush
pub record Node : Type 0 where
  pub node : ℕ
  pub nodes : ℕ
  pub seats : List Status
  pub ticks : ℕ
  pub rounds : ℕ
  pub sent : List (Parcel AppliedState)
  pub journal : List JournalEntry
  pub requests : List Request
  pub outcomes : List Ended
  pub waited : ℕ

-- the numbers of ranges, ascending
abbrev pub range_numbers : List ℕ
range_numbers = 0 ∷ 1 ∷ 2 ∷ 3 ∷ 4 ∷ 5 ∷ 6 ∷ 7 ∷ []

-- what the node has of a range
abbrev pub seat : Node → (range : ℕ) → Status
seat n range = slice_index_or n.seats range Absent

-- it has this of a range from now on
abbrev pub with_seat : Node → (range : ℕ) → Status → Node
with_seat n range status = record n { seats = slice_set n.seats range status }

-- at the start each node has range 0, whose first leader and leaseholder is node 1
abbrev pub first_seats : (node nodes : ℕ) → List Status
first_seats node nodes = Live (started node nodes 1 0 0 first_applied) ∷ replicate 7 Absent

abbrev pub first_node : (node nodes : ℕ) → Node
first_node node nodes = record {
  node = node;
  nodes = nodes;
  seats = first_seats node nodes;
  ticks = 0;
  rounds = 0;
  sent = [];
  journal = [];
  requests = [];
  outcomes = [];
  waited = 0;
}

-- a journal ends here: the node takes no further event
abbrev pub journal_end : ℕ
journal_end = 2 ^ 31

abbrev pub is_full : Node → Bool
is_full n = nat_le journal_end (length n.journal)

-- messages of a range as parcels
abbrev pub parcels : (range : ℕ) → List (ℕ × Message AppliedState) → List (Parcel AppliedState)
parcels range messages =
    map (λ sent. record { to = sent.0; range = range; message = sent.1 }) messages

-- the parcel with this number, from 1
abbrev pub parcel_of : List (Parcel AppliedState) → (number : ℕ) → Option (Parcel AppliedState)
parcel_of sent zero = None
parcel_of sent (suc place) = slice_get sent place

-- the index and the term behind which the log of a right range begins
abbrev pub right_base : ℕ
right_base = 10

abbrev pub right_base_term : ℕ
right_base_term = 1

-- the right range's replica starts at a node that has neither a replica nor a tombstone of it
abbrev pub opened_by : Node → AppliedState → Status → Node
opened_by n s Absent =
    with_seat n s.desc.id
    (Live (started n.node n.nodes s.lease.holder right_base right_base_term s))
opened_by n s (Live r) = n
opened_by n s (Removed applied) = n

-- a taken split opens its right range
abbrev pub opened : Node → Option AppliedState → Node
opened n None = n
opened n (Some s) = opened_by n s (seat n s.desc.id)

-- the node after an event of one of its replicas, which leaves this in its seat
abbrev pub after_turn : Node → (range : ℕ) → Status → Done → Node
after_turn n range status d = record (with_seat n range status) {
  sent = n.sent ++ parcels range d.messages;
  outcomes = n.outcomes ++ d.outcomes;
}

-- what an event of a node leaves, and its answer
pub record NodeDone : Type 0 where
  pub node : Node
  pub answer : EventAnswer

-- the event stands in the journal with its answer
abbrev pub written : PastEvent → NodeDone → NodeDone
written past d = record {
  node = record d.node {
    journal = d.node.journal ++ record { event = past; answer = d.answer } ∷ [];
  };
  answer = d.answer;
}

-- the first flush of a pending attempt in this seat, by the node's rounds
abbrev pub first_round_in : Status → Option ℕ
first_round_in Absent = None
first_round_in (Live r) = first_round r.pending
first_round_in (Removed applied) = None

-- the most rounds through which a pending attempt of the node was pending
abbrev pub longest_wait : (rounds : ℕ) → List Status → ℕ
longest_wait rounds seats =
    fold (λ most first. max most (rounds - first)) 0 (filter_map first_round_in seats)
