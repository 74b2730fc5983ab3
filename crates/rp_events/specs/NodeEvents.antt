-- The events of a node: one definition for each.
use Rattle.std.specs.Prelude.{ℕ, ◌+◌, max, List, [], ◌∷◌, ◌++◌, length}
use Rattle.rp_base.specs.declared.items.Item.{Item}
use Rattle.rp_raftstep.specs.declared.messages.Message.{Message}
use Rattle.rp_raftstep.specs.declared.messages.Message.TheVariants as messages
use Rattle.rp_raftstep.specs.Step.{absent_answer}
use Rattle.rp_request.specs.Applied.{AppliedState}
use Rattle.rp_request.specs.declared.outcomes.Refusal.TheVariants.{NoReplica}
use Rattle.rp_request.specs.declared.requests.Request.{Request}
use Rattle.rp_events.specs.declared.answers.EventAnswer.TheVariants as answers
use Rattle.rp_events.specs.declared.journals.PastEvent.{PastEvent}
use Rattle.rp_events.specs.declared.journals.PastEvent.TheVariants as past
use Rattle.rp_events.specs.declared.node_events.Event.{Event}
use Rattle.rp_events.specs.declared.node_events.Event.TheVariants.{Admit, Ask, Transfer, Collect, Flush, Tick, Deliver, Apply, Cut, Remove, Peek, Restart, Round}
use Rattle.rp_events.specs.declared.replica_events.ReplicaEvent.{ReplicaEvent}
use Rattle.rp_events.specs.declared.replica_events.ReplicaEvent.TheVariants as at_replica
use Rattle.rp_events.specs.Replicas.{Replica, Done, made_by_snap}
use Rattle.rp_events.specs.ReplicaEvents.{event}
use Rattle.rp_events.specs.Nodes.{Node, NodeDone, Status, Absent, Live, Removed, seat, with_seat, after_turn, opened, parcels, written, longest_wait, range_numbers}

-- what a replica's seat holds after an event: a removal leaves a tombstone
abbrev pub status_after : ReplicaEvent AppliedState → Replica → Status
status_after at_replica.Remove r = Removed r.applied
status_after _ r = Live r

-- the node after an event of a replica that left this
abbrev pub after_replica : Node → (range : ℕ) → ReplicaEvent AppliedState → Done → Node
after_replica n range e d =
    opened (after_turn n range (status_after e d.replica) d) d.right

-- an event of the replica in this seat, with what the buffer gave: each event but Tick, Deliver and
-- Restart needs a live one
abbrev pub by_status : Node → (range : ℕ) → ReplicaEvent AppliedState → List Item → Status → NodeDone
by_status n range e taken Absent = record { node = n; answer = answers.Refused NoReplica }
by_status n range e taken (Live r) = record {
  node = after_replica n range e (event r e n.ticks n.rounds taken);
  answer = (event r e n.ticks n.rounds taken).answer;
}
by_status n range e taken (Removed applied) = record { node = n; answer = answers.Refused NoReplica }

abbrev pub by_replica : Node → (range : ℕ) → ReplicaEvent AppliedState → List Item → NodeDone
by_replica n range e taken = by_status n range e taken (seat n range)

-- an event of one live replica of all; a seat without one stays
abbrev pub live_turn : ReplicaEvent AppliedState → Node → (range : ℕ) → Status → Node
live_turn e n range Absent = n
live_turn e n range (Live r) = after_replica n range e (event r e n.ticks n.rounds [])
live_turn e n range (Removed applied) = n

-- an event of each live replica, by ascending range
abbrev pub all_turns : ReplicaEvent AppliedState → Node → List ℕ → Node
all_turns e n [] = n
all_turns e n (range ∷ ranges) = all_turns e (live_turn e n range (seat n range)) ranges

-- it was done
abbrev pub done : Node → NodeDone
done n = record { node = n; answer = answers.Done }

-- a message at a node that has nothing of the range: a snapshot makes a replica
abbrev pub seat_by_message : Node → (from : ℕ) → Message AppliedState → Status
seat_by_message n from (messages.Vote term last_index last_term) = Absent
seat_by_message n from (messages.VoteReply term granted) = Absent
seat_by_message n from (messages.Append term prev_index prev_term entries commit) = Absent
seat_by_message n from (messages.AppendReply term ok index) = Absent
seat_by_message n from (messages.Forward payload) = Absent
seat_by_message n from (messages.Snap term index index_term snapshot) =
    Live (made_by_snap n.node n.nodes term from index index_term snapshot)

-- and it answers an Append and a snapshot
abbrev pub answered_absent : Node → (range from : ℕ) → Message AppliedState → Node
answered_absent n range from message = record (with_seat n range (seat_by_message n from message)) {
  sent = n.sent ++ parcels range (absent_answer from message);
}

-- a message comes, by what the node has of its range: a tombstone drops it
abbrev pub delivered : Node → (from range : ℕ) → Message AppliedState → Status → Node
delivered n from range message Absent = answered_absent n range from message
delivered n from range message (Live r) =
    after_replica n range (at_replica.Deliver from message)
    (event r (at_replica.Deliver from message) n.ticks n.rounds [])
delivered n from range message (Removed applied) = n

-- a round more
abbrev pub rounded : Node → Node
rounded n = record n {
  rounds = n.rounds + 1;
  waited = max n.waited (longest_wait (n.rounds + 1) n.seats);
}

-- the request joins the list of those that were to be admitted
abbrev pub with_request : Node → Request → Node
with_request n request = record n { requests = n.requests ++ request ∷ [] }

-- what happens at the node, before it is written down
abbrev pub acted : Node → Event AppliedState → List Item → NodeDone
acted n (Admit range id request) taken =
    by_replica (with_request n request) range (at_replica.Admit id request) []
acted n (Ask range) taken = by_replica n range at_replica.Ask []
acted n (Transfer range to) taken = by_replica n range (at_replica.Transfer to) []
acted n (Collect range) taken = by_replica n range at_replica.Collect taken
acted n (Flush range) taken = by_replica n range at_replica.Flush []
acted n Tick taken = done (all_turns at_replica.Tick (record n { ticks = n.ticks + 1 }) range_numbers)
acted n (Deliver from range number message) taken = done (delivered n from range message (seat n range))
acted n (Apply range) taken = by_replica n range at_replica.Apply []
acted n (Cut range) taken = by_replica n range at_replica.Cut []
acted n (Remove range) taken = by_replica n range at_replica.Remove []
acted n (Peek range key) taken = by_replica n range (at_replica.Peek key) []
acted n Restart taken = done (all_turns at_replica.Restart n range_numbers)
acted n Round taken = done (rounded n)

-- how the journal of the node keeps an event; of a collect with what was given
abbrev pub past_of : Node → Event AppliedState → List Item → PastEvent
past_of n (Admit range id request) taken = past.Admit range id (length n.requests)
past_of n (Ask range) taken = past.Ask range
past_of n (Transfer range to) taken = past.Transfer range to
past_of n (Collect range) taken = past.Collect range taken
past_of n (Flush range) taken = past.Flush range
past_of n Tick taken = past.Tick
past_of n (Deliver from range number message) taken = past.Deliver from number
past_of n (Apply range) taken = past.Apply range
past_of n (Cut range) taken = past.Cut range
past_of n (Remove range) taken = past.Remove range
past_of n (Peek range key) taken = past.Peek range key
past_of n Restart taken = past.Restart
past_of n Round taken = past.Round (length n.sent)

-- an event of a node, with what its buffer gave a collect; it stands in the journal with its answer
abbrev pub step : Node → Event AppliedState → (taken : List Item) → NodeDone
step n e taken = written (past_of n e taken) (acted n e taken)
