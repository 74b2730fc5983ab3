-- How large the numbers of a world can be: each event adds a little.
use Rattle.std.specs.Prelude.{ℕ, ◌+◌, ◌<◌, ◌≤◌, List, length, All, sum_by}
use Rattle.rp_raftlog.specs.declared.entries.Entry.{Entry}
use Rattle.rp_raftlog.specs.LogState.{last_index}
use Rattle.rp_raftstep.specs.declared.messages.Message.{Message}
use Rattle.rp_raftstep.specs.declared.messages.Message.TheVariants.{Vote, VoteReply, Append, AppendReply, Forward, Snap}
use Rattle.rp_raftstep.specs.RaftState.{RaftState}
use Rattle.rp_raftsafe.specs.World.{Range, Replica, Action, Begin, Ticks, Proposes, Applies, Cuts, Removes, Restarts, Event, Acts, Comes, world_after}
use Rattle.rp_raftsafe.specs.Safety.{IsLive, HasSent}

-- terms are at most the bound, and indexes are below it
pub record RaftBelow (bound : ℕ) (st : RaftState) : Type 0 where
  pub term : st.head.term ≤ bound
  pub last : last_index st.log < bound
  pub base_term : st.log.base_term ≤ bound
  pub terms : All (λ (entry : Entry). entry.term ≤ bound) st.log.entries
  pub commit : st.head.commit < bound
  pub next : All (λ n. n ≤ bound) st.head.next
  pub matched : All (λ n. n ≤ bound) st.head.matched

pub record ReplicaBelow {S : Type 0} (bound : ℕ) (r : Replica S) : Type 0 where
  pub raft : RaftBelow bound r.raft
  pub applied : r.applied < bound

abbrev pub MessageBelow : {S : Type 0} → ℕ → Message S → Type 0
MessageBelow bound (Vote term index index_term) = (term ≤ bound) × (index < bound) × (index_term ≤ bound)
MessageBelow bound (VoteReply term granted) = term ≤ bound
MessageBelow bound (Append term prev_index prev_term entries commit) =
    (term ≤ bound) × (prev_index + length entries < bound) × (prev_term ≤ bound) × All (λ (entry : Entry). entry.term ≤ bound) entries × (commit < bound)
MessageBelow bound (AppendReply term ok index) = (term ≤ bound) × (index < bound)
MessageBelow bound (Forward payload) = Unit {0}
MessageBelow bound (Snap term index index_term snapshot) = (term ≤ bound) × (index < bound) × (index_term ≤ bound)

-- what an event adds to the bound: a tick a term and an entry, a message an entry, and each payload an entry
abbrev pub action_weight : Action → ℕ
action_weight Begin = 0
action_weight (Ticks again) = 2 + length again
action_weight (Proposes payloads) = length payloads
action_weight Applies = 0
action_weight Cuts = 0
action_weight Removes = 0
action_weight Restarts = 0

abbrev pub event_weight : Event → ℕ
event_weight (Acts node action) = action_weight action
event_weight (Comes from number again) = 1 + length again

-- the bound after a schedule
abbrev pub bound_after : {S : Type 0} → Range S → List Event → ℕ
bound_after g events = g.base + 1 + sum_by event_weight events

-- the numbers of a world stay below a bound that grows with the events
pub record IsBounded {S : Type 0} (g : Range S) (events : List Event) : Type 0 where
  pub replicas : (p : ℕ) (r : Replica S) → IsLive (world_after g events) p r → ReplicaBelow (bound_after g events) r
  pub messages : (from to : ℕ) (message : Message S) → HasSent (world_after g events) from to message → MessageBelow (bound_after g events) message

abbrev pub Bounded : Type 0 → Type 0
Bounded S = (g : Range S) (events : List Event) → IsBounded g events
