-- Which snapshots a replica takes in, and which it sends.
use Rattle.std.specs.Prelude.{◌≡◌, ℕ, ◌<◌, Some, List, ◌∷◌, ◌++◌}
use Rattle.rp_raftstep.specs.declared.messages.Message.{Message}
use Rattle.rp_raftstep.specs.declared.messages.Message.TheVariants.{Snap}
use Rattle.rp_raftstep.specs.declared.events.RaftEvent.{RaftEvent}
use Rattle.rp_raftstep.specs.declared.events.RaftEvent.TheVariants.{Tick, Receive, Propose, Cut}
use Rattle.rp_raftstep.specs.RaftState.{RaftState}
use Rattle.rp_raftstep.specs.Step.{received, step}
use Rattle.rp_raftsafe.specs.World.{Range, Replica, Event, world_after}
use Rattle.rp_raftsafe.specs.Safety.{IsLive, HasSent}

-- the message brings a snapshot of this index, which the replica has not committed
pub record BringsAbove {S : Type 0} (st : RaftState) (message : Message S) (index : ℕ)
    (snapshot : S) : Type 0 where
  pub term : ℕ
  pub index_term : ℕ
  pub is : message ≡ Snap term index index_term snapshot
  pub above : st.head.commit < index

-- a snapshot that a message makes a replica take in is the message's, and above the commit index
abbrev pub TakesAbove : Type 0 → Type 0
TakesAbove S =
    (st : RaftState) (from : ℕ) (message : Message S) (index : ℕ) (snapshot : S)
    → (received st from message).taken ≡ Some (index, snapshot)
    → BringsAbove st message index snapshot

-- the event brings a snapshot of this index, which the replica has not committed
abbrev pub EventBrings : {S : Type 0} → RaftState → RaftEvent S → ℕ → S → Type 0
EventBrings st Tick index snapshot = ⊥
EventBrings st (Receive from message) index snapshot = BringsAbove st message index snapshot
EventBrings st (Propose payloads) index snapshot = ⊥
EventBrings st (Cut to) index snapshot = ⊥

-- and no event but a message makes a replica take one in
abbrev pub StepTakesAbove : Type 0 → Type 0
StepTakesAbove S =
    (applied : ℕ) (state : S) (st : RaftState) (event : RaftEvent S) (index : ℕ) (snapshot : S)
    → (step applied state st event).out.taken ≡ Some (index, snapshot)
    → EventBrings st event index snapshot

-- before one of the events the node had applied up to this index, and had this state
pub record HadApplied {S : Type 0} (g : Range S) (events : List Event) (node index : ℕ) (state : S)
    : Type 0 where
  pub early : List Event
  pub event : Event
  pub late : List Event
  pub whole : early ++ event ∷ late ≡ events
  pub replica : Replica S
  pub live : IsLive (world_after g early) node replica
  pub applied : replica.applied ≡ index
  pub state_is : replica.state ≡ state

-- a snapshot that was sent is of an index and a state that its sender had applied (Raft 2014,
-- section 7)
abbrev pub SnapsWereApplied : Type 0 → Type 0
SnapsWereApplied S =
    (g : Range S) (events : List Event) (from to term index index_term : ℕ) (snapshot : S)
    → HasSent (world_after g events) from to (Snap term index index_term snapshot)
    → HadApplied g events from index snapshot
