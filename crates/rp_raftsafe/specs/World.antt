-- The world of one range: what each node has of it, and all that each node ever sent.
use Rattle.std.specs.Prelude.{ℕ, zero, suc, ◌+◌, ◌<◌, Option, None, List, [], ◌∷◌, ◌++◌, replicate, slice_get, slice_index_or, slice_set, nat_lt, if◌then◌else◌}
use Rattle.std.specs.Option.{option_map_or}
use Rattle.rp_raftlog.specs.declared.entries.Entry.{Entry}
use Rattle.rp_raftlog.specs.LogState.{entry_at}
use Rattle.rp_raftstep.specs.declared.messages.Message.{Message}
use Rattle.rp_raftstep.specs.declared.messages.Message.TheVariants.{Vote, VoteReply, Append, AppendReply, Forward, Snap}
use Rattle.rp_raftstep.specs.declared.events.RaftEvent.TheVariants.{Cut}
use Rattle.rp_raftstep.specs.RaftState.{RaftState, started, made_by_snap, restarted}
use Rattle.rp_raftstep.specs.Step.{Draft, quiet, tick, received, Done, step, step_then, absent_answer}

-- a range: how many nodes there are, who leads it in term 1, behind which index its log begins, the state
-- there, and what an entry makes of a state
pub record Range (S : Type 0) : Type 0 where
  pub nodes : ℕ
  pub holder : ℕ
  pub base : ℕ
  pub start : S
  pub act : S → Entry → S

-- the term of the index behind which a log begins: the term 1, or none
abbrev pub start_term : ℕ → ℕ
start_term zero = 0
start_term (suc base) = 1

-- a range has a node and a holder
pub record IsRange {S : Type 0} (g : Range S) : Type 0 where
  pub some_nodes : 0 < g.nodes
  pub some_holder : 0 < g.holder

-- a replica: its Raft, the index up to which it has applied its log, and the state there
pub record Replica (S : Type 0) : Type 0 where
  pub raft : RaftState
  pub applied : ℕ
  pub state : S

-- what a node has of the range: nothing yet, a replica, or a tombstone
pub data Status (S : Type 0) : Type 0 where
  Absent : Status S
  Live : Replica S → Status S
  Removed : Status S

-- a node's part of the world: what it has of the range, and what it has sent, as pairs of receiver and message
pub record Site (S : Type 0) : Type 0 where
  pub status : Status S
  pub sent : List (ℕ × Message S)

-- the nodes 1, 2, ..
abbrev pub World : Type 0 → Type 0
World S = List (Site S)

-- what an event makes of a node's status, and what the node sends
pub record Turn (S : Type 0) : Type 0 where
  pub status : Status S
  pub sends : List (ℕ × Message S)

-- nothing happens
abbrev pub stays : {S : Type 0} → Status S → Turn S
stays status = record { status = status; sends = [] }

-- the replica as the range starts
abbrev pub first : {S : Type 0} → Range S → ℕ → Replica S
first g node = record {
  raft = started node g.nodes g.holder g.base (start_term g.base);
  applied = g.base;
  state = g.start;
}

-- the replica that a snapshot makes
abbrev pub from_snap : {S : Type 0} → Range S → ℕ → ℕ → ℕ → ℕ → ℕ → S → Replica S
from_snap g node from term index index_term snapshot = record {
  raft = made_by_snap node g.nodes term from index index_term;
  applied = index;
  state = snapshot;
}

-- a replica whose Raft did this: a snapshot that it took in is its applied state
abbrev pub after_raft : {S : Type 0} → Replica S → Done S → Turn S
after_raft r done = record {
  status = Live (record {
    raft = done.state;
    applied = option_map_or (λ taken. taken.0) done.out.taken r.applied;
    state = option_map_or (λ taken. taken.1) done.out.taken r.state;
  });
  sends = done.out.messages;
}

-- an event of a replica's Raft, with the payloads that a refresh proposes again in the same event
abbrev pub by_raft : {S : Type 0} → Replica S → Draft S → List (List ℕ) → Turn S
by_raft r draft again = after_raft r (step_then r.applied r.state draft again)

-- the replica has applied this entry too
abbrev pub applied_one : {S : Type 0} → Range S → Replica S → Entry → Turn S
applied_one g r entry = stays (Live (record r { applied = r.applied + 1; state = g.act r.state entry }))

-- what may happen at a node without a message
pub data Action : Type 0 where
  Begin : Action
  Ticks : List (List ℕ) → Action
  Proposes : List (List ℕ) → Action
  Applies : Action
  Cuts : Action
  Removes : Action
  Restarts : Action

-- what an action makes of a replica
abbrev pub replica_acts : {S : Type 0} → Range S → Replica S → Action → Turn S
replica_acts g r Begin = stays (Live r)
replica_acts g r (Ticks again) = by_raft r (tick r.raft) again
replica_acts g r (Proposes payloads) = by_raft r (quiet r.raft) payloads
-- the next entry is applied, if it is committed
replica_acts g r Applies = if nat_lt r.applied r.raft.head.commit then option_map_or (applied_one g r) (entry_at r.raft.log (r.applied + 1)) (stays (Live r)) else stays (Live r)
replica_acts g r Cuts = after_raft r (step r.applied r.state r.raft (Cut r.applied))
replica_acts g r Removes = stays Removed
replica_acts g r Restarts = stays (Live (record r { raft = restarted r.applied r.raft }))

-- a node that has nothing yet may be given its replica
abbrev pub absent_acts : {S : Type 0} → Range S → ℕ → Action → Turn S
absent_acts g node Begin = stays (Live (first g node))
absent_acts g node (Ticks again) = stays Absent
absent_acts g node (Proposes payloads) = stays Absent
absent_acts g node Applies = stays Absent
absent_acts g node Cuts = stays Absent
absent_acts g node Removes = stays Absent
absent_acts g node Restarts = stays Absent

-- what an action makes of what a node has
abbrev pub acts : {S : Type 0} → Range S → ℕ → Action → Status S → Turn S
acts g node action Absent = absent_acts g node action
acts g node action (Live r) = replica_acts g r action
acts g node action Removed = stays Removed

-- a snapshot makes a replica at a node that has nothing yet
abbrev pub absent_after : {S : Type 0} → Range S → ℕ → ℕ → Message S → Status S
absent_after g node from (Vote term index index_term) = Absent
absent_after g node from (VoteReply term granted) = Absent
absent_after g node from (Append term prev_index prev_term entries commit) = Absent
absent_after g node from (AppendReply term ok index) = Absent
absent_after g node from (Forward payload) = Absent
absent_after g node from (Snap term index index_term snapshot) = Live (from_snap g node from term index index_term snapshot)

-- what a message makes of what a node has
abbrev pub gets : {S : Type 0} → Range S → ℕ → ℕ → Message S → List (List ℕ) → Status S → Turn S
gets g node from message again Absent = record { status = absent_after g node from message; sends = absent_answer from message }
gets g node from message again (Live r) = by_raft r (received r.raft from message) again
gets g node from message again Removed = stays Removed

-- the node's part of the world
abbrev pub site : {S : Type 0} → World S → ℕ → Site S
site w zero = record { status = Absent; sent = [] }
site w (suc place) = slice_index_or w place (record { status = Absent; sent = [] })

-- the node's part becomes this
abbrev pub with_site : {S : Type 0} → World S → ℕ → Site S → World S
with_site w zero new = w
with_site w (suc place) new = slice_set w place new

-- a node's part after a turn
abbrev pub after_turn : {S : Type 0} → Site S → Turn S → Site S
after_turn old turn = record { status = turn.status; sent = old.sent ++ turn.sends }

-- the message with this number, from 1, among those that a node has sent
abbrev pub message_of : {S : Type 0} → Site S → ℕ → Option (ℕ × Message S)
message_of sender zero = None
message_of sender (suc place) = slice_get sender.sent place

-- what may happen next: an action at a node, or a message, named by its sender and number, comes to its
-- receiver. Each may come any number of times, in any order, or never; one payload list is proposed again
pub data Event : Type 0 where
  Acts : (node : ℕ) → Action → Event
  Comes : (from number : ℕ) → List (List ℕ) → Event

-- a message comes
abbrev pub comes : {S : Type 0} → Range S → World S → ℕ → List (List ℕ) → ℕ × Message S → World S
comes g w from again sent =
    with_site w sent.0 (after_turn (site w sent.0) (gets g sent.0 from sent.1 again (site w sent.0).status))

-- the world after an event
abbrev pub happens : {S : Type 0} → Range S → World S → Event → World S
happens g w (Acts node action) = with_site w node (after_turn (site w node) (acts g node action (site w node).status))
happens g w (Comes from number again) = option_map_or (comes g w from again) (message_of (site w from) number) w

-- the world after a schedule
abbrev pub run : {S : Type 0} → Range S → List Event → World S → World S
run g [] w = w
run g (event ∷ events) w = run g events (happens g w event)

-- no node has the range
abbrev pub nowhere : {S : Type 0} → Range S → World S
nowhere g = replicate g.nodes (record { status = Absent; sent = [] })

-- the world after a schedule from the start
abbrev pub world_after : {S : Type 0} → Range S → List Event → World S
world_after g events = run g events (nowhere g)
