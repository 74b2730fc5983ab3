-- What a plan does to a replica, and where it may be committed.
use Rattle.std.specs.Prelude.{◌≡◌, ℕ, ◌-◌, ◌≤◌, ◌<◌, ◌^◌, List, [], length, filter_map, Option, None, Some, Ok, IsSome}
use Rattle.std.specs.List.{filter}
use Rattle.rp_latch.specs.Holds.{answer, is_of_other}
use Rattle.rp_raft.specs.Plans.{IsMadeIn, done_by, taken_in, room_of, sends_of}
use Rattle.rp_raft.specs.Plans as rafts
use Rattle.rp_raft.specs.declared.plans.RaftPlan.{RaftPlan}
use Rattle.rp_raftstep.specs.declared.messages.Message.{Message}
use Rattle.rp_raftstep.specs.Step.{Draft, then_proposed, step_then}
use Rattle.rp_request.specs.Applied.{AppliedState}
use Rattle.rp_request.specs.Applicable.{Fits}
use Rattle.rp_request.specs.Covers.{spans_of}
use Rattle.rp_request.specs.History as history
use Rattle.rp_apply.specs.Rooms.{IsWithin, needed}
use Rattle.rp_pending.specs.Proposals.{proposal_of, without}
use Rattle.rp_pending.specs.declared.proposals.Proposal.{Proposal}
use Rattle.rp_events.specs.declared.answers.Ended.{Ended}
use Rattle.rp_events.specs.declared.answers.Effects.{Effects}
use Rattle.rp_events.specs.declared.answers.EventAnswer.{EventAnswer}
use Rattle.rp_events.specs.declared.answers.EventAnswer.TheVariants as answers
use Rattle.rp_events.specs.Replicas.{Replica, Done, Told, leaves}
use Rattle.rp_events.specs.Admissions.{with_proposal}
use Rattle.rp_events.specs.LeaseAsks.{answers_ask, collected}
use Rattle.rp_events.specs.Moves.{moved_all, waits_again}
use Rattle.rp_events.specs.Refreshes.{with_taken}
use Rattle.rp_events.specs.Ends.{end_of, overtaken_by, held_by_others, restarted_as}
use Rattle.rp_replica.specs.declared.plans.Application.{Application}
use Rattle.rp_replica.specs.declared.plans.HandOver.{HandOver}
use Rattle.rp_replica.specs.declared.plans.ReplicaPlan.{ReplicaPlan}
use Rattle.rp_replica.specs.declared.plans.ReplicaPlan.TheVariants.{Answers, Admits, Asks, Collects, Applies, HandsOver, Cuts, Removes, Restarts}
use Rattle.rp_replica.specs.declared.plans.Turn.{Turn}
use Rattle.rp_replica.specs.declared.plans.Turn.TheVariants.{Stays, Ends, WaitsAgain}
use Rattle.rp_replica.specs.Handing.{items_of}
use Rattle.rp_replica.specs.Rooms.{Room}

-- what committing a plan leaves, and what it hands out
pub record Left : Type 0 where
  pub replica : Replica
  pub answer : EventAnswer
  pub messages : List (ℕ × Message AppliedState)
  pub outcomes : List Ended

-- the same of an event
abbrev pub left_of : Done → Left
left_of d = record {
  replica = d.replica;
  answer = d.answer;
  messages = d.messages;
  outcomes = d.outcomes;
}

-- the same of a replica and what was handed out
abbrev pub left_by : Replica → Effects AppliedState → Left
left_by r e = record {
  replica = r;
  answer = e.answer;
  messages = e.messages;
  outcomes = e.outcomes;
}

-- what an applied entry makes of the proposal that it came of
abbrev pub turned : Replica → Turn → Replica
turned r Stays = r
turned r (Ends id) = record r {
  latches = filter (is_of_other id) r.latches;
  pending = without id r.pending;
}
turned r (WaitsAgain id) = waits_again r id

-- the replica once the payload is applied and its record is kept
abbrev pub recorded : Replica → Application → Replica
recorded r a = record r { applied = history.applied r.applied a.payload }

-- where a flush has given lease indexes, the inbox is empty and the last one is kept
abbrev pub opened : Replica → Option ℕ → Replica
opened r None = r
opened r (Some last) = record r { assigned = last; inbox = [] }

-- the replica before the moves of its proposals: what a flush took is gone from the inbox, and a
-- snapshot is taken in
abbrev pub begun : Replica → HandOver → Told
begun r h = with_taken (opened r h.last) (taken_in h.raft)

-- what a plan of Raft leaves
abbrev pub with_raft : Replica → RaftPlan AppliedState → Replica
with_raft r p = record r { raft = (done_by r.raft p).state }

-- what a plan does
abbrev pub planned : Replica → ReplicaPlan → Left
planned r (Answers answer) = left_of (leaves r answer)
planned r (Admits p) = left_of (leaves (with_proposal r p) answers.Admitted)
planned r (Asks ask) = left_of (answers_ask r ask)
planned r (Collects taken) = left_of (collected r taken.list)
planned r (Applies a) = record {
  replica = turned (recorded r a) a.turn;
  answer = answers.Done;
  messages = [];
  outcomes = a.outcomes;
}
planned r (HandsOver h) = record {
  replica = (moved_all h.ticks h.round (begun (with_raft r h.raft) h) h.moves).replica;
  answer = answers.Done;
  messages = sends_of h.raft;
  outcomes = h.outcomes;
}
planned r (Cuts p) = record {
  replica = with_raft r p;
  answer = answers.Done;
  messages = sends_of p;
  outcomes = [];
}
planned r (Removes outcomes) = record {
  replica = record r { latches = held_by_others outcomes r.latches; pending = [] };
  answer = answers.Done;
  messages = [];
  outcomes = outcomes;
}
planned r (Restarts outcomes) = left_of (restarted_as r outcomes)

-- the start of the right range that a plan opens
abbrev pub right_in : ReplicaPlan → Option AppliedState
right_in (Answers answer) = None
right_in (Admits p) = None
right_in (Asks ask) = None
right_in (Collects taken) = None
right_in (Applies a) = a.right
right_in (HandsOver h) = None
right_in (Cuts p) = None
right_in (Removes outcomes) = None
right_in (Restarts outcomes) = None

-- the plan once the right range's start was handed out
abbrev pub without_right : ReplicaPlan → ReplicaPlan
without_right (Answers answer) = Answers answer
without_right (Admits p) = Admits p
without_right (Asks ask) = Asks ask
without_right (Collects taken) = Collects taken
without_right (Applies a) = Applies (record a { right = None })
without_right (HandsOver h) = HandsOver h
without_right (Cuts p) = Cuts p
without_right (Removes outcomes) = Removes outcomes
without_right (Restarts outcomes) = Restarts outcomes

-- the plan is one of a collect
abbrev pub IsCollect : ReplicaPlan → Type 0
IsCollect (Answers answer) = ⊥
IsCollect (Admits p) = ⊥
IsCollect (Asks ask) = ⊥
IsCollect (Collects taken) = Unit {0}
IsCollect (Applies a) = ⊥
IsCollect (HandsOver h) = ⊥
IsCollect (Cuts p) = ⊥
IsCollect (Removes outcomes) = ⊥
IsCollect (Restarts outcomes) = ⊥

-- a proposal may be admitted: its attempt is not pending, and no latch stands in its way
pub record AdmitFits (r : Replica) (p : Proposal) : Type 0 where
  pub new : proposal_of p.id r.pending ≡ None
  pub clear : answer r.latches (spans_of p.request) ≡ Ok tt

-- the proposal that turns is there
abbrev pub IsKnown : List Proposal → Turn → Type 0
IsKnown ps Stays = Unit {0}
IsKnown ps (Ends id) = IsSome (proposal_of id ps)
IsKnown ps (WaitsAgain id) = IsSome (proposal_of id ps)

-- a planned application fits a replica
pub record ApplicationFits (r : Replica) (a : Application) : Type 0 where
  pub index : r.applied.index < 2 ^ 64 - 1
  pub seq : r.applied.state.lease.seq < 2 ^ 64 - 1
  pub split : Fits r.applied.state a.payload
  pub known : IsKnown r.pending a.turn

-- where a snapshot is taken in, these are the ends of all that it overtook
abbrev pub EndsOvertaken : List Proposal → Option (ℕ × AppliedState) → List Ended → Type 0
EndsOvertaken ps None ended = Unit {0}
EndsOvertaken ps (Some taken) ended = ended ≡ filter_map (end_of (overtaken_by taken.1.lai)) ps

-- what is handed to Raft fits a replica, and so many items go back to the inbox at most
pub record HandOverFits (r : Replica) (h : HandOver) : Type 0 where
  pub raft : IsMadeIn r.raft h.raft
  pub overtaken : EndsOvertaken r.pending (taken_in h.raft) h.outcomes
  pub back : items_of h.moves ≤ h.back

-- a plan fits a replica
abbrev pub PlanFits : Replica → ReplicaPlan → Type 0
PlanFits r (Answers answer) = Unit {0}
PlanFits r (Admits p) = AdmitFits r p
PlanFits r (Asks ask) = Unit {0}
PlanFits r (Collects taken) = length taken.list ≤ 16
PlanFits r (Applies a) = ApplicationFits r a
PlanFits r (HandsOver h) = HandOverFits r h
PlanFits r (Cuts p) = IsMadeIn r.raft p
PlanFits r (Removes outcomes) = Unit {0}
PlanFits r (Restarts outcomes) = Unit {0}

-- a proposal that waits again needs a place in the inbox
abbrev pub places_of : Turn → ℕ
places_of Stays = 0
places_of (Ends id) = 0
places_of (WaitsAgain id) = 1

-- a snapshot that is taken in needs a place among the earlier pieces of records
abbrev pub pieces_of : Option (ℕ × AppliedState) → ℕ
pieces_of None = 0
pieces_of (Some taken) = 1

-- how many entries a plan of Raft brings
abbrev pub entries_of : RaftPlan AppliedState → ℕ
entries_of p = room_of p.draft.edit

pub record HandOverRoom (room : Room) (h : HandOver) : Type 0 where
  pub log : entries_of h.raft ≤ room.log
  pub inbox : h.back ≤ room.inbox
  pub pieces : pieces_of (taken_in h.raft) ≤ room.applied.pieces

-- the room that a plan needs
abbrev pub HasRoom : Room → ReplicaPlan → Type 0
HasRoom room (Answers answer) = Unit {0}
HasRoom room (Admits p) = (1 ≤ room.latches) × (1 ≤ room.pending)
HasRoom room (Asks ask) = 1 ≤ room.asks
HasRoom room (Collects taken) = 16 ≤ room.inbox
HasRoom room (Applies a) = IsWithin (needed a.payload) room.applied × (places_of a.turn ≤ room.inbox)
HasRoom room (HandsOver h) = HandOverRoom room h
HasRoom room (Cuts p) = entries_of p ≤ room.log
HasRoom room (Removes outcomes) = Unit {0}
HasRoom room (Restarts outcomes) = Unit {0}

-- made for this replica, the plan does this
pub record Makes (r : Replica) (p : ReplicaPlan) (d : Done) : Type 0 where
  pub does : planned r p ≡ left_of d
  pub fits : PlanFits r p

-- Raft's part of the plan is that event with a Propose of these payloads behind it, as one event
abbrev pub HandsBehind : Replica → Draft AppliedState → ReplicaPlan → List (List ℕ) → Type 0
HandsBehind r draft (HandsOver h) bytes =
    rafts.Makes r.raft h.raft (then_proposed draft bytes)
    (step_then r.applied.index r.applied.state draft bytes)
HandsBehind r draft (Answers answer) bytes = ⊥
HandsBehind r draft (Admits p) bytes = ⊥
HandsBehind r draft (Asks ask) bytes = ⊥
HandsBehind r draft (Collects taken) bytes = ⊥
HandsBehind r draft (Applies a) bytes = ⊥
HandsBehind r draft (Cuts p) bytes = ⊥
HandsBehind r draft (Removes outcomes) bytes = ⊥
HandsBehind r draft (Restarts outcomes) bytes = ⊥

abbrev pub Hands : Replica → Option (Draft AppliedState) → ReplicaPlan → List (List ℕ) → Type 0
Hands r None p bytes = bytes ≡ []
Hands r (Some draft) p bytes = HandsBehind r draft p bytes

-- the plan of an event: it makes what the event does, opens the right range with its start, and hands
-- to Raft what the event hands to it, behind this event of Raft where there is one
pub record IsPlan (r : Replica) (draft : Option (Draft AppliedState)) (p : ReplicaPlan) (d : Done)
    : Type 0 where
  pub makes : Makes r p d
  pub right : right_in p ≡ d.right
  pub hands : Hands r draft p d.proposed
