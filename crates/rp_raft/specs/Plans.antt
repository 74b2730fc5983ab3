-- What a plan is: a change of the head, an edit of the log, and messages that are made already.
use Rattle.std.specs.Prelude.{◌≡◌, ℕ, ◌+◌, ◌^◌, ◌<◌, ◌≤◌, Bool, true, false, Option, None, List, [], ◌∷◌, ◌++◌, length, take, count_by, nat_le}
use Rattle.rp_raftlog.specs.declared.entries.Entry.{Entry}
use Rattle.rp_raftlog.specs.LogState.{LogState, log_at, last_index, matches, appended, accepted, cut}
use Rattle.rp_raftstep.specs.declared.heads.Due.{Due}
use Rattle.rp_raftstep.specs.declared.heads.Due.TheVariants.{Nobody}
use Rattle.rp_raftstep.specs.declared.heads.Head.{Head}
use Rattle.rp_raftstep.specs.declared.messages.Message.{Message}
use Rattle.rp_raftstep.specs.declared.events.RaftEvent.{RaftEvent}
use Rattle.rp_raftstep.specs.declared.events.RaftEvent.TheVariants.{Tick, Receive, Propose, Cut}
use Rattle.rp_raftstep.specs.RaftState.{RaftState, is_leader}
use Rattle.rp_raftstep.specs.Conditions.{CanAppend}
use Rattle.rp_raftstep.specs.Step.{Draft, Done, tick, received, propose, step}
use Rattle.rp_raft.specs.declared.plans.LogEdit.{LogEdit}
use Rattle.rp_raft.specs.declared.plans.LogEdit.TheVariants.{Stays, Appends, Accepts, Cuts, Resets}
use Rattle.rp_raft.specs.declared.plans.RaftDraft.{RaftDraft}
use Rattle.rp_raft.specs.declared.plans.RaftPlan.{RaftPlan}
use Rattle.rp_raft.specs.Held.{IsSound}

-- what an edit makes of a log
abbrev pub edited : LogState → LogEdit → LogState
edited log Stays = log
edited log (Appends entries) = appended log entries
edited log (Accepts prev_index prev_term entries) = accepted log prev_index entries
edited log (Cuts to) = cut log to
edited log (Resets index term) = log_at index term

-- the edit may be made of the log
abbrev pub EditFits : LogState → LogEdit → Type 0
EditFits log Stays = Unit {0}
EditFits log (Appends entries) = last_index log + length entries < 2 ^ 64
EditFits log (Accepts prev_index prev_term entries) =
    (prev_index + length entries < 2 ^ 64) × (matches log prev_index prev_term ≡ true)
EditFits log (Cuts to) = (log.base ≤ to) × (to ≤ last_index log)
EditFits log (Resets index term) = Unit {0}

-- how many entries the edit brings
abbrev pub room_of : LogEdit → ℕ
room_of Stays = 0
room_of (Appends entries) = length entries
room_of (Accepts prev_index prev_term entries) = length entries
room_of (Cuts to) = 0
room_of (Resets index term) = 0

-- an edit of any event but a Cut
abbrev pub IsNoCut : LogEdit → Type 0
IsNoCut Stays = Unit {0}
IsNoCut (Appends entries) = Unit {0}
IsNoCut (Accepts prev_index prev_term entries) = Unit {0}
IsNoCut (Cuts to) = ⊥
IsNoCut (Resets index term) = Unit {0}

abbrev pub is_no_cut : LogEdit → Bool
is_no_cut Stays = true
is_no_cut (Appends entries) = true
is_no_cut (Accepts prev_index prev_term entries) = true
is_no_cut (Cuts to) = false
is_no_cut (Resets index term) = true

-- who takes entries or a snapshot of a leader is no leader, and sends no entries
abbrev pub IsSendable : LogEdit → Head → Due → Type 0
IsSendable Stays head due = Unit {0}
IsSendable (Appends entries) head due = Unit {0}
IsSendable (Accepts prev_index prev_term entries) head due =
    (is_leader head.role ≡ false) × (due ≡ Nobody)
IsSendable (Cuts to) head due = due ≡ Nobody
IsSendable (Resets index term) head due = (is_leader head.role ≡ false) × (due ≡ Nobody)

-- the edit with more entries behind, where it leaves the log or puts entries behind it
abbrev pub edit_behind : LogEdit → List Entry → LogEdit
edit_behind Stays more = Appends more
edit_behind (Appends entries) more = Appends (entries ++ more)
edit_behind (Accepts prev_index prev_term entries) more = Accepts prev_index prev_term entries
edit_behind (Cuts to) more = Cuts to
edit_behind (Resets index term) more = Resets index term

-- the entries that the edit puts behind the log's own
abbrev pub behind_of : LogEdit → List Entry
behind_of Stays = []
behind_of (Appends entries) = entries
behind_of (Accepts prev_index prev_term entries) = []
behind_of (Cuts to) = []
behind_of (Resets index term) = []

-- the state with another head
abbrev pub with_head : RaftState → Head → RaftState
with_head st head = record { head = head; log = st.log }

-- entries, if there are any, can stand behind the log
abbrev pub CanHold : LogState → List Entry → Type 0
CanHold log added = 0 < length added → last_index log + length added < 2 ^ 64

-- the head with another commit index
abbrev pub with_commit : Head → ℕ → Head
with_commit head commit = record head { commit = commit }

-- a leader's state with these entries behind its log
abbrev pub ahead : Head → LogState → List Entry → RaftState
ahead head log added = record { head = head; log = appended log added }

-- how many of these indexes are at least this one
abbrev pub at_least : ℕ → List ℕ → ℕ
at_least index indexes = count_by (λ known. nat_le index known) indexes

-- the state that a head and an edit lead to
abbrev pub leads_to : Head → LogState → LogEdit → RaftState
leads_to head log edit = record { head = head; log = edited log edit }

-- a draft that sends nothing
abbrev pub quiet_draft : {S : Type 0} → Head → RaftDraft S
quiet_draft head = record { head = head; edit = Stays; messages = []; due = Nobody; taken = None }

-- the draft with a message more
abbrev pub with_message : {S : Type 0} → RaftDraft S → ℕ → Message S → RaftDraft S
with_message d to message = record d { messages = d.messages ++ (to, message) ∷ [] }

-- what a draft means over the log that it was made of
abbrev pub draft_of : {S : Type 0} → LogState → RaftDraft S → Draft S
draft_of log d = record {
  state = leads_to d.head log d.edit;
  replies = d.messages;
  due = d.due;
  taken = d.taken;
}

-- a draft that an event begins with: beside its head it holds nothing yet
pub record IsBegun {S : Type 0} (st : RaftState) (d : RaftDraft S) : Type 0 where
  pub edit : d.edit ≡ Stays
  pub messages : d.messages ≡ []
  pub due : d.due ≡ Nobody
  pub taken : d.taken ≡ None
  pub sound : IsSound (with_head st d.head)

pub record DraftFits {S : Type 0} (log : LogState) (d : RaftDraft S) : Type 0 where
  pub whole : IsNoCut d.edit
  pub edit : EditFits log d.edit
  pub sound : IsSound (leads_to d.head log d.edit)
  pub sendable : IsSendable d.edit d.head d.due

-- made of this log, the draft is that one
pub record Drafts {S : Type 0} (log : LogState) (d : RaftDraft S) (draft : Draft S) : Type 0 where
  pub is : draft_of log d ≡ draft
  pub fits : DraftFits log d

-- what the plan drafted, before the commit index moved on and the last messages were made
abbrev pub drafted_by : {S : Type 0} → RaftState → RaftPlan S → Draft S
drafted_by st p = record {
  state = leads_to p.draft.head st.log p.draft.edit;
  replies = take p.replies p.draft.messages;
  due = p.draft.due;
  taken = p.draft.taken;
}

-- the plan that an event begins with: all is as in this state
pub record BeginsAt {S : Type 0} (st : RaftState) (p : RaftPlan S) : Type 0 where
  pub begun : IsBegun st p.draft
  pub head : p.draft.head ≡ st.head
  pub commit : p.commit ≡ st.head.commit
  pub replies : p.replies ≡ 0

-- the head that the planned event leaves, what it sends, and what it takes in
abbrev pub head_after : {S : Type 0} → RaftPlan S → Head
head_after p = with_commit p.draft.head p.commit

abbrev pub sends_of : {S : Type 0} → RaftPlan S → List (ℕ × Message S)
sends_of p = p.draft.messages

abbrev pub taken_in : {S : Type 0} → RaftPlan S → Option (ℕ × S)
taken_in p = p.draft.taken

-- the plan without the snapshot that it takes in: all else is as before
abbrev pub snapshot_out : {S : Type 0} → RaftPlan S → RaftPlan S
snapshot_out p = record p { draft = record p.draft { taken = None } }

-- what the plan does
abbrev pub done_by : {S : Type 0} → RaftState → RaftPlan S → Done S
done_by st p = record {
  state = leads_to (head_after p) st.log p.draft.edit;
  out = record { messages = sends_of p; taken = taken_in p };
}

-- the plan was made in this state
pub record IsMadeIn {S : Type 0} (st : RaftState) (p : RaftPlan S) : Type 0 where
  pub edit : EditFits st.log p.draft.edit
  pub sound : IsSound (leads_to (head_after p) st.log p.draft.edit)
  pub draft : IsSound (leads_to p.draft.head st.log p.draft.edit)
  pub sendable : IsSendable p.draft.edit p.draft.head p.draft.due
  pub replies : p.replies ≤ length p.draft.messages

-- the plan may be committed in this state, with this room
pub record PlanFits {S : Type 0} (st : RaftState) (spare : ℕ) (p : RaftPlan S) : Type 0 where
  pub made : IsMadeIn st p
  pub room : room_of p.draft.edit ≤ spare

-- made in this state, the plan drafts that and does this
pub record Makes {S : Type 0} (st : RaftState) (p : RaftPlan S) (draft : Draft S) (done : Done S)
    : Type 0 where
  pub drafts : drafted_by st p ≡ draft
  pub does : done_by st p ≡ done
  pub whole : IsNoCut p.draft.edit

-- made in this state, the plan is one of this event
abbrev pub Plans : {S : Type 0} → ℕ → S → RaftState → RaftEvent S → RaftPlan S → Type 0
Plans applied snapshot st Tick p = Makes st p (tick st) (step applied snapshot st Tick)
Plans applied snapshot st (Receive from message) p =
    Makes st p (received st from message) (step applied snapshot st (Receive from message))
Plans applied snapshot st (Propose payloads) p =
    Makes st p (propose st payloads) (step applied snapshot st (Propose payloads))
Plans applied snapshot st (Cut to) p = done_by st p ≡ step applied snapshot st (Cut to)

-- what the plan of any event but a Cut asks for to be extended by these payloads: one that leads then
-- can append them
pub record CanExtend {S : Type 0} (st : RaftState) (p : RaftPlan S) (payloads : List (List ℕ))
    : Type 0 where
  pub whole : IsNoCut p.draft.edit
  pub room :
      is_leader (drafted_by st p).state.head.role ≡ true → CanAppend (drafted_by st p).state payloads
