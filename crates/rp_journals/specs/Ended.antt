-- What ends: each attempt that was admitted is pending at its replica until it ends, once (this
-- project).
use Rattle.std.specs.Prelude.{◌≡◌, ℕ, ◌+◌, ◌<◌, Bool, true, false, ◌&&◌, List, [], slice_get, count_by, sum_by, Some}
use Rattle.std.specs.List.{AllByRecursion}
use Rattle.rp_base.specs.Ids.{same_id}
use Rattle.rp_base.specs.declared.ids.CmdId.{CmdId}
use Rattle.rp_pending.specs.Proposals.{has_id, is_proposed}
use Rattle.rp_pending.specs.declared.proposals.Proposal.{Proposal}
use Rattle.rp_request.specs.declared.outcomes.Outcome.{Outcome}
use Rattle.rp_request.specs.declared.outcomes.Outcome.TheVariants as outcomes
use Rattle.rp_events.specs.declared.answers.Ended.{Ended}
use Rattle.rp_events.specs.declared.answers.EventAnswer.{EventAnswer}
use Rattle.rp_events.specs.declared.answers.EventAnswer.TheVariants as answers
use Rattle.rp_events.specs.declared.journals.JournalEntry.{JournalEntry}
use Rattle.rp_events.specs.declared.journals.PastEvent.TheVariants as past
use Rattle.rp_events.specs.Nodes.{Node, Status, Absent, Live, Removed, seat}
use Rattle.rp_events.specs.Worlds.{World, node_of, is_admission_of, outcome_of}
use Rattle.rp_events.specs.Lists.{IsAdmitted}
use Rattle.rp_events.specs.Promises.{HasCause, times_ended}

-- the pending proposals of a seat
abbrev pub pending_at : Status → List Proposal
pending_at Absent = []
pending_at (Live r) = r.pending
pending_at (Removed applied) = []

-- the admission was granted
abbrev pub is_granted : EventAnswer → Bool
is_granted answers.Admitted = true
is_granted _ = false

abbrev pub is_grant_of : CmdId → JournalEntry → Bool
is_grant_of id e = is_admission_of id e && is_granted e.answer

-- how often a node admitted the attempt, has it pending, and told its end
abbrev pub times_granted : CmdId → Node → ℕ
times_granted id n = count_by (is_grant_of id) n.journal

abbrev pub times_pending : CmdId → Node → ℕ
times_pending id n = sum_by (λ status. count_by (has_id id) (pending_at status)) n.seats

abbrev pub times_told : CmdId → Node → ℕ
times_told id n = count_by (λ e. same_id e.id id) n.outcomes

-- what a node admitted is pending there, or its end was told, never both and never twice
abbrev pub Balanced : World → Type 0
Balanced w = (id : CmdId) (node : ℕ) (n : Node) → node_of w node ≡ Some n
    → times_told id n + times_pending id n ≡ times_granted id n

-- the proposal is one that the node admitted in this range, for its request; its lease index is at
-- least 1 once it is proposed
pub record IsFrom (n : Node) (range : ℕ) (p : Proposal) : Type 0 where
  pub place : ℕ
  pub at : ℕ
  pub here : slice_get n.journal place
      ≡ Some (record { event = past.Admit range p.id at; answer = answers.Admitted })
  pub asked : slice_get n.requests at ≡ Some p.request
  pub given : is_proposed p.stage ≡ true → 0 < p.max

-- each pending proposal of each node is one that it admitted
abbrev pub AllFrom : World → Type 0
AllFrom w = (node : ℕ) (n : Node) → node_of w node ≡ Some n → (range : ℕ)
    → AllByRecursion (IsFrom n range) (pending_at (seat n range))

-- an end that is told: no attempt ends as pending, and each ambiguous one has its cause
abbrev pub IsTrueEnd : World → CmdId → Outcome → Type 0
IsTrueEnd w id (outcomes.Success reply) = Unit {0}
IsTrueEnd w id (outcomes.Refused why) = Unit {0}
IsTrueEnd w id (outcomes.Ambiguous why) = HasCause w id why
IsTrueEnd w id outcomes.Pending = ⊥

abbrev pub AllTrueEnds : World → Type 0
AllTrueEnds w = (node : ℕ) (n : Node) → node_of w node ≡ Some n
    → AllByRecursion (λ (e : Ended). IsTrueEnd w e.id e.outcome) n.outcomes

-- the proposal's attempt was admitted in this range of this node, for its request, is told that it
-- is pending, and has no end
pub record IsHeldThere (w : World) (id : CmdId) (node range : ℕ) (p : Proposal) : Type 0 where
  pub place : ℕ
  pub admitted : IsAdmitted w id node place range p.request
  pub told : outcome_of w id ≡ Some outcomes.Pending
  pub unended : times_ended w id ≡ 0
