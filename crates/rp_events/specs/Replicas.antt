-- A replica of a range at a node, and what an event leaves of it (after CockroachDB's replica and its
-- proposals).
use Rattle.std.specs.Prelude.{ℕ, Bool, not, ◌&&◌, ◌==◌, List, [], Option, None, is_some}
use Rattle.std.specs.Option.{option_eq}
use Rattle.rp_base.specs.declared.items.Item.{Item}
use Rattle.rp_base.specs.declared.leases.Lease.{Lease}
use Rattle.rp_base.specs.declared.leases.LeaseAsk.{LeaseAsk}
use Rattle.rp_raftstep.specs.declared.heads.Head.{Head}
use Rattle.rp_raftstep.specs.declared.messages.Message.{Message}
use Rattle.rp_raftstep.specs.RaftState.{RaftState}
use Rattle.rp_raftstep.specs.RaftState as rafts
use Rattle.rp_latch.specs.declared.holds.Hold.{Hold}
use Rattle.rp_pending.specs.declared.proposals.Proposal.{Proposal}
use Rattle.rp_request.specs.Applied.{AppliedState}
use Rattle.rp_request.specs.History.{History}
use Rattle.rp_request.specs.History as history
use Rattle.rp_events.specs.declared.answers.Ended.{Ended}
use Rattle.rp_events.specs.declared.answers.EventAnswer.{EventAnswer}

-- its part in Raft; what it has applied, with its records; the latches that its pending proposals
-- hold; these proposals in order of admission; the last lease index that it gave; the items that its
-- buffer gave and no flush has taken; the lease asks that it answered and no collect has given; and
-- the lease sequence at its last restart, under which it admits no more
pub record Replica : Type 0 where
  pub raft : RaftState
  pub applied : History
  pub latches : List Hold
  pub pending : List Proposal
  pub assigned : ℕ
  pub inbox : List Item
  pub asks : List LeaseAsk
  pub barrier : ℕ

-- a replica that has proposed nothing yet
abbrev pub fresh : RaftState → History → Replica
fresh raft applied = record {
  raft = raft;
  applied = applied;
  latches = [];
  pending = [];
  assigned = 0;
  inbox = [];
  asks = [];
  barrier = 0;
}

-- a replica of a range that starts in this state, behind this index and term of its log, with this
-- leader
abbrev pub started : (node nodes leader base base_term : ℕ) → AppliedState → Replica
started node nodes leader base base_term state =
    fresh (rafts.started node nodes leader base base_term) (history.started state base)

-- a replica that a leader's snapshot makes
abbrev pub made_by_snap : (node nodes term from index index_term : ℕ) → AppliedState → Replica
made_by_snap node nodes term from index index_term snapshot =
    fresh (rafts.made_by_snap node nodes term from index index_term) (history.started snapshot index)

-- the lease that it has applied
abbrev pub lease_of : Replica → Lease
lease_of r = r.applied.state.lease

-- whether its node holds that lease
abbrev pub holds_lease : Replica → Bool
holds_lease r = (lease_of r).holder == r.raft.head.node

-- what an event leaves and answers, what it sends and which attempts it ends, in their orders; which
-- payloads it hands to Raft; and the state that a right range starts with, where a split is taken
pub record Done : Type 0 where
  pub replica : Replica
  pub answer : EventAnswer
  pub messages : List (ℕ × Message AppliedState)
  pub outcomes : List Ended
  pub proposed : List (List ℕ)
  pub right : Option AppliedState

-- the replica becomes this, and nothing is sent or ended
abbrev pub leaves : Replica → EventAnswer → Done
leaves r answer = record {
  replica = r;
  answer = answer;
  messages = [];
  outcomes = [];
  proposed = [];
  right = None;
}

-- a replica, and the attempts that have ended so far in an event
pub record Told : Type 0 where
  pub replica : Replica
  pub ended : List Ended

-- no attempt has ended
abbrev pub untold : Replica → Told
untold r = record { replica = r; ended = [] }

-- the term or the leader is another than before, and the leader is known
abbrev pub has_new_leader : Head → Head → Bool
has_new_leader old new =
    is_some new.leader
    && not (new.term == old.term && option_eq (λ a b. a == b) new.leader old.leader)
