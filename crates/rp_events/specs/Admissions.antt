-- Admission at the leaseholder (after CockroachDB: the lease, the bounds, the latches, and then the
-- evaluation).
use Rattle.std.specs.Prelude.{ℕ, Bool, ◌&&◌, nat_lt, if◌then◌else◌, [], ◌∷◌, ◌++◌, None, Result, Ok, Err}
use Rattle.rp_base.specs.declared.ids.CmdId.{CmdId}
use Rattle.rp_request.specs.Covers.{spans_of, in_bounds}
use Rattle.rp_request.specs.Evaluations.{evaluated}
use Rattle.rp_request.specs.declared.evaluations.Evaluated.{Evaluated}
use Rattle.rp_request.specs.declared.outcomes.Refusal.{Refusal}
use Rattle.rp_request.specs.declared.outcomes.Refusal.TheVariants.{NotLeaseHolder, RangeMismatch, Latched}
use Rattle.rp_request.specs.declared.requests.Request.{Request}
use Rattle.rp_latch.specs.Holds.{answer}
use Rattle.rp_latch.specs.declared.holds.Held.{Held}
use Rattle.rp_pending.specs.declared.proposals.Proposal.{Proposal}
use Rattle.rp_pending.specs.declared.proposals.Stage.TheVariants as stages
use Rattle.rp_events.specs.declared.answers.EventAnswer.TheVariants as answers
use Rattle.rp_events.specs.Replicas.{Replica, Done, leaves, lease_of, holds_lease}

-- a pending attempt holds a span that meets one asked
abbrev pub unlatched : Result (Unit {0}) Held → Result Evaluated Refusal → Result Evaluated Refusal
unlatched (Ok tt) evaluation = evaluation
unlatched (Err held) evaluation = Err (Latched held.by held.held)

-- its node holds the applied lease, under a sequence that is past its last restart
abbrev pub may_admit : Replica → Bool
may_admit r = holds_lease r && nat_lt r.barrier (lease_of r).seq

-- what the guards let through, in their order: the lease, the bounds, the latches, the evaluation on
-- the applied table
abbrev pub guarded : Replica → Request → Result Evaluated Refusal
guarded r request =
    if may_admit r
    then (if in_bounds r.applied.state.desc request
    then unlatched (answer r.latches (spans_of request))
    (evaluated r.applied.state.table r.applied.state.desc request)
    else Err (RangeMismatch r.applied.state.desc))
    else Err (NotLeaseHolder (lease_of r))

-- a proposal as it is admitted, under the lease sequence of its evaluation
abbrev pub proposal : CmdId → Request → Evaluated → (seq : ℕ) → Proposal
proposal id request e seq = record {
  id = id;
  request = request;
  batch = e.batch;
  reply = e.reply;
  seq = seq;
  max = 0;
  stage = stages.Waiting;
  since = 0;
  round = None;
}

-- the attempt holds its latches and waits
abbrev pub with_proposal : Replica → Proposal → Replica
with_proposal r p = record r {
  latches = r.latches ++ record { id = p.id; spans = spans_of p.request } ∷ [];
  pending = r.pending ++ p ∷ [];
}

-- by what the guards let through: a refusal changes nothing
abbrev pub admitted_by : Replica → CmdId → Request → Result Evaluated Refusal → Done
admitted_by r id request (Ok e) =
    leaves (with_proposal r (proposal id request e (lease_of r).seq)) answers.Admitted
admitted_by r id request (Err refusal) = leaves r (answers.Refused refusal)

-- Admit: an attempt asks to be admitted
abbrev pub admitted : Replica → CmdId → Request → Done
admitted r id request = admitted_by r id request (guarded r request)
