-- What ends proposals beside their own entry: a snapshot that is taken in, the removal of the replica,
-- and a restart of its node (after CockroachDB's ambiguous results).
use Rattle.std.specs.Prelude.{ℕ, Bool, not, if◌then◌else◌, List, [], filter_map, Option, None, Some, is_none}
use Rattle.std.specs.Option.{option_map}
use Rattle.std.specs.List.{filter, list_any}
use Rattle.std.specs.FinMap.{get}
use Rattle.rp_base.specs.Ids.{same_id}
use Rattle.rp_base.specs.declared.leases.Lease.{Lease}
use Rattle.rp_latch.specs.declared.holds.Hold.{Hold}
use Rattle.rp_request.specs.Applied.{AppliedState}
use Rattle.rp_request.specs.History.{reset_to}
use Rattle.rp_request.specs.declared.outcomes.Ambiguity.TheVariants as causes
use Rattle.rp_request.specs.declared.outcomes.Outcome.{Outcome}
use Rattle.rp_request.specs.declared.outcomes.Outcome.TheVariants.{Refused, Ambiguous}
use Rattle.rp_request.specs.declared.outcomes.Refusal.TheVariants.{NoReplica, NotLeaseHolder}
use Rattle.rp_pending.specs.Proposals.{is_proposed}
use Rattle.rp_pending.specs.Refreshes.{goes_back}
use Rattle.rp_pending.specs.declared.proposals.Proposal.{Proposal}
use Rattle.rp_raftstep.specs.RaftState.{restarted}
use Rattle.rp_raftstep.specs.Step.{cut_away}
use Rattle.rp_events.specs.declared.answers.Ended.{Ended}
use Rattle.rp_events.specs.declared.answers.EventAnswer.TheVariants as answers
use Rattle.rp_events.specs.Replicas.{Replica, Done, Told, leaves, lease_of}

-- how a proposal ends, as its attempt is told
abbrev pub end_of : (Proposal → Option Outcome) → Proposal → Option Ended
end_of ends p = option_map (λ outcome. record { id = p.id; outcome = outcome }) (ends p)

-- of these attempts one holds it
abbrev pub is_held_by_one : List Ended → Hold → Bool
is_held_by_one ended hold = list_any (λ e. same_id hold.id e.id) ended

-- the holds of all but these attempts
abbrev pub held_by_others : List Ended → List Hold → List Hold
held_by_others ended holds = filter (λ hold. not (is_held_by_one ended hold)) holds

-- each proposal ends that is said to, in order of admission, and its latches are free
abbrev pub ends_all : (Proposal → Option Outcome) → Replica → Told
ends_all ends r =
    let ended = filter_map (end_of ends) r.pending in
    record {
      replica = record r {
        latches = held_by_others ended r.latches;
        pending = filter (λ p. is_none (ends p)) r.pending;
      };
      ended = ended;
    }

-- a snapshot with this lease applied index overtook what is proposed under an index at or below it
abbrev pub overtaken_by : (lai : ℕ) → Proposal → Option Outcome
overtaken_by lai p =
    if goes_back lai p then Some (Ambiguous (causes.Snapshot p.max lai)) else None

-- the snapshot's state becomes the applied one, at the index of its message; what it overtook ends
abbrev pub snapshot_taken : Replica → (index : ℕ) → AppliedState → Told
snapshot_taken r index snapshot =
    ends_all (overtaken_by snapshot.lai) (record r { applied = reset_to r.applied snapshot index })

-- a removal: what is proposed may still take effect, what waits never will
abbrev pub removed_with : Proposal → Option Outcome
removed_with p =
    if is_proposed p.stage
    then Some (Ambiguous (causes.Removed p.max))
    else Some (Refused NoReplica)

abbrev pub removed_as : Told → Done
removed_as t = record (leaves t.replica answers.Done) { outcomes = t.ended }

-- Remove: the replica is taken down; its node keeps what it has applied as a tombstone
abbrev pub removed : Replica → Done
removed r = removed_as (ends_all removed_with r)

-- a restart: what is proposed may still take effect, what waits never will
abbrev pub lost_under : Lease → Proposal → Option Outcome
lost_under lease p =
    if is_proposed p.stage
    then Some (Ambiguous (causes.Restarted p.max))
    else Some (Refused (NotLeaseHolder lease))

-- what a restart leaves beside the applied state: Raft's term, vote and log. No attempt is admitted
-- any more under the present lease sequence
abbrev pub restarted_as : Replica → List Ended → Done
restarted_as r ended =
    record (leaves
    (record {
      raft = restarted r.applied.index r.raft;
      applied = r.applied;
      latches = [];
      pending = [];
      assigned = 0;
      inbox = [];
      asks = [];
      barrier = (lease_of r).seq;
    })
    answers.Done)
    { outcomes = ended }

-- Restart: the node starts again
abbrev pub restarts : Replica → Done
restarts r = restarted_as r (ends_all (lost_under (lease_of r)) r).ended

-- Cut: the log is cut up to the applied index
abbrev pub cut : Replica → Done
cut r = leaves (record r { raft = (cut_away {S = AppliedState} r.raft r.applied.index).state }) answers.Done

-- Peek: the applied value of a key, and the applied index
abbrev pub peeked : Replica → (key : ℕ) → Done
peeked r key = leaves r (answers.Value (get r.applied.state.table key) r.applied.index)
