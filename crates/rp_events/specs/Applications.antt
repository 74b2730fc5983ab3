-- Apply: the next committed entry is checked and applied, and its proposer is told (after CockroachDB:
-- the proposer ends, refuses or proposes its command again by the check's verdict).
use Rattle.std.specs.Prelude.{◌+◌, Bool, false, ◌&&◌, ◌==◌, nat_lt, if◌then◌else◌, [], Option, None, Some, Result, Ok, Err}
use Rattle.std.specs.Option.{option_map_or}
use Rattle.rp_codec.specs.Reading.{payload_in}
use Rattle.rp_codec.specs.declared.faults.BadField.{BadField}
use Rattle.rp_raftlog.specs.LogState.{entry_at}
use Rattle.rp_raftlog.specs.declared.entries.Entry.{Entry}
use Rattle.rp_request.specs.Applied.{command_verdict}
use Rattle.rp_request.specs.History as history
use Rattle.rp_request.specs.States.{right_of}
use Rattle.rp_request.specs.declared.commands.Command.{Command}
use Rattle.rp_request.specs.declared.commands.Payload.{Payload}
use Rattle.rp_request.specs.declared.commands.Payload.TheVariants.{Nothing, Write, Lease}
use Rattle.rp_request.specs.declared.outcomes.Outcome.TheVariants.{Success, Refused}
use Rattle.rp_request.specs.declared.outcomes.Refusal.TheVariants.{NotLeaseHolder}
use Rattle.rp_request.specs.declared.verdicts.Verdict.{Verdict}
use Rattle.rp_request.specs.declared.verdicts.Verdict.TheVariants as verdicts
use Rattle.rp_pending.specs.Proposals.{proposal_of, is_proposed}
use Rattle.rp_events.specs.declared.answers.EventAnswer.TheVariants as answers
use Rattle.rp_events.specs.Replicas.{Replica, Done, Told, untold, leaves, lease_of}
use Rattle.rp_events.specs.Moves.{ended, waits_again}

-- the entry is the replica's own: it has proposed this attempt under this lease index
abbrev pub is_own : Replica → Command → Bool
is_own r c =
    option_map_or (λ p. is_proposed p.stage && p.max == c.max) (proposal_of c.id r.pending) false

-- what the verdict on its own entry is to the proposer: taken, it ends with the reply; passed as of an
-- old lease, it is refused; passed as of an old index, it waits again
abbrev pub settled : Replica → Command → Verdict → Told
settled r c verdicts.Took = ended r c.id (Success c.reply)
settled r c (verdicts.OldLease now) = ended r c.id (Refused (NotLeaseHolder (lease_of r)))
settled r c (verdicts.OldIndex lai) = untold (waits_again r c.id)
settled r c verdicts.LeaseMoved = untold r
settled r c verdicts.Nothing = untold r

-- the proposer's part of an application: other entries end nothing
abbrev pub proposer_told : Replica → Payload → Told
proposer_told r Nothing = untold r
proposer_told r (Write c) =
    if is_own r c then settled r c (command_verdict r.applied.state c) else untold r
proposer_told r (Lease ask) = untold r

-- the payload is applied, and its record is kept
abbrev pub recorded : Told → Payload → Told
recorded t p = record {
  replica = record t.replica { applied = history.applied t.replica.applied p };
  ended = t.ended;
}

-- a payload is applied, the proposer is told, and a split that is taken gives the right range's start
abbrev pub applied_one : Replica → Payload → Done
applied_one r p = record {
  replica = (recorded (proposer_told r p) p).replica;
  answer = answers.Done;
  messages = [];
  outcomes = (proposer_told r p).ended;
  proposed = [];
  right = right_of r.applied.state p;
}

-- the payload that an entry carries
abbrev pub decoded : Result Payload BadField → Option Payload
decoded (Ok p) = Some p
decoded (Err bad) = None

abbrev pub payload_of : Option Entry → Option Payload
payload_of None = None
payload_of (Some e) = decoded (payload_in e.payload)

-- the next entry that is committed and not applied, where there is one
abbrev pub next_entry : Replica → Option Entry
next_entry r =
    if nat_lt r.applied.index r.raft.head.commit
    then entry_at r.raft.log (r.applied.index + 1)
    else None

abbrev pub applied_where : Replica → Option Payload → Done
applied_where r None = leaves r answers.Nothing
applied_where r (Some p) = applied_one r p

-- Apply
abbrev pub applied : Replica → Done
applied r = applied_where r (payload_of (next_entry r))
