-- What an applied entry makes of the proposal that it came of, and what its attempt is told, each from
-- the one verdict on the entry.
use Rattle.std.specs.Prelude.{Bool, if◌then◌else◌, List, [], ◌∷◌}
use Rattle.rp_base.specs.declared.leases.Lease.{Lease}
use Rattle.rp_request.specs.Applied.{command_verdict}
use Rattle.rp_request.specs.declared.commands.Command.{Command}
use Rattle.rp_request.specs.declared.commands.Payload.{Payload}
use Rattle.rp_request.specs.declared.commands.Payload.TheVariants as payloads
use Rattle.rp_request.specs.declared.outcomes.Outcome.TheVariants.{Success, Refused}
use Rattle.rp_request.specs.declared.outcomes.Refusal.TheVariants.{NotLeaseHolder}
use Rattle.rp_request.specs.declared.verdicts.Verdict.{Verdict}
use Rattle.rp_request.specs.declared.verdicts.Verdict.TheVariants as verdicts
use Rattle.rp_events.specs.declared.answers.Ended.{Ended}
use Rattle.rp_events.specs.Applications.{is_own}
use Rattle.rp_events.specs.Replicas.{Replica, lease_of}
use Rattle.rp_replica.specs.declared.plans.Turn.{Turn}
use Rattle.rp_replica.specs.declared.plans.Turn.TheVariants.{Stays, Ends, WaitsAgain}

-- what the verdict on its own entry makes of a proposal
abbrev pub turn : Command → Verdict → Turn
turn c verdicts.Took = Ends c.id
turn c (verdicts.OldLease now) = Ends c.id
turn c (verdicts.OldIndex lai) = WaitsAgain c.id
turn c verdicts.LeaseMoved = Stays
turn c verdicts.Nothing = Stays

-- what its attempt is told
abbrev pub told : Lease → Command → Verdict → List Ended
told lease c verdicts.Took = record { id = c.id; outcome = Success c.reply } ∷ []
told lease c (verdicts.OldLease now) =
    record { id = c.id; outcome = Refused (NotLeaseHolder lease) } ∷ []
told lease c (verdicts.OldIndex lai) = []
told lease c verdicts.LeaseMoved = []
told lease c verdicts.Nothing = []

-- the same of a command that may be another node's
abbrev pub turn_by : (own : Bool) → Command → Verdict → Turn
turn_by own c v = if own then turn c v else Stays

abbrev pub told_of : (own : Bool) → Lease → Command → Verdict → List Ended
told_of own lease c v = if own then told lease c v else []

-- the same of any payload
abbrev pub payload_turn : Replica → Payload → Turn
payload_turn r payloads.Nothing = Stays
payload_turn r (payloads.Write c) = turn_by (is_own r c) c (command_verdict r.applied.state c)
payload_turn r (payloads.Lease ask) = Stays

abbrev pub payload_told : Replica → Payload → List Ended
payload_told r payloads.Nothing = []
payload_told r (payloads.Write c) =
    told_of (is_own r c) (lease_of r) c (command_verdict r.applied.state c)
payload_told r (payloads.Lease ask) = []
