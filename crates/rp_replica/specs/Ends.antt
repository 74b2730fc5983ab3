-- Why proposals end all at once, and how each ends by where it stands.
use Rattle.std.specs.Prelude.{◌&&◌, nat_le, if◌then◌else◌, Option, None, Some}
use Rattle.std.specs.Option.{option_map}
use Rattle.rp_request.specs.declared.outcomes.Ambiguity.TheVariants as causes
use Rattle.rp_request.specs.declared.outcomes.Outcome.{Outcome}
use Rattle.rp_request.specs.declared.outcomes.Outcome.TheVariants.{Refused, Ambiguous}
use Rattle.rp_request.specs.declared.outcomes.Refusal.TheVariants.{NoReplica, NotLeaseHolder}
use Rattle.rp_pending.specs.Proposals.{is_proposed}
use Rattle.rp_pending.specs.declared.proposals.Proposal.{Proposal}
use Rattle.rp_pending.specs.declared.proposals.Standing.{Standing}
use Rattle.rp_events.specs.declared.answers.Ended.{Ended}
use Rattle.rp_events.specs.Ends.{overtaken_by, removed_with, lost_under}
use Rattle.rp_replica.specs.declared.ends.Cause.{Cause}
use Rattle.rp_replica.specs.declared.ends.Cause.TheVariants.{Overtaken, Removed, Restarted}

-- how a proposal ends for this cause
abbrev pub ends_by : Cause → Proposal → Option Outcome
ends_by (Overtaken lai) p = overtaken_by lai p
ends_by Removed p = removed_with p
ends_by (Restarted lease) p = lost_under lease p

-- the same, by where it stands
abbrev pub outcome_by : Cause → Standing → Option Outcome
outcome_by (Overtaken lai) s =
    if is_proposed s.stage && nat_le s.max lai
    then Some (Ambiguous (causes.Snapshot s.max lai))
    else None
outcome_by Removed s =
    if is_proposed s.stage
    then Some (Ambiguous (causes.Removed s.max))
    else Some (Refused NoReplica)
outcome_by (Restarted lease) s =
    if is_proposed s.stage
    then Some (Ambiguous (causes.Restarted s.max))
    else Some (Refused (NotLeaseHolder lease))

abbrev pub end_by : Cause → Standing → Option Ended
end_by cause s = option_map (λ outcome. record { id = s.id; outcome = outcome }) (outcome_by cause s)
