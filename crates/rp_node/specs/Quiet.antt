-- Events after which a replica sends nothing and ends no attempt.
use Rattle.std.specs.Prelude.{◌≡◌, ℕ, Bool, true, []}
use Rattle.rp_request.specs.Applied.{AppliedState}
use Rattle.rp_events.specs.declared.answers.EventAnswer.TheVariants as answers
use Rattle.rp_events.specs.declared.replica_events.ReplicaEvent.{ReplicaEvent}
use Rattle.rp_events.specs.Nodes.{Status, Absent, Live, Removed}
use Rattle.rp_events.specs.ReplicaEvents.{event}
use Rattle.rp_events.specs.Replicas.{leaves}
use Rattle.rp_replica.specs.Quiet.{only_counts}

-- a tick is counted in this seat, and no more; without a replica there is nothing to count
abbrev pub only_counts_in : (ticks : ℕ) → Status → Bool
only_counts_in ticks Absent = true
only_counts_in ticks (Live r) = only_counts r ticks
only_counts_in ticks (Removed applied) = true

-- the event makes this replica of that one, and no more; a seat without one stays
abbrev pub TurnsQuietly : ReplicaEvent AppliedState → (ticks : ℕ) → (old new : Status) → Type 0
TurnsQuietly e ticks Absent new = new ≡ Absent
TurnsQuietly e ticks (Live r) Absent = ⊥
TurnsQuietly e ticks (Live r) (Live after) =
    (round : ℕ) → event r e ticks round [] ≡ leaves after answers.Done
TurnsQuietly e ticks (Live r) (Removed applied) = ⊥
TurnsQuietly e ticks (Removed applied) new = new ≡ Removed applied
