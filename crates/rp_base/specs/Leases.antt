-- How a lease follows another (this project, after CockroachDB's lease sequences).
use Rattle.std.specs.Prelude.{◌≡◌, ◌≤◌, ◌⊎◌, ◌+◌, max, ◌==◌, if◌then◌else◌, Option, None, Some}
use Rattle.rp_base.specs.declared.leases.Lease.{Lease}
use Rattle.rp_base.specs.declared.leases.LeaseAsk.{LeaseAsk}

-- the holder keeps the lease and its sequence, to the later tick of the two
abbrev pub extended : Lease → LeaseAsk → Lease
extended lease ask = record lease { expires = max lease.expires ask.expires }

-- the holder has the next lease, to the same tick
abbrev pub renewed : Lease → Lease
renewed lease = record lease { seq = lease.seq + 1 }

-- another holder has the next lease
abbrev pub moved : Lease → LeaseAsk → Lease
moved lease ask = record { holder = ask.holder; seq = lease.seq + 1; expires = ask.expires }

-- what an ask of the present sequence makes of a lease: for the holder it is extended, or at tick 0
-- renewed
abbrev pub taken_by : Lease → LeaseAsk → Lease
taken_by lease ask = if ask.holder == lease.holder
    then (if ask.expires == 0 then renewed lease else extended lease ask)
    else moved lease ask

-- what an ask makes of a lease, and nothing where it was made under another sequence
abbrev pub lease_after : Lease → LeaseAsk → Option Lease
lease_after lease ask = if ask.prev == lease.seq then Some (taken_by lease ask) else None

-- how leases follow each other: holder and sequence stay and the expiry does not fall, or the
-- sequence rises by one. So one sequence has one holder
abbrev pub Follows : Lease → Lease → Type 0
Follows old new =
    ((new.holder ≡ old.holder) × (new.seq ≡ old.seq) × (old.expires ≤ new.expires))
    ⊎ (new.seq ≡ old.seq + 1)

-- the first lease of the first range
abbrev pub first_lease : Lease
first_lease = record { holder = 1; seq = 1; expires = 40 }
