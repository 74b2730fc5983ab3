-- The applied state of a replica, and what one committed payload does to it (after CockroachDB's
-- check at application: a command's lease sequence is tested before its lease applied index).
use Rattle.std.specs.Prelude.{ℕ, ◌+◌, ◌^◌, ◌≤◌, ◌<◌, ◌⊎◌, ◌==◌, nat_le, if◌then◌else◌, List, [], ◌∷◌, Option, None, Some, Result, Ok, Err}
use Rattle.rp_base.specs.Leases.{lease_after}
use Rattle.rp_base.specs.Splits.{split_of}
use Rattle.rp_base.specs.declared.leases.Lease as leases
use Rattle.rp_base.specs.declared.leases.LeaseAsk.{LeaseAsk}
use Rattle.rp_base.specs.declared.ranges.Desc.{Desc}
use Rattle.rp_base.specs.declared.ranges.SplitFault.{SplitFault}
use Rattle.rp_base.specs.Tables.{Table}
use Rattle.rp_request.specs.declared.commands.Command.{Command}
use Rattle.rp_request.specs.declared.commands.Payload.{Payload}
use Rattle.rp_request.specs.declared.commands.Payload.TheVariants as payloads
use Rattle.rp_request.specs.declared.items.Place.{Place}
use Rattle.rp_request.specs.declared.items.Place.TheVariants as places
use Rattle.rp_request.specs.declared.items.Record as records
use Rattle.rp_request.specs.declared.items.Record.TheVariants as kept
use Rattle.rp_request.specs.declared.items.Why.TheVariants as reasons
use Rattle.rp_request.specs.declared.requests.Request.{Request}
use Rattle.rp_request.specs.declared.requests.Request.TheVariants.{Put, Add, CPut, Del, Wipe, Move, Split}
use Rattle.rp_request.specs.Batches.{after_batch}
use Rattle.rp_request.specs.declared.verdicts.Verdict.{Verdict}
use Rattle.rp_request.specs.declared.verdicts.Verdict.TheVariants.{Took, OldLease, OldIndex, LeaseMoved, Nothing}

-- what a replica has applied: the description, the lease, the lease applied index, the table
pub record AppliedState : Type 0 where
  pub desc : Desc
  pub lease : leases.Lease
  pub lai : ℕ
  pub table : Table

-- the check of a command: its sequence is the present one, and then its maximum is above the lease
-- applied index
unfoldable pub command_verdict : AppliedState → Command → Verdict
command_verdict s c = if c.seq == s.lease.seq
    then (if nat_le c.max s.lai then OldIndex s.lai else Took)
    else OldLease s.lease.seq

-- the lease that an ask makes here, and nothing where it follows another lease than the present one
unfoldable pub asked : AppliedState → LeaseAsk → Option leases.Lease
asked s ask = lease_after s.lease ask

-- the check of an ask, by the lease that it makes
abbrev pub ask_verdict : Option leases.Lease → Verdict
ask_verdict (Some lease) = Took
ask_verdict None = LeaseMoved

-- the check of a payload
abbrev pub verdict : AppliedState → Payload → Verdict
verdict s payloads.Nothing = Nothing
verdict s (payloads.Write c) = command_verdict s c
verdict s (payloads.Lease ask) = ask_verdict (asked s ask)

-- the number of the right part of a split: the range's own plus 2 to its level
abbrev pub right_number : Desc → ℕ
right_number d = d.id + 2 ^ d.level

-- the item of a command that is taken: of a split, with the number of the right part
abbrev pub item_by : Desc → Command → Request → Place
item_by d c (Put key value) = places.Write c.id (Put key value) c.seq c.reply
item_by d c (Add key by) = places.Write c.id (Add key by) c.seq c.reply
item_by d c (CPut key expect value) = places.Write c.id (CPut key expect value) c.seq c.reply
item_by d c (Del key) = places.Write c.id (Del key) c.seq c.reply
item_by d c (Wipe span) = places.Write c.id (Wipe span) c.seq c.reply
item_by d c (Move from to by) = places.Write c.id (Move from to by) c.seq c.reply
item_by d c (Split key) = places.Split c.id key (right_number d) c.seq

abbrev pub item : Desc → Command → Place
item d c = item_by d c c.request

-- the record of a command, by its verdict
abbrev pub command_record : Desc → Command → Verdict → records.Record
command_record d c Took = kept.Took (item d c)
command_record d c (OldLease now) = kept.Passed reasons.OldLease
command_record d c (OldIndex lai) = kept.Passed reasons.OldIndex
command_record d c LeaseMoved = kept.Passed reasons.LeaseMoved
command_record d c Nothing = kept.Passed reasons.Nothing

-- the record of an ask, by the lease that it makes
abbrev pub ask_record : Option leases.Lease → records.Record
ask_record (Some lease) = kept.Took (places.Lease lease)
ask_record None = kept.Passed reasons.LeaseMoved

-- the record that a payload leaves
abbrev pub record_of : AppliedState → Payload → records.Record
record_of s payloads.Nothing = kept.Passed reasons.Nothing
record_of s (payloads.Write c) = command_record s.desc c (command_verdict s c)
record_of s (payloads.Lease ask) = ask_record (asked s ask)

-- the left part of a split, and the whole where there is no split
abbrev pub left_of : Desc → Result (Desc × Desc) SplitFault → Desc
left_of d (Ok parts) = parts.0
left_of d (Err fault) = d

-- the description after a request: only a split changes it
abbrev pub desc_after : Desc → Request → Desc
desc_after d (Put key value) = d
desc_after d (Add key by) = d
desc_after d (CPut key expect value) = d
desc_after d (Del key) = d
desc_after d (Wipe span) = d
desc_after d (Move from to by) = d
desc_after d (Split key) = left_of d (split_of d key)

-- a command that is taken: its batch is written, at a split the table and the description become the
-- left part, and its maximum is the lease applied index from then on
abbrev pub taken : AppliedState → Command → AppliedState
taken s c = record {
  desc = desc_after s.desc c.request;
  lease = s.lease;
  lai = c.max;
  table = after_batch s.table c.request c.batch;
}

-- a command by its verdict: it is taken or passed
abbrev pub written : AppliedState → Command → Verdict → AppliedState
written s c Took = taken s c
written s c (OldLease now) = s
written s c (OldIndex lai) = s
written s c LeaseMoved = s
written s c Nothing = s

-- an ask by the lease that it makes: that lease holds from then on
abbrev pub leased : AppliedState → Option leases.Lease → AppliedState
leased s (Some lease) = record { desc = s.desc; lease = lease; lai = s.lai; table = s.table }
leased s None = s

-- the state after one payload
abbrev pub after : AppliedState → Payload → AppliedState
after s payloads.Nothing = s
after s (payloads.Write c) = written s c (command_verdict s c)
after s (payloads.Lease ask) = leased s (asked s ask)

-- the state after a list of payloads
abbrev pub after_all : AppliedState → List Payload → AppliedState
after_all s [] = s
after_all s (p ∷ ps) = after_all (after s p) ps

-- the records that a list of payloads leaves
abbrev pub records_of : AppliedState → List Payload → List records.Record
records_of s [] = []
records_of s (p ∷ ps) = record_of s p ∷ records_of (after s p) ps

-- a command with this maximum and this sequence is blocked: the maximum is at or below the lease
-- applied index, or a later sequence holds
abbrev pub IsBlocked : AppliedState → ℕ → ℕ → Type 0
IsBlocked s seq max = (max ≤ s.lai) ⊎ (seq < s.lease.seq)
