-- What the check at application tells, and what tells the check.
use Rattle.std.proofs.Common.{◌≡◌, ◌≢◌, ℕ, ◌≤◌, ◌<◌, ◌↔◌, Bool, true, false, eqb, nat_le, cond, Option, Some, None, arith, refl}
use Rattle.std.proofs.lemmas.Bool.Decides.{nat_tests}
use Rattle.rp_base.specs.declared.leases.Lease.{Lease}
use Rattle.rp_base.specs.declared.leases.LeaseAsk.{LeaseAsk}
use Rattle.rp_base.specs.Leases.{Follows}
use Rattle.rp_base.proofs.LeaseLaws.{lease_follows}
use Rattle.rp_request.specs.declared.commands.Command.{Command}
use Rattle.rp_request.specs.declared.commands.Payload.TheVariants as payloads
use Rattle.rp_request.specs.declared.items.Place.TheVariants as places
use Rattle.rp_request.specs.declared.items.Record.TheVariants as kept
use Rattle.rp_request.specs.declared.verdicts.Verdict.TheVariants.{Took, OldLease, OldIndex}
use Rattle.rp_request.specs.Applied.{AppliedState, command_verdict, asked, ask_record, record_of, verdict}

-- the check of a command, by its two tests
pub by_tests : (s : AppliedState) (c : Command) (same past : Bool) → eqb c.seq s.lease.seq ≡ same → nat_le c.max s.lai ≡ past
    → command_verdict s c ≡ cond same (cond past (OldIndex s.lai) Took) (OldLease s.lease.seq)
unfolding command_verdict
by_tests s c same past es ep = rw (es, ep)

-- a command that is taken has the present sequence, and its maximum is above the lease applied index
pub took_tells : (s : AppliedState) (c : Command) → command_verdict s c ≡ Took → (c.seq ≡ s.lease.seq) × (s.lai < c.max)
took_tells s c h = go (eqb c.seq s.lease.seq) (nat_le c.max s.lai) refl refl where
  go : (same past : Bool) → eqb c.seq s.lease.seq ≡ same → nat_le c.max s.lai ≡ past → (c.seq ≡ s.lease.seq) × (s.lai < c.max)
  go true false es ep = (grind (arith, nat_tests), grind (arith, nat_tests))
  go true true es ep = absurd (let e = by_tests s c true true es ep in cc)
  go false past es ep = absurd (let e = by_tests s c false past es ep in cc)

-- a command that is passed as of an old lease has another sequence than the present one, which the check tells
pub old_lease_tells : (s : AppliedState) (c : Command) (now : ℕ) → command_verdict s c ≡ OldLease now
    → (c.seq ≢ s.lease.seq) × (now ≡ s.lease.seq)
old_lease_tells s c now h = go (eqb c.seq s.lease.seq) (nat_le c.max s.lai) refl refl where
  go : (same past : Bool) → eqb c.seq s.lease.seq ≡ same → nat_le c.max s.lai ≡ past → (c.seq ≢ s.lease.seq) × (now ≡ s.lease.seq)
  go true false es ep = absurd (let e = by_tests s c true false es ep in cc)
  go true true es ep = absurd (let e = by_tests s c true true es ep in cc)
  go false past es ep = (grind (arith, nat_tests), let e = by_tests s c false past es ep in cc)

-- a command that is passed as of an old index has the present sequence, and its maximum is at or below
-- the lease applied index, which the check tells
pub old_index_tells : (s : AppliedState) (c : Command) (lai : ℕ) → command_verdict s c ≡ OldIndex lai
    → (c.seq ≡ s.lease.seq) × (c.max ≤ s.lai) × (lai ≡ s.lai)
old_index_tells s c lai h = go (eqb c.seq s.lease.seq) (nat_le c.max s.lai) refl refl where
  go : (same past : Bool) → eqb c.seq s.lease.seq ≡ same → nat_le c.max s.lai ≡ past → (c.seq ≡ s.lease.seq) × (c.max ≤ s.lai) × (lai ≡ s.lai)
  go true false es ep = absurd (let e = by_tests s c true false es ep in cc)
  go true true es ep = (grind (arith, nat_tests), grind (arith, nat_tests), let e = by_tests s c true true es ep in cc)
  go false past es ep = absurd (let e = by_tests s c false past es ep in cc)

-- the present sequence and a maximum above the lease applied index: the command is taken
pub takes : (s : AppliedState) (c : Command) → c.seq ≡ s.lease.seq → s.lai < c.max → command_verdict s c ≡ Took
unfolding command_verdict
takes s c same above = grind (arith, nat_tests)

-- the lease that an ask makes follows the present one
pub asked_tells : (s : AppliedState) (ask : LeaseAsk) (new : Lease) → asked s ask ≡ Some new → Follows s.lease new
unfolding asked
asked_tells s ask new h = lease_follows s.lease ask new h

-- the item of an ask that is taken is its lease
item_is : (new : Option Lease) (lease : Lease) → ask_record new ≡ kept.Took (places.Lease lease) → new ≡ Some lease
item_is (Some l) lease h = cc
item_is None lease h = absurd cc

pub item_tells : (s : AppliedState) (ask : LeaseAsk) (new : Lease) → record_of s (payloads.Lease ask) ≡ kept.Took (places.Lease new)
    → Follows s.lease new
item_tells s ask new h = asked_tells s ask new (item_is (asked s ask) new h)

pub taken_where : (s : AppliedState) (c : Command) → (verdict s (payloads.Write c) ≡ Took) ↔ ((c.seq ≡ s.lease.seq) × (s.lai < c.max))
taken_where s c = (took_tells s c, λ x. takes s c x.0 x.1)
