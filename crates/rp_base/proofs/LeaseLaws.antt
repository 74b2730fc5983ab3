-- A lease under the rule.
use Rattle.std.proofs.Common.{◌≡◌, ◌+◌, ◌≤◌, inl, inr, Bool, true, false, eqb, Some, None, arith, refl, sym, subst, cond}
use Rattle.std.proofs.lemmas.Bool.Decides.{eqb_tells}
use Rattle.rp_base.specs.declared.leases.Lease.{Lease}
use Rattle.rp_base.specs.declared.leases.LeaseAsk.{LeaseAsk}
use Rattle.rp_base.specs.Leases.{extended, renewed, moved, taken_by, lease_after, Follows}

-- what the rule makes of a lease, by its three tests
pub taken_by_tests : (old : Lease) (ask : LeaseAsk) (holder zero : Bool) → eqb ask.holder old.holder ≡ holder → eqb ask.expires 0 ≡ zero
    → taken_by old ask ≡ cond holder (cond zero (renewed old) (extended old ask)) (moved old ask)
taken_by_tests old ask holder zero same_holder is_zero = rw (same_holder, is_zero)

pub lease_by_tests : (old : Lease) (ask : LeaseAsk) (prev holder zero : Bool) → eqb ask.prev old.seq ≡ prev → eqb ask.holder old.holder ≡ holder
    → eqb ask.expires 0 ≡ zero
    → lease_after old ask ≡ cond prev (Some (cond holder (cond zero (renewed old) (extended old ask)) (moved old ask))) None
lease_by_tests old ask prev holder zero same_prev same_holder is_zero = rw (same_prev, same_holder, is_zero)

-- what an ask of the present sequence makes of a lease follows it
follows_by : (old : Lease) (ask : LeaseAsk) (holder zero : Bool) → eqb ask.holder old.holder ≡ holder
    → Follows old (cond holder (cond zero (renewed old) (extended old ask)) (moved old ask))
follows_by old ask true true e = inr refl
follows_by old ask true false e = inl (refl, refl, omega arith)
follows_by old ask false zero e = inr refl

pub taken_follows : (old : Lease) (ask : LeaseAsk) → Follows old (taken_by old ask)
taken_follows old ask = follows_by old ask (eqb ask.holder old.holder) (eqb ask.expires 0) refl

-- an ask that takes effect was made under the present sequence, and this is what it makes
pub lease_was_present : (old : Lease) (ask : LeaseAsk) (new : Lease) → lease_after old ask ≡ Some new
    → (ask.prev ≡ old.seq) × (new ≡ taken_by old ask)
lease_was_present old ask new h = elim (eqb_tells ask.prev old.seq) [
  | inl present ↦ (present.1, (let e : Some (taken_by old ask) ≡ Some new = rw present.0 at h in cc))
  | inr past ↦ absurd (let e : None ≡ Some new = rw past.0 at h in cc)
]

-- the lease that an ask makes follows the one before
pub lease_follows : (old : Lease) (ask : LeaseAsk) (new : Lease) → lease_after old ask ≡ Some new → Follows old new
lease_follows old ask new h = subst (λ (l : Lease). Follows old l) (sym (lease_was_present old ask new h).1) (taken_follows old ask)

-- its sequence does not fall, and rises by one at most
pub follows_rises : (old new : Lease) → Follows old new → old.seq ≤ new.seq
follows_rises old new f = elim f [ inl same ↦ omega (arith, same.1) | inr other ↦ omega (arith, other) ]

pub follows_by_one : (old new : Lease) → Follows old new → new.seq ≤ old.seq + 1
follows_by_one old new f = elim f [ inl same ↦ omega (arith, same.1) | inr other ↦ omega (arith, other) ]

-- under the same sequence the holder is the same, and the expiry does not fall
pub follows_holder : (old new : Lease) → Follows old new → new.seq ≡ old.seq → (new.holder ≡ old.holder) × (old.expires ≤ new.expires)
follows_holder old new f e = elim f [ inl same ↦ (same.0, same.2) | inr other ↦ absurd (omega (arith, other, e)) ]

pub lease_seq_rises : (old : Lease) (ask : LeaseAsk) (new : Lease) → lease_after old ask ≡ Some new → old.seq ≤ new.seq
lease_seq_rises old ask new h = follows_rises old new (lease_follows old ask new h)
