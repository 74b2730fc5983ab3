-- What one entry does to an applied state, as far as the numbers go. Beside the laws on tables and
-- descriptions this is all that the other proofs know of the check and the step.
use Rattle.std.proofs.Common.{◌≡◌, ℕ, ◌<◌, ◌≤◌, Bool, true, false, cond, ◌==◌, eqb, nat_le, nat_lt, ◌⊎◌, inl, inr, Option, Some, None, Err, refl, sym, ap, subst, ◌∙◌, arith}
use Rattle.rp_base.specs.declared.ranges.Desc.{Desc}
use Rattle.rp_base.specs.declared.ranges.SplitFault.TheVariants.{NotInside}
use Rattle.rp_base.specs.declared.leases.Lease as leases
use Rattle.rp_base.specs.Splits.{split_of, parts_of}
use Rattle.rp_request.specs.declared.requests.Request.{Request}
use Rattle.rp_request.specs.declared.requests.Request.TheVariants.{Put, Add, CPut, Del, Wipe, Move, Split}
use Rattle.rp_request.specs.declared.commands.Payload.{Payload}
use Rattle.rp_request.specs.declared.commands.Payload.TheVariants.{Nothing, Write, Lease}
use Rattle.rp_request.specs.declared.commands.Command.{Command}
use Rattle.rp_request.specs.Applied.{AppliedState, verdict, after, written, leased, desc_after, left_of, command_verdict, asked, IsBlocked}
use Rattle.rp_request.specs.declared.verdicts.Verdict.{Verdict}
use Rattle.rp_request.specs.declared.verdicts.Verdict.TheVariants.{Took, OldLease, OldIndex, LeaseMoved}
use Rattle.rp_request.specs.declared.verdicts.Verdict.TheVariants as verdicts
use Rattle.rp_request.proofs.Opened.{by_tests, took_tells, old_lease_tells, old_index_tells}
use Rattle.rp_request.proofs.Numbers.{onward_one, blocked_onward, blocked_not_taken}
use Rattle.rp_rangesafe.specs.Places.{IsFurther}

pub further_same : (s : AppliedState) → IsFurther s s
further_same s = record { numbers = record { lai = omega arith; seq = omega arith; holder = λ _. refl }; level = omega arith; id = refl }

pub further_trans : (s t u : AppliedState) → IsFurther s t → IsFurther t u → IsFurther s u
further_trans s t u a b = record {
  numbers = record { lai = omega arith; seq = omega arith; holder = λ e. b.numbers.holder (omega arith) ∙ a.numbers.holder (omega arith) };
  level = omega arith;
  id = a.id ∙ b.id;
}

-- a description that is split keeps its number
record Cut (d t : Desc) : Type 0 where
  level : d.level ≤ t.level
  id : d.id ≡ t.id

uncut : (d : Desc) → Cut d d
uncut d = record { level = omega arith; id = refl }

cut_parts : (d : Desc) (key : ℕ) (low : Bool) (e : nat_lt d.level 3 ≡ low) → Cut d (left_of d (parts_of d key low e))
cut_parts d key true e = record { level = omega arith; id = refl }
cut_parts d key false e = uncut d

cut_split : (d : Desc) (key : ℕ) → Cut d (left_of d (split_of d key))
cut_split d key = go (key == d.start) where
  go : (b : Bool) → Cut d (left_of d (cond b (Err NotInside) (parts_of d key (nat_lt d.level 3) refl)))
  go true = uncut d
  go false = cut_parts d key (nat_lt d.level 3) refl

cut_request : (d : Desc) (r : Request) → Cut d (desc_after d r)
cut_request d (Put key value) = uncut d
cut_request d (Add key by) = uncut d
cut_request d (CPut key expect value) = uncut d
cut_request d (Del key) = uncut d
cut_request d (Wipe span) = uncut d
cut_request d (Move from to by) = uncut d
cut_request d (Split key) = cut_split d key

cut_after : (s : AppliedState) (p : Payload) → Cut s.desc (after s p).desc
cut_after s Nothing = uncut s.desc
cut_after s (Write c) = go (command_verdict s c) where
  go : (v : Verdict) → Cut s.desc (written s c v).desc
  go Took = cut_request s.desc c.request
  go (OldLease now) = uncut s.desc
  go (OldIndex lai) = uncut s.desc
  go LeaseMoved = uncut s.desc
  go verdicts.Nothing = uncut s.desc
cut_after s (Lease ask) = go (asked s ask) where
  go : (o : Option leases.Lease) → Cut s.desc (leased s o).desc
  go (Some lease) = uncut s.desc
  go None = uncut s.desc

-- one entry leads further
pub further_one : (s : AppliedState) (p : Payload) → IsFurther s (after s p)
further_one s p = let c = cut_after s p in record { numbers = onward_one s p; level = c.level; id = c.id }

-- a command that is taken has the present sequence and a maximum above the lease applied index
pub record IsTimely (s : AppliedState) (c : Command) : Type 0 where
  pub seq : c.seq ≡ s.lease.seq
  pub max : s.lai < c.max

pub timely : (s : AppliedState) (c : Command) → verdict s (Write c) ≡ Took → IsTimely s c
timely s c e = let t = took_tells s c e in record { seq = t.0; max = t.1 }

pub old_lease : (s : AppliedState) (c : Command) (now : ℕ) → verdict s (Write c) ≡ OldLease now → c.seq ≡ s.lease.seq → ⊥
old_lease s c now e = (old_lease_tells s c now e).0

pub old_index : (s : AppliedState) (c : Command) (lai : ℕ) → verdict s (Write c) ≡ OldIndex lai → c.max ≤ s.lai
old_index s c lai e = (old_index_tells s c lai e).1

-- the check of a command tells nothing else
others : (s : AppliedState) (c : Command) (v : Verdict) → command_verdict s c ≡ v → (v ≡ LeaseMoved) ⊎ (v ≡ verdicts.Nothing) → ⊥
others s c v e h = go (eqb c.seq s.lease.seq) (nat_le c.max s.lai) refl refl h where
  go : (same past : Bool) → eqb c.seq s.lease.seq ≡ same → nat_le c.max s.lai ≡ past → (v ≡ LeaseMoved) ⊎ (v ≡ verdicts.Nothing) → ⊥
  go true true es ep (inl k) = let t = by_tests s c true true es ep in cc
  go true true es ep (inr k) = let t = by_tests s c true true es ep in cc
  go true false es ep (inl k) = let t = by_tests s c true false es ep in cc
  go true false es ep (inr k) = let t = by_tests s c true false es ep in cc
  go false past es ep (inl k) = let t = by_tests s c false past es ep in cc
  go false past es ep (inr k) = let t = by_tests s c false past es ep in cc

pub no_lease_moved : (s : AppliedState) (c : Command) → verdict s (Write c) ≡ LeaseMoved → ⊥
no_lease_moved s c e = others s c LeaseMoved e (inl refl)

pub no_void : (s : AppliedState) (c : Command) → verdict s (Write c) ≡ verdicts.Nothing → ⊥
no_void s c e = others s c verdicts.Nothing e (inr refl)

-- after a command was taken the lease applied index is its maximum
pub taken_lai : (s : AppliedState) (c : Command) → verdict s (Write c) ≡ Took → (after s (Write c)).lai ≡ c.max
taken_lai s c e = ap (λ v. (written s c v).lai) e

-- what is blocked stays so
pub blocked_further : (s t : AppliedState) (seq max : ℕ) → IsFurther s t → IsBlocked s seq max → IsBlocked t seq max
blocked_further s t seq max o = blocked_onward s t seq max o.numbers

-- and is not taken
pub blocked_untaken : (s : AppliedState) (c : Command) (seq : ℕ) → c.seq ≡ seq → IsBlocked s seq c.max → verdict s (Write c) ≡ Took → ⊥
blocked_untaken s c seq e b = blocked_not_taken s c (subst (λ n. IsBlocked s n c.max) (sym e) b)
