-- Along a list of payloads: the numbers never fall, and what is blocked stays so and is never taken.
use Rattle.std.proofs.Common.{◌≡◌, ◌≢◌, ℕ, ◌∙◌, inl, inr, List, [], ◌∷◌, ◌++◌, Option, Some, None, arith, refl, ap}
use Rattle.rp_base.specs.declared.leases.Lease as leases
use Rattle.rp_base.specs.declared.leases.LeaseAsk.{LeaseAsk}
use Rattle.rp_request.specs.declared.commands.Command.{Command}
use Rattle.rp_request.specs.declared.commands.Payload.{Payload}
use Rattle.rp_request.specs.declared.commands.Payload.TheVariants.{Nothing, Write, Lease}
use Rattle.rp_request.specs.declared.verdicts.Verdict.{Verdict}
use Rattle.rp_request.specs.declared.verdicts.Verdict.TheVariants as verdicts
use Rattle.rp_request.specs.Applied.{AppliedState, command_verdict, asked, written, leased, verdict, after, record_of, after_all, records_of, IsBlocked}
use Rattle.rp_request.specs.Onward.{IsOnward}
use Rattle.rp_request.proofs.Opened.{took_tells, asked_tells}

stays : (s : AppliedState) → IsOnward s s
stays s = record { lai = omega arith; seq = omega arith; holder = λ _. refl }

further : {s t u : AppliedState} → IsOnward s t → IsOnward t u → IsOnward s u
further x y = record {
  lai = omega (arith, x.lai, y.lai);
  seq = omega (arith, x.seq, y.seq);
  holder = λ same. y.holder (omega (arith, x.seq, y.seq, same)) ∙ x.holder (omega (arith, x.seq, y.seq, same));
}

onward_written : (s : AppliedState) (c : Command) (v : Verdict) → command_verdict s c ≡ v → IsOnward s (written s c v)
onward_written s c verdicts.Took h = record { lai = omega (arith, (took_tells s c h).1); seq = omega arith; holder = λ _. refl }
onward_written s c (verdicts.OldLease now) h = stays s
onward_written s c (verdicts.OldIndex lai) h = stays s
onward_written s c verdicts.LeaseMoved h = stays s
onward_written s c verdicts.Nothing h = stays s

onward_leased : (s : AppliedState) (ask : LeaseAsk) (new : Option leases.Lease) → asked s ask ≡ new → IsOnward s (leased s new)
onward_leased s ask (Some new) h = elim (asked_tells s ask new h) [
  | inl same ↦ record { lai = omega arith; seq = omega (arith, same.1); holder = λ _. same.0 }
  | inr next ↦ record { lai = omega arith; seq = omega (arith, next); holder = λ e. absurd (omega (arith, next, e)) }
]
onward_leased s ask None h = stays s

-- one payload leads onward
pub onward_one : (s : AppliedState) (p : Payload) → IsOnward s (after s p)
onward_one s Nothing = stays s
onward_one s (Write c) = onward_written s c (command_verdict s c) refl
onward_one s (Lease ask) = onward_leased s ask (asked s ask) refl

-- a list of payloads leads onward
pub onward_all : (s : AppliedState) (ps : List Payload) → IsOnward s (after_all s ps)
onward_all s [] = stays s
onward_all s (p ∷ ps) = further (onward_one s p) (onward_all (after s p) ps)

-- what is blocked stays blocked
pub blocked_onward : (s t : AppliedState) (seq max : ℕ) → IsOnward s t → IsBlocked s seq max → IsBlocked t seq max
blocked_onward s t seq max x (inl past) = inl (omega (arith, x.lai, past))
blocked_onward s t seq max x (inr later) = inr (omega (arith, x.seq, later))

-- what is blocked is not taken
pub blocked_not_taken : (s : AppliedState) (c : Command) → IsBlocked s c.seq c.max → verdict s (Write c) ≢ verdicts.Took
blocked_not_taken s c (inl past) h = let x = took_tells s c h in omega (arith, x.1, past)
blocked_not_taken s c (inr later) h = let x = took_tells s c h in omega (arith, x.0, later)

-- what is blocked is not taken at that point, nor at any later one
pub blocked_never : (s : AppliedState) (ps : List Payload) (c : Command) → IsBlocked s c.seq c.max
    → verdict (after_all s ps) (Write c) ≢ verdicts.Took
blocked_never s ps c b = blocked_not_taken (after_all s ps) c (blocked_onward s (after_all s ps) c.seq c.max (onward_all s ps) b)

-- the state after two lists, and their records
pub after_further : (s : AppliedState) (ps qs : List Payload) → after_all s (ps ++ qs) ≡ after_all (after_all s ps) qs
after_further s [] qs = refl
after_further s (p ∷ ps) qs = after_further (after s p) ps qs

pub records_further : (s : AppliedState) (ps qs : List Payload) → records_of s (ps ++ qs) ≡ records_of s ps ++ records_of (after_all s ps) qs
records_further s [] qs = refl
records_further s (p ∷ ps) qs = ap (λ rs. record_of s p ∷ rs) (records_further (after s p) ps qs)
