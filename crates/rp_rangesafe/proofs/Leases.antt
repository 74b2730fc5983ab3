-- How leases follow each other along a range's list, and how the holder passes its barrier.
use Rattle.std.proofs.Common.{◌≡◌, ℕ, suc, ◌<◌, inl, true, eq-eqb, Option, Some, None, refl, ap, ◌∙◌, arith}
use Rattle.rp_base.specs.declared.leases.Lease as leases
use Rattle.rp_base.specs.declared.leases.LeaseAsk.{LeaseAsk}
use Rattle.rp_base.specs.Leases.{Follows, renewed}
use Rattle.rp_base.proofs.LeaseLaws.{lease_by_tests}
use Rattle.rp_request.specs.declared.commands.Command.{Command}
use Rattle.rp_request.specs.declared.commands.Payload.{Payload}
use Rattle.rp_request.specs.declared.commands.Payload.TheVariants.{Nothing, Write, Lease}
use Rattle.rp_request.specs.declared.verdicts.Verdict.{Verdict}
use Rattle.rp_request.specs.declared.verdicts.Verdict.TheVariants.{Took, OldLease, OldIndex, LeaseMoved}
use Rattle.rp_request.specs.declared.verdicts.Verdict.TheVariants as verdicts
use Rattle.rp_request.specs.Applied.{AppliedState, command_verdict, asked, written, leased, after}
use Rattle.rp_request.proofs.Opened.{asked_tells}
use Rattle.rp_rangesafe.specs.Along.{entry}
use Rattle.rp_rangesafe.specs.World.{World, state_at, here, Apply, happens}
use Rattle.rp_rangesafe.specs.Places.{IsReached}
use Rattle.rp_rangesafe.proofs.Tables.{node_same}
use Rattle.rp_rangesafe.proofs.Barriers.{barrier_reached}

follows_itself : (l : leases.Lease) → Follows l l
follows_itself l = inl (refl, refl, omega arith)

follows_written : (s : AppliedState) (c : Command) (v : Verdict) → Follows s.lease (written s c v).lease
follows_written s c Took = follows_itself s.lease
follows_written s c (OldLease now) = follows_itself s.lease
follows_written s c (OldIndex lai) = follows_itself s.lease
follows_written s c LeaseMoved = follows_itself s.lease
follows_written s c verdicts.Nothing = follows_itself s.lease

follows_asked : (s : AppliedState) (ask : LeaseAsk) (new : Option leases.Lease) → asked s ask ≡ new → Follows s.lease (leased s new).lease
follows_asked s ask (Some new) h = asked_tells s ask new h
follows_asked s ask None h = follows_itself s.lease

follows_after : (s : AppliedState) (p : Payload) → Follows s.lease (after s p).lease
follows_after s Nothing = follows_itself s.lease
follows_after s (Write c) = follows_written s c (command_verdict s c)
follows_after s (Lease ask) = follows_asked s ask (asked s ask) refl

-- each lease of a list follows the one before
pub lease_follows_at : (w : World) (k : ℕ) → Follows (state_at w k).lease (state_at w (suc k)).lease
lease_follows_at w k = follows_after (state_at w k) (entry w.log k)

-- the holder's own ask of tick 0 renews the lease
renews : (s : AppliedState) (ask : LeaseAsk) → ask.holder ≡ s.lease.holder → ask.prev ≡ s.lease.seq → ask.expires ≡ 0
    → asked s ask ≡ Some (renewed s.lease)
unfolding asked
renews s ask same_holder same_seq zero = lease_by_tests s.lease ask true true true
    (eq-eqb ask.prev s.lease.seq same_seq) (eq-eqb ask.holder s.lease.holder same_holder) (eq-eqb ask.expires 0 zero)

module _ (w : World) (node : ℕ) (ask : LeaseAsk) (next : entry w.log (w.index node) ≡ Lease ask)
    (own : ask.holder ≡ (here w node).lease.holder) (present : ask.prev ≡ (here w node).lease.seq) (zero : ask.expires ≡ 0) where
  pub renewed_there : (here (happens w (Apply node)) node).lease ≡ renewed (here w node).lease
  renewed_there =
      ap (λ i. (state_at w i).lease) (node_same w.index node (suc (w.index node)))
      ∙ ap (λ p. (after (here w node) p).lease) next
      ∙ ap (λ o. (leased (here w node) o).lease) (renews (here w node) ask own present zero)

  pub barrier_passed : IsReached w → (happens w (Apply node)).barrier node < (here (happens w (Apply node)) node).lease.seq
  barrier_passed r =
      let below = barrier_reached w r node in
      let same = ap (λ (l : leases.Lease). l.seq) renewed_there in
      omega (arith, below, same)
