-- Each range starts, and goes on, with a lease of one of its nodes.
use Rattle.std.proofs.Common.{◌≡◌, ℕ, zero, suc, ◌<◌, ◌≤◌, ◌⊎◌, inl, inr, true, cond, Option, None, Some, List, [], ◌∷◌, map, length, refl, sym, ap, subst, arith}
use Rattle.std.specs.Prelude.{Contains, ◌==◌}
use Rattle.std.specs.List.{AllByRecursion}
use Rattle.std.proofs.lemmas.Bool.{cond_both}
use Rattle.std.proofs.lemmas.List.Elements.{All-contains}
use Rattle.rp_base.specs.Leases.{extended, renewed, moved, taken_by}
use Rattle.rp_base.specs.declared.leases.Lease as leases
use Rattle.rp_base.specs.declared.leases.LeaseAsk.{LeaseAsk}
use Rattle.rp_codec.proofs.WorkedBytes.{nothing_read}
use Rattle.rp_raftlog.specs.declared.entries.Entry.{Entry}
use Rattle.rp_request.specs.Applied.{AppliedState, command_verdict, written, leased, asked, after}
use Rattle.rp_request.specs.States.{first_applied}
use Rattle.rp_request.specs.declared.commands.Command.{Command}
use Rattle.rp_request.specs.declared.commands.Payload.{Payload}
use Rattle.rp_request.specs.declared.commands.Payload.TheVariants as payloads
use Rattle.rp_request.specs.declared.verdicts.Verdict.{Verdict}
use Rattle.rp_request.specs.declared.verdicts.Verdict.TheVariants.{Took, OldLease, OldIndex, LeaseMoved}
use Rattle.rp_request.specs.declared.verdicts.Verdict.TheVariants as verdicts
use Rattle.rp_raftsafe.specs.World as raft
use Rattle.rp_raftsafe.specs.Safety.{OneList}
use Rattle.rp_raftsafe.specs.Proposed.{payloads_of, WasProposed}
use Rattle.rp_rangesafe.specs.Along.{entry}
use Rattle.rp_rangesafe.specs.World.{state_at}
use Rattle.rp_rangesafe.specs.Ranges.{Ranges}
use Rattle.rp_rangesafe.proofs.Rights.{Opens, opens_it, IsOrigin, Source, sources_reached, left_below}
use Rattle.rp_script.specs.Bounds.{IsNode}
use Rattle.rp_events.specs.Worlds.{World}
use Rattle.rp_seats.specs.Standing.{RangeOk, Bound}
use Rattle.rp_seats.specs.Views.{read, payload_or, range_at}
use Rattle.rp_seats.proofs.Commits.{pay}
use Rattle.rp_lawful.proofs.HomeHands.{HomePayload, ReadsHome}

-- the lease of a state is that of a node
abbrev pub HomeLease : ℕ → AppliedState → Type 0
HomeLease many s = IsNode many s.lease.holder

lease_written : (many : ℕ) (s : AppliedState) (c : Command) (v : Verdict) → HomeLease many s → HomeLease many (written s c v)
lease_written many s c Took h = h
lease_written many s c (OldLease now) h = h
lease_written many s c (OldIndex lai) h = h
lease_written many s c LeaseMoved h = h
lease_written many s c verdicts.Nothing h = h

taken_home : (many : ℕ) (lease : leases.Lease) (ask : LeaseAsk) → IsNode many lease.holder → IsNode many ask.holder → IsNode many (taken_by lease ask).holder
taken_home many lease ask h a =
    cond_both (ask.holder == lease.holder) (cond (ask.expires == 0) (renewed lease) (extended lease ask)) (moved lease ask) (λ (l : leases.Lease). IsNode many l.holder)
    (λ _. cond_both (ask.expires == 0) (renewed lease) (extended lease ask) (λ (l : leases.Lease). IsNode many l.holder) (λ _. h) (λ _. h))
    (λ _. a)

lease_asked : (many : ℕ) (s : AppliedState) (ask : LeaseAsk) → HomeLease many s → IsNode many ask.holder → HomeLease many (leased s (asked s ask))
unfolding asked
lease_asked many s ask h a =
    cond_both (ask.prev == s.lease.seq) (Some (taken_by s.lease ask)) None (λ (o : Option leases.Lease). HomeLease many (leased s o))
    (λ _. taken_home many s.lease ask h a) (λ _. h)

lease_after_home : (many : ℕ) (s : AppliedState) (p : Payload) → HomePayload many p → HomeLease many s → HomeLease many (after s p)
lease_after_home many s payloads.Nothing f h = h
lease_after_home many s (payloads.Write c) f h = lease_written many s c (command_verdict s c) h
lease_after_home many s (payloads.Lease ask) f h = lease_asked many s ask h f

-- the entries of a list
entry_home : (many : ℕ) (log : List Payload) → AllByRecursion (HomePayload many) log → (i : ℕ) → HomePayload many (entry log i)
entry_home many [] h i = tt
entry_home many (p ∷ log) h zero = h.0
entry_home many (p ∷ log) h (suc i) = entry_home many log h.1 i

all_pay : (many : ℕ) (es : List Entry) → ((e : Entry) → Contains es e → HomePayload many (pay e)) → AllByRecursion (HomePayload many) (map pay es)
all_pay many [] each = tt
all_pay many (e ∷ es) each = (each e (0, omega arith, refl), all_pay many es (λ y has. each y (suc has.0, (let lt = has.1 in omega (arith, lt)), has.2)))

module _ (many : ℕ) (some : 1 ≤ many) (lists : OneList AppliedState) (w : World) (m : Ranges) (seen : ℕ → List raft.Event) (b : Bound lists w m seen)
    (handed : (range : ℕ) (bytes : List ℕ) → Contains (payloads_of (seen range)) bytes → ReadsHome many bytes) where
  log_home : (range : ℕ) → m.opened range ≡ true → AllByRecursion (HomePayload many) (m.range range).log
  log_home range there =
      let ok : RangeOk lists (length w) range (m.range range).start (seen range) w (m.range range) = b.ranges range there in
      let one = lists (range_at (length w) range (m.range range).start) ok.is in
      subst (AllByRecursion (HomePayload many)) (sym ok.raft.log)
      (all_pay many (one.committed (seen range)) (λ e has. by_bytes e (All-contains (λ (y : Entry). WasProposed (seen range) y.payload) (one.committed (seen range)) e (one.proposed (seen range)) has)))
    where
      by_bytes : (e : Entry) → WasProposed (seen range) e.payload → HomePayload many (pay e)
      by_bytes e (inl none) = subst (λ z. HomePayload many (read z)) (sym none) (subst (HomePayload many) (sym (ap payload_or nothing_read)) tt)
      by_bytes e (inr has) = handed range e.payload has

  -- each state of a range
  pub states_home : (range : ℕ) → m.opened range ≡ true → HomeLease many (m.range range).start → (i : ℕ) → HomeLease many (state_at (m.range range) i)
  states_home range there h zero = h
  states_home range there h (suc i) =
      lease_after_home many (state_at (m.range range) i) (entry (m.range range).log i) (entry_home many (m.range range).log (log_home range there) i) (states_home range there h i)

  start_home : (bound range : ℕ) → range < bound → m.opened range ≡ true → HomeLease many (m.range range).start
  start_home zero range lt there = absurd (omega (arith, lt))
  start_home (suc bound) range lt there = by_origin (λ q less is. start_home bound q (omega (arith, lt, less)) is) source.origin where
    source : Source m range
    source = sources_reached m b.reached range there

    by_origin : ((q : ℕ) → q < range → m.opened q ≡ true → HomeLease many (m.range q).start)
        → ((range ≡ 0) × ((m.range range).start ≡ first_applied)) ⊎ IsOrigin m (m.range range).start → HomeLease many (m.range range).start
    by_origin ih (inl first) = subst (HomeLease many) (sym first.1) (omega arith, some)
    by_origin ih (inr o) =
        let at : AppliedState = state_at (m.range o.left) o.index in
        let k : Opens at (entry (m.range o.left).log o.index) (m.range range).start = opens_it at (entry (m.range o.left).log o.index) (m.range range).start o.opens in
        subst (HomeLease many) k.made (states_home o.left o.there (ih o.left (left_below m b.reached range there o) o.there) o.index)

  -- who leads the range first
  pub holder_home : (range : ℕ) → m.opened range ≡ true → IsNode many (m.range range).start.lease.holder
  holder_home range there = start_home (suc range) range (omega arith) there
