-- How far the lease index and the lease sequence of a range's states have grown.
use Rattle.std.proofs.Common.{◌≡◌, ℕ, zero, suc, ◌<◌, ◌≤◌, true, cond, ◌⊎◌, inl, inr, Option, None, Some, List, [], ◌∷◌, map, length, refl, sym, ap, subst, arith, eqb-true}
use Rattle.std.specs.Prelude.{◌==◌, Contains}
use Rattle.std.specs.List.{AllByRecursion}
use Rattle.std.proofs.lemmas.Bool.{cond_both}
use Rattle.std.proofs.lemmas.List.Elements.{All-contains, Contains-append_left, Contains-append_right}
use Rattle.rp_base.specs.Leases.{taken_by, extended, renewed, moved}
use Rattle.rp_base.specs.declared.leases.Lease as leases
use Rattle.rp_base.specs.declared.leases.LeaseAsk.{LeaseAsk}
use Rattle.rp_codec.proofs.WorkedBytes.{nothing_read}
use Rattle.rp_raftlog.specs.declared.entries.Entry.{Entry}
use Rattle.rp_request.specs.Applied.{AppliedState, command_verdict, written, asked, leased, after}
use Rattle.rp_request.specs.States.{first_applied}
use Rattle.rp_request.specs.declared.commands.Payload.{Payload}
use Rattle.rp_request.specs.declared.commands.Payload.TheVariants as payloads
use Rattle.rp_request.specs.declared.verdicts.Verdict.{Verdict}
use Rattle.rp_request.specs.declared.verdicts.Verdict.TheVariants as verdicts
use Rattle.rp_raftsafe.specs.World as raft
use Rattle.rp_raftsafe.specs.Safety.{OneList, OneListOf}
use Rattle.rp_raftsafe.specs.Proposed.{payloads_of, WasProposed}
use Rattle.rp_rangesafe.specs.Along.{entry, state}
use Rattle.rp_rangesafe.specs.World.{state_at}
use Rattle.rp_rangesafe.specs.Ranges.{Ranges}
use Rattle.rp_rangesafe.proofs.Rights.{IsOrigin, opens_it, sources_reached, lai_at_start, left_below}
use Rattle.rp_events.specs.Worlds.{World}
use Rattle.rp_seats.specs.Views.{read, payload_or, range_at}
use Rattle.rp_seats.specs.Standing.{Bound}
use Rattle.rp_bound.specs.Numbers.{PayloadBelow}

module _ (top seqs : ℕ) where
  lai_after : (s : AppliedState) (p : Payload) → s.lai ≤ top → PayloadBelow top seqs p → (after s p).lai ≤ top
  lai_after s payloads.Nothing l h = l
  lai_after s (payloads.Write c) l h = go (command_verdict s c) where
    go : (v : Verdict) → (written s c v).lai ≤ top
    go verdicts.Took = h
    go (verdicts.OldLease now) = l
    go (verdicts.OldIndex passed) = l
    go verdicts.LeaseMoved = l
    go verdicts.Nothing = l
  lai_after s (payloads.Lease ask) l h = go (asked s ask) where
    go : (o : Option leases.Lease) → (leased s o).lai ≤ top
    go None = l
    go (Some lease) = l

  taken_seq : (lease : leases.Lease) (ask : LeaseAsk) → lease.seq ≤ seqs → (taken_by lease ask).seq ≤ suc seqs
  taken_seq lease ask le =
      cond_both (ask.holder == lease.holder) (cond (ask.expires == 0) (renewed lease) (extended lease ask)) (moved lease ask) (λ (z : leases.Lease). z.seq ≤ suc seqs)
      (λ _. cond_both (ask.expires == 0) (renewed lease) (extended lease ask) (λ (z : leases.Lease). z.seq ≤ suc seqs) (λ _. omega (arith, le)) (λ _. omega (arith, le)))
      (λ _. omega (arith, le))

  seq_after : (s : AppliedState) (p : Payload) → s.lease.seq ≤ suc seqs → PayloadBelow top seqs p → (after s p).lease.seq ≤ suc seqs
  unfolding asked
  seq_after s payloads.Nothing l h = l
  seq_after s (payloads.Write c) l h = go (command_verdict s c) where
    go : (v : Verdict) → (written s c v).lease.seq ≤ suc seqs
    go verdicts.Took = l
    go (verdicts.OldLease now) = l
    go (verdicts.OldIndex passed) = l
    go verdicts.LeaseMoved = l
    go verdicts.Nothing = l
  seq_after s (payloads.Lease ask) l h =
      cond_both (ask.prev == s.lease.seq) (Some (taken_by s.lease ask)) None (λ o. (leased s o).lease.seq ≤ suc seqs)
      (λ e. taken_seq s.lease ask (let same = eqb-true ask.prev s.lease.seq e in omega (arith, h, same))) (λ _. l)

  entry_below : (log : List Payload) → AllByRecursion (PayloadBelow top seqs) log → (i : ℕ) → PayloadBelow top seqs (entry log i)
  entry_below [] h i = tt
  entry_below (p ∷ log) h zero = h.0
  entry_below (p ∷ log) h (suc i) = entry_below log h.1 i

  lai_along : (s : AppliedState) (log : List Payload) → AllByRecursion (PayloadBelow top seqs) log → s.lai ≤ top → (i : ℕ) → (state s (entry log) i).lai ≤ top
  lai_along s log h l zero = l
  lai_along s log h l (suc i) = lai_after (state s (entry log) i) (entry log i) (lai_along s log h l i) (entry_below log h i)

  seq_along : (s : AppliedState) (log : List Payload) → AllByRecursion (PayloadBelow top seqs) log → s.lease.seq ≤ suc seqs → (i : ℕ) → (state s (entry log) i).lease.seq ≤ suc seqs
  seq_along s log h l zero = l
  seq_along s log h l (suc i) = seq_after (state s (entry log) i) (entry log i) (seq_along s log h l i) (entry_below log h i)

  -- what was proposed stands in the list
  all_read : (es : List Entry) → ((e : Entry) → Contains es e → PayloadBelow top seqs (read e.payload)) → AllByRecursion (PayloadBelow top seqs) (map (λ (e : Entry). read e.payload) es)
  all_read [] each = tt
  all_read (e ∷ es) each = (
    each e (Contains-append_left (e ∷ []) es e (0, omega arith, refl)),
    all_read es (λ x has. each x (Contains-append_right (e ∷ []) es x has)),
  )

  read_below : (seen : List raft.Event) → ((bytes : List ℕ) → Contains (payloads_of seen) bytes → PayloadBelow top seqs (read bytes)) → (bytes : List ℕ) → WasProposed seen bytes → PayloadBelow top seqs (read bytes)
  read_below seen each bytes (inl none) = subst (λ b. PayloadBelow top seqs (read b)) (sym none) (subst (PayloadBelow top seqs) (sym (ap payload_or nothing_read)) tt)
  read_below seen each bytes (inr has) = each bytes has

-- the numbers of all ranges
module _ (lists : OneList AppliedState) (w : World) (m : Ranges) (seen : ℕ → List raft.Event) (bound : Bound lists w m seen) (top : ℕ → ℕ) (seqs : ℕ)
    (handed : (range : ℕ) (bytes : List ℕ) → Contains (payloads_of (seen range)) bytes → PayloadBelow (top range) seqs (read bytes)) where
  log_below : (q : ℕ) → m.opened q ≡ true → AllByRecursion (PayloadBelow (top q) seqs) (m.range q).log
  log_below q o =
      let k = bound.ranges q o in
      let one : OneListOf (range_at (length w) q (m.range q).start) = lists (range_at (length w) q (m.range q).start) k.is in
      subst (AllByRecursion (PayloadBelow (top q) seqs)) (sym k.raft.log)
      (all_read (top q) seqs (one.committed (seen q))
      (λ e has. read_below (top q) seqs (seen q) (handed q) e.payload (All-contains (λ (x : Entry). WasProposed (seen q) x.payload) (one.committed (seen q)) e (one.proposed (seen q)) has)))

  pub lai_height : (q : ℕ) → m.opened q ≡ true → (i : ℕ) → (state_at (m.range q) i).lai ≤ top q
  lai_height q o i = lai_along (top q) seqs (m.range q).start (m.range q).log (log_below q o) (let z = lai_at_start m bound.reached q o in omega (arith, z)) i

  seq_below : (n q : ℕ) → q < n → m.opened q ≡ true → (i : ℕ) → (state_at (m.range q) i).lease.seq ≤ suc seqs
  seq_below zero q l o i = absurd (omega (arith, l))
  seq_below (suc n) q l o i =
      seq_along (top q) seqs (m.range q).start (m.range q).log (log_below q o)
      (go (sources_reached m bound.reached q o).origin (λ z lt there j. seq_below n z lt there j)) i
    where
      go : ((q ≡ 0) × ((m.range q).start ≡ first_applied)) ⊎ IsOrigin m (m.range q).start
          → ((z : ℕ) → z < n → m.opened z ≡ true → (j : ℕ) → (state_at (m.range z) j).lease.seq ≤ suc seqs) → (m.range q).start.lease.seq ≤ suc seqs
      go (inl p) ih = subst (λ (s : AppliedState). s.lease.seq ≤ suc seqs) (sym p.1) (omega arith)
      go (inr x) ih =
          let below = left_below m bound.reached q o x in
          let s = state_at (m.range x.left) x.index in
          let opens = opens_it s (entry (m.range x.left).log x.index) (m.range q).start x.opens in
          subst (λ (t : AppliedState). t.lease.seq ≤ suc seqs) opens.made (ih x.left (omega (arith, below, l)) x.there x.index)

  pub seq_height : (q : ℕ) → m.opened q ≡ true → (i : ℕ) → (state_at (m.range q) i).lease.seq ≤ suc seqs
  seq_height q o i = seq_below (suc q) q (omega arith) o i
