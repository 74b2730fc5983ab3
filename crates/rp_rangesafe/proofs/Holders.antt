-- Lease sequences and holders are at least 1 in every state of a range.
use Rattle.std.proofs.Common.{◌≡◌, ℕ, zero, suc, ◌<◌, ◌≤◌, ◌⊎◌, inl, inr, Bool, true, false, eqb, cond, List, [], ◌∷◌, ◌++◌, length, Option, Some, None, refl, sym, ap, subst, arith}
use Rattle.std.proofs.Math.ListN.{get_or-append}
use Rattle.std.proofs.Math.Seq.{get_or-append_seam}
use Rattle.std.proofs.lemmas.List.{length-append}
use Rattle.std.proofs.lemmas.Bool.{cases_lt}
use Rattle.rp_base.specs.declared.leases.Lease as leases
use Rattle.rp_base.specs.declared.leases.LeaseAsk.{LeaseAsk}
use Rattle.rp_base.specs.Leases.{renewed, extended, moved, taken_by}
use Rattle.rp_base.proofs.LeaseLaws.{lease_was_present}
use Rattle.rp_request.specs.declared.commands.Command.{Command}
use Rattle.rp_request.specs.declared.commands.Payload.{Payload}
use Rattle.rp_request.specs.declared.commands.Payload.TheVariants.{Nothing, Write, Lease}
use Rattle.rp_request.specs.declared.verdicts.Verdict.{Verdict}
use Rattle.rp_request.specs.declared.verdicts.Verdict.TheVariants.{Took, OldLease, OldIndex, LeaseMoved}
use Rattle.rp_request.specs.declared.verdicts.Verdict.TheVariants as verdicts
use Rattle.rp_request.specs.Applied.{AppliedState, command_verdict, asked, written, leased, after}
use Rattle.rp_rangesafe.specs.Along.{entry}
use Rattle.rp_rangesafe.specs.World.{World, state_at, begin, Event, Admit, Flush, Return, Refuse, Commit, Apply, Snapshot, Remove, Restart, Lawful, AllLawful, happens, run}
use Rattle.rp_rangesafe.specs.Places.{IsReached}
use Rattle.rp_rangesafe.specs.Ranges.{Ranges, AreReached}
use Rattle.rp_request.specs.States.{first_applied}
use Rattle.rp_rangesafe.proofs.OneRange.{numbers_rise}
use Rattle.rp_rangesafe.proofs.Whole.{whole_reached}
use Rattle.rp_rangesafe.proofs.Rights.{IsOrigin, Opens, opens_it, sources_reached, left_below}

-- a payload that may be committed asks for a node, if for any
abbrev IsNodes : Payload → Type 0
IsNodes Nothing = Unit {0}
IsNodes (Write c) = Unit {0}
IsNodes (Lease ask) = 0 < ask.holder

-- so each entry does
record AllNodes (log : List Payload) : Type 0 where
  at : (k : ℕ) → IsNodes (entry log k)

none_yet : AllNodes []
none_yet = record { at = λ k. tt }

past_end : (xs : List Payload) (k : ℕ) → length xs ≤ k → entry xs k ≡ Nothing
past_end [] k l = refl
past_end (x ∷ xs) zero l = absurd (omega arith)
past_end (x ∷ xs) (suc k) l = past_end xs k (omega arith)

one_longer : (log : List Payload) (p : Payload) → AllNodes log → IsNodes p → AllNodes (log ++ p ∷ [])
one_longer log p h n = record { at = λ k. go k (cases_lt k (length log)) (cases_lt (length log) k) } where
  long : length (log ++ p ∷ []) ≡ suc (length log)
  long = let e = length-append log (p ∷ []) in omega arith

  go : (k : ℕ) → (k < length log) ⊎ (length log ≤ k) → (length log < k) ⊎ (k ≤ length log) → IsNodes (entry (log ++ p ∷ []) k)
  go k (inl l) m = subst IsNodes (sym (get_or-append log (p ∷ []) Nothing k l)) (h.at k)
  go k (inr g) (inl m) = subst IsNodes (sym (past_end (log ++ p ∷ []) k (omega (arith, long, m)))) tt
  go k (inr g) (inr m) =
      let same : length log ≡ k = omega arith in
      subst (λ i. IsNodes (entry (log ++ p ∷ []) i)) same (subst IsNodes (sym (get_or-append_seam log p [] Nothing)) n)

may_be_nodes : (w : World) (p : Payload) → Lawful w (Commit p) → IsNodes p
may_be_nodes w Nothing l = tt
may_be_nodes w (Write c) l = tt
may_be_nodes w (Lease ask) l = l

nodes_step : (w : World) (e : Event) → Lawful w e → AllNodes w.log → AllNodes (happens w e).log
nodes_step w (Admit id node body) l h = h
nodes_step w (Flush id max) l h = h
nodes_step w (Return id) l h = h
nodes_step w (Refuse id) l h = h
nodes_step w (Commit p) l h = one_longer w.log p h (may_be_nodes w p l)
nodes_step w (Apply node) l h = h
nodes_step w (Snapshot node to) l h = h
nodes_step w (Remove node) l h = h
nodes_step w (Restart node) l h = h

nodes_run : (w : World) (es : List Event) → AllLawful w es → AllNodes w.log → AllNodes (run w es).log
nodes_run w [] l h = h
nodes_run w (e ∷ es) l h = nodes_run (happens w e) es l.1 (nodes_step w e l.0 h)

nodes_reached : (w : World) → IsReached w → AllNodes w.log
nodes_reached w r = subst (λ (v : World). AllNodes v.log) r.reached (nodes_run (begin r.start) r.events r.lawful none_yet)

-- an ask for a node leaves a node as the holder
taken_holder : (old : leases.Lease) (ask : LeaseAsk) → 0 < old.holder → 0 < ask.holder → 0 < (taken_by old ask).holder
taken_holder old ask h k = go (eqb ask.holder old.holder) (eqb ask.expires 0) where
  go : (same none : Bool) → 0 < (cond same (cond none (renewed old) (extended old ask)) (moved old ask)).holder
  go true true = h
  go true false = h
  go false none = k

asked_holder : (s : AppliedState) (ask : LeaseAsk) (new : Option leases.Lease) → asked s ask ≡ new → 0 < s.lease.holder → 0 < ask.holder
    → 0 < (leased s new).lease.holder
unfolding asked
asked_holder s ask (Some new) e h k =
    subst (λ (l : leases.Lease). 0 < l.holder) (sym (lease_was_present s.lease ask new e).1) (taken_holder s.lease ask h k)
asked_holder s ask None e h k = h

written_lease : (s : AppliedState) (c : Command) (v : Verdict) → (written s c v).lease ≡ s.lease
written_lease s c Took = refl
written_lease s c (OldLease now) = refl
written_lease s c (OldIndex lai) = refl
written_lease s c LeaseMoved = refl
written_lease s c verdicts.Nothing = refl

holder_after : (s : AppliedState) (p : Payload) → IsNodes p → 0 < s.lease.holder → 0 < (after s p).lease.holder
holder_after s Nothing n h = h
holder_after s (Write c) n h = subst (λ (l : leases.Lease). 0 < l.holder) (sym (written_lease s c (command_verdict s c))) h
holder_after s (Lease ask) n h = asked_holder s ask (asked s ask) refl h n

-- in every state of a range whose start has a node as its holder a node is the holder
holder_along : (w : World) → AllNodes w.log → 0 < w.start.lease.holder → (i : ℕ) → 0 < (state_at w i).lease.holder
holder_along w n h zero = h
holder_along w n h (suc i) = holder_after (state_at w i) (entry w.log i) (n.at i) (holder_along w n h i)

pub holder_at : (w : World) → IsReached w → 0 < w.start.lease.holder → (i : ℕ) → 0 < (state_at w i).lease.holder
holder_at w r h i = holder_along w (nodes_reached w r) h i

pub seq_at : (w : World) → 0 < w.start.lease.seq → (i : ℕ) → 0 < (state_at w i).lease.seq
seq_at w h i = let up = (numbers_rise w 0 i (omega arith)).numbers.seq in omega (arith, up)

-- the lease of a range's start
record Started (s : AppliedState) : Type 0 where
  holder : 0 < s.lease.holder
  seq : 0 < s.lease.seq

-- a right range starts with the lease of the state that is split
opened_lease : (s : AppliedState) (p : Payload) (t : AppliedState) → Opens s p t → s.lease ≡ t.lease
opened_lease s p t x = ap (λ (u : AppliedState). u.lease) x.made

start_below : (w : Ranges) → AreReached w → (n q : ℕ) → q < n → w.opened q ≡ true → Started (w.range q).start
start_below w reach zero q l o = absurd (omega arith)
start_below w reach (suc n) q l o = go (sources_reached w reach q o).origin (λ z. start_below w reach n z) where
  go : ((q ≡ 0) × ((w.range q).start ≡ first_applied)) ⊎ IsOrigin w (w.range q).start
      → ((z : ℕ) → z < n → w.opened z ≡ true → Started (w.range z).start) → Started (w.range q).start
  go (inl p) ih = subst Started (sym p.1) (record { holder = omega arith; seq = omega arith })
  go (inr x) ih =
      let below = left_below w reach q o x in
      let left = ih x.left (omega (arith, below)) x.there in
      let h = holder_at (w.range x.left) ((whole_reached w reach).reached x.left) left.holder x.index in
      let k = seq_at (w.range x.left) left.seq x.index in
      let e = opened_lease (state_at (w.range x.left) x.index) _ _ (opens_it _ _ _ x.opens) in
      record {
        holder = subst (λ (y : leases.Lease). 0 < y.holder) e h;
        seq = subst (λ (y : leases.Lease). 0 < y.seq) e k;
      }

module _ (w : Ranges) (reach : AreReached w) (r : ℕ) (o : w.opened r ≡ true) (i : ℕ) where
  pub range_holder : 0 < (state_at (w.range r) i).lease.holder
  range_holder = holder_at (w.range r) ((whole_reached w reach).reached r) (start_below w reach (suc r) r (omega arith) o).holder i

  pub range_seq : 0 < (state_at (w.range r) i).lease.seq
  range_seq = seq_at (w.range r) (start_below w reach (suc r) r (omega arith) o).seq i
