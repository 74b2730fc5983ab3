-- The tables of a range's states have rows of their widths.
use Rattle.std.proofs.Common.{◌≡◌, ℕ, zero, suc, ◌<◌, ◌⊎◌, inl, inr, true, Option, None, Some, List, [], ◌∷◌, map, length, refl, sym, ap, subst, ◌∙◌, arith}
use Rattle.std.specs.Prelude.{Contains, nat_le}
use Rattle.std.specs.List.{AllByRecursion}
use Rattle.std.specs.Ordering.{nat_cmp}
use Rattle.std.specs.FinMap.{get-empty}
use Rattle.std.proofs.lemmas.List.Elements.{All-contains}
use Rattle.rp_base.specs.declared.leases.Lease as leases
use Rattle.rp_base.specs.declared.values.Value.{Value}
use Rattle.rp_codec.proofs.WorkedBytes.{nothing_read}
use Rattle.rp_raftlog.specs.declared.entries.Entry.{Entry}
use Rattle.rp_request.specs.Applied.{AppliedState, command_verdict, written, leased, asked, after}
use Rattle.rp_request.specs.Fits.{FitsBatch, FitsPayload}
use Rattle.rp_request.specs.States.{first_applied}
use Rattle.rp_request.specs.declared.commands.Command.{Command}
use Rattle.rp_request.specs.declared.commands.Payload.{Payload}
use Rattle.rp_request.specs.declared.commands.Payload.TheVariants as payloads
use Rattle.rp_request.specs.declared.verdicts.Verdict.{Verdict}
use Rattle.rp_request.specs.declared.verdicts.Verdict.TheVariants.{Took, OldLease, OldIndex, LeaseMoved}
use Rattle.rp_request.specs.declared.verdicts.Verdict.TheVariants as verdicts
use Rattle.rp_raftsafe.specs.World as raft
use Rattle.rp_raftsafe.specs.Safety.{OneList}
use Rattle.rp_raftsafe.specs.Proposed.{payloads_of, WasProposed}
use Rattle.rp_rangesafe.specs.Along.{entry}
use Rattle.rp_rangesafe.specs.World.{state_at}
use Rattle.rp_rangesafe.specs.Ranges.{Ranges}
use Rattle.rp_rangesafe.proofs.Rights.{Opens, opens_it, IsOrigin, Source, sources_reached, left_below}
use Rattle.rp_events.specs.Worlds.{World}
use Rattle.rp_seats.specs.Standing.{RangeOk, Bound}
use Rattle.rp_seats.specs.Views.{read, payload_or, range_at}
use Rattle.rp_seats.proofs.Commits.{pay}
use Rattle.rp_turns.proofs.Rows.{FitsTable, fits_after, fits_kept}

table_written : (s : AppliedState) (c : Command) (v : Verdict) → FitsBatch c.batch → FitsTable s.table → FitsTable (written s c v).table
table_written s c Took f h = fits_after s.table c.request c.batch f h
table_written s c (OldLease now) f h = h
table_written s c (OldIndex lai) f h = h
table_written s c LeaseMoved f h = h
table_written s c verdicts.Nothing f h = h

table_leased : (s : AppliedState) (o : Option leases.Lease) → FitsTable s.table → FitsTable (leased s o).table
table_leased s None h = h
table_leased s (Some lease) h = h

table_after : (s : AppliedState) (p : Payload) → FitsPayload p → FitsTable s.table → FitsTable (after s p).table
table_after s payloads.Nothing f h = h
table_after s (payloads.Write c) f h = table_written s c (command_verdict s c) f.batch h
table_after s (payloads.Lease ask) f h = table_leased s (asked s ask) h

no_rows : FitsTable first_applied.table
no_rows q v e = absurd (none_some (sym (get-empty nat_cmp q) ∙ e)) where
  none_some : ◌≡◌ {A = Option Value} None (Some v) → ⊥
  none_some k = cc

-- the entries of a list
entry_fits : (log : List Payload) → AllByRecursion FitsPayload log → (i : ℕ) → FitsPayload (entry log i)
entry_fits [] h i = tt
entry_fits (p ∷ log) h zero = h.0
entry_fits (p ∷ log) h (suc i) = entry_fits log h.1 i

all_pay : (es : List Entry) → ((e : Entry) → Contains es e → FitsPayload (pay e)) → AllByRecursion FitsPayload (map pay es)
all_pay [] each = tt
all_pay (e ∷ es) each = (each e (0, omega arith, refl), all_pay es (λ y has. each y (suc has.0, (let lt = has.1 in omega (arith, lt)), has.2)))

module _ (lists : OneList AppliedState) (w : World) (m : Ranges) (seen : ℕ → List raft.Event) (b : Bound lists w m seen)
    (handed : (range : ℕ) (bytes : List ℕ) → Contains (payloads_of (seen range)) bytes → FitsPayload (read bytes)) where
  log_fits : (range : ℕ) → m.opened range ≡ true → AllByRecursion FitsPayload (m.range range).log
  log_fits range there =
      let ok : RangeOk lists (length w) range (m.range range).start (seen range) w (m.range range) = b.ranges range there in
      let one = lists (range_at (length w) range (m.range range).start) ok.is in
      subst (AllByRecursion FitsPayload) (sym ok.raft.log)
      (all_pay (one.committed (seen range)) (λ e has. by_bytes e (All-contains (λ (y : Entry). WasProposed (seen range) y.payload) (one.committed (seen range)) e (one.proposed (seen range)) has)))
    where
      by_bytes : (e : Entry) → WasProposed (seen range) e.payload → FitsPayload (pay e)
      by_bytes e (inl none) = subst (λ z. FitsPayload (read z)) (sym none) (subst FitsPayload (sym (ap payload_or nothing_read)) tt)
      by_bytes e (inr has) = handed range e.payload has

  states_fit : (range : ℕ) → m.opened range ≡ true → FitsTable (m.range range).start.table → (i : ℕ) → FitsTable (state_at (m.range range) i).table
  states_fit range there h zero = h
  states_fit range there h (suc i) =
      table_after (state_at (m.range range) i) (entry (m.range range).log i) (entry_fits (m.range range).log (log_fits range there) i) (states_fit range there h i)

  start_fits : (bound range : ℕ) → range < bound → m.opened range ≡ true → FitsTable (m.range range).start.table
  start_fits zero range lt there = absurd (omega (arith, lt))
  start_fits (suc bound) range lt there = by_origin (λ q less is. start_fits bound q (omega (arith, lt, less)) is) source.origin where
    source : Source m range
    source = sources_reached m b.reached range there

    by_origin : ((q : ℕ) → q < range → m.opened q ≡ true → FitsTable (m.range q).start.table)
        → ((range ≡ 0) × ((m.range range).start ≡ first_applied)) ⊎ IsOrigin m (m.range range).start → FitsTable (m.range range).start.table
    by_origin ih (inl first) = subst (λ (z : AppliedState). FitsTable z.table) (sym first.1) no_rows
    by_origin ih (inr o) =
        let at : AppliedState = state_at (m.range o.left) o.index in
        let k : Opens at (entry (m.range o.left).log o.index) (m.range range).start = opens_it at (entry (m.range o.left).log o.index) (m.range range).start o.opens in
        subst (λ (z : AppliedState). FitsTable z.table) k.made
        (fits_kept at.table (λ key. nat_le k.key key) (states_fit o.left o.there (ih o.left (left_below m b.reached range there o) o.there) o.index))

  pub tables_fit : (range : ℕ) → m.opened range ≡ true → (i : ℕ) → FitsTable (state_at (m.range range) i).table
  tables_fit range there i = states_fit range there (start_fits (suc range) range (omega arith) there) i
