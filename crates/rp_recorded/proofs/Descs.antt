-- Descriptions bear their range's number, and bounds that can be shown.
use Rattle.std.proofs.Common.{◌≡◌, ℕ, zero, suc, ◌<◌, inl, inr, ⊎_elim, true, Option, None, Some, Result, Ok, Err, length, refl, sym, ap, subst, ◌∙◌, arith}
use Rattle.std.proofs.lemmas.Bool.{cases_lt}
use Rattle.std.proofs.lemmas.List.{get_or_past}
use Rattle.rp_base.specs.Keys.{IsKey, IsShown}
use Rattle.rp_base.specs.Splits.{split_of}
use Rattle.rp_base.specs.declared.leases.Lease as leases
use Rattle.rp_base.specs.declared.ranges.Desc.{Desc}
use Rattle.rp_base.specs.declared.ranges.SplitFault.{SplitFault}
use Rattle.rp_base.proofs.SplitLaws.{parts}
use Rattle.rp_request.specs.Applied.{AppliedState, asked, command_verdict, desc_after, left_of, leased, written, after}
use Rattle.rp_request.specs.Fits.{FitsRequest}
use Rattle.rp_request.specs.History.{History}
use Rattle.rp_request.specs.States.{first_applied}
use Rattle.rp_request.specs.declared.commands.Command.{Command}
use Rattle.rp_request.specs.declared.commands.Payload.{Payload}
use Rattle.rp_request.specs.declared.commands.Payload.TheVariants.{Nothing, Write, Lease}
use Rattle.rp_request.specs.declared.requests.Request.{Request}
use Rattle.rp_request.specs.declared.requests.Request.TheVariants.{Put, Add, CPut, Del, Wipe, Move, Split}
use Rattle.rp_request.specs.declared.verdicts.Verdict.{Verdict}
use Rattle.rp_request.specs.declared.verdicts.Verdict.TheVariants as verdicts
use Rattle.rp_report.specs.Shown.{IsShownDesc}
use Rattle.rp_raftsafe.specs.Safety.{OneList}
use Rattle.rp_raftsafe.proofs.Known.{one_list_holds}
use Rattle.rp_rangesafe.specs.Along.{entry}
use Rattle.rp_rangesafe.specs.World.{state_at}
use Rattle.rp_rangesafe.specs.Places.{IsReached as IsRangeReached, IsPlace}
use Rattle.rp_rangesafe.specs.Ranges.{Ranges, AreReached}
use Rattle.rp_rangesafe.proofs.Joint.{range_reached}
use Rattle.rp_rangesafe.proofs.Once.{placed_born}
use Rattle.rp_rangesafe.proofs.OneRange.{lawful_place}
use Rattle.rp_rangesafe.proofs.Rights.{IsOrigin, opens_it, sources_reached, left_below, number_along}
use Rattle.rp_events.specs.Worlds.{World}
use Rattle.rp_events.specs.Lawful.{IsReached}
use Rattle.rp_events.specs.Lists.{HasApplied}
use Rattle.rp_bound.proofs.Below.{opened_below}
use Rattle.rp_promise.specs.Beside.{IsBeside}
use Rattle.rp_promise.proofs.Along.{reached_beside}
use Rattle.rp_promise.proofs.Lawful.{placed_unrefused}
use Rattle.rp_promise.proofs.Stands.{had_opened}
use Rattle.rp_recorded.specs.Recorded.{IsNumbered}
use Rattle.rp_recorded.proofs.Asked.{fits_admitted}

-- the parts of a split
left_shown : (d : Desc) (key : ℕ) → IsShownDesc d → IsKey key → (x : Result (Desc × Desc) SplitFault) → split_of d key ≡ x → IsShownDesc (left_of d x)
left_shown d key h k (Ok both) is =
    let p = parts d key both.0 both.1 is in
    (subst IsShown (sym p.left_start) h.0, subst IsShown (sym p.left_end) (inr (inr k)))
left_shown d key h k (Err fault) is = h

right_shown : (d : Desc) (key : ℕ) (left right : Desc) → IsShownDesc d → IsKey key → split_of d key ≡ Ok (left, right) → IsShownDesc right
right_shown d key left right h k is =
    let p = parts d key left right is in
    (subst IsShown (sym p.right_start) (inr (inr k)), subst IsShown (sym p.right_end) h.1)

-- a split that an entry takes is at a key
abbrev SplitsAtKeys : AppliedState → Payload → Type 0
SplitsAtKeys s p = (c : Command) (key : ℕ) → p ≡ Write c → command_verdict s c ≡ verdicts.Took → c.request ≡ Split key → IsKey key

-- an entry
request_shown : (d : Desc) (q : Request) → IsShownDesc d → ((key : ℕ) → q ≡ Split key → IsKey key) → IsShownDesc (desc_after d q)
request_shown d (Put key value) h k = h
request_shown d (Add key by) h k = h
request_shown d (CPut key expect value) h k = h
request_shown d (Del key) h k = h
request_shown d (Wipe span) h k = h
request_shown d (Move from to by) h k = h
request_shown d (Split key) h k = left_shown d key h (k key refl) (split_of d key) refl

written_shown : (s : AppliedState) (c : Command) (v : Verdict) → command_verdict s c ≡ v → IsShownDesc s.desc → SplitsAtKeys s (Write c) → IsShownDesc (written s c v).desc
written_shown s c verdicts.Took is h k = request_shown s.desc c.request h (λ key splits. k c key refl is splits)
written_shown s c (verdicts.OldLease now) is h k = h
written_shown s c (verdicts.OldIndex lai) is h k = h
written_shown s c verdicts.LeaseMoved is h k = h
written_shown s c verdicts.Nothing is h k = h

leased_shown : (s : AppliedState) (o : Option leases.Lease) → IsShownDesc s.desc → IsShownDesc (leased s o).desc
leased_shown s None h = h
leased_shown s (Some lease) h = h

after_shown : (s : AppliedState) (p : Payload) → IsShownDesc s.desc → SplitsAtKeys s p → IsShownDesc (after s p).desc
after_shown s Nothing h k = h
after_shown s (Write c) h k = written_shown s c (command_verdict s c) refl h k
after_shown s (Lease ask) h k = leased_shown s (asked s ask) h

module _ (lists : OneList AppliedState) (nodes : ℕ) (w : World) (reached : IsReached nodes w) (b : IsBeside lists w) where
  abbrev m : Ranges
  m = b.ranges

  abbrev are : AreReached m
  are = b.stands.bound.reached

  key_of : (range i : ℕ) → i < length (m.range range).log → SplitsAtKeys (state_at (m.range range) i) (entry (m.range range).log i)
  key_of range i lt c key here took splits = subst FitsRequest (ap (λ q. q) splits) fits where
    h : IsRangeReached (m.range range)
    h = range_reached m are range

    p : IsPlace (m.range range) c.id i c
    p = record { within = lt; takes = record { here = here; taken = took }; named = refl }

    fits : FitsRequest c.request
    fits =
        let a = (b.stands.admitted c.id range (placed_born (m.range range) h c.id i c p) (placed_unrefused (m.range range) h c.id i c p)).0 in
        subst FitsRequest (sym (lawful_place (m.range range) h c.id i c p).of.request)
        (fits_admitted nodes w reached c.id a.node a.place range ((m.range range).attempt c.id).body.request a.admitted)

  keys_along : (range i : ℕ) → SplitsAtKeys (state_at (m.range range) i) (entry (m.range range).log i)
  keys_along range i c key here = ⊎_elim
      (λ (lt : i < length (m.range range).log). key_of range i lt c key here)
      (λ past took splits. absurd (none c (sym (get_or_past (m.range range).log i Nothing past) ∙ here)))
      (cases_lt i (length (m.range range).log))
    where
      none : (c : Command) → Nothing ≡ Write c → ⊥
      none c e = cc

  states_shown : (range : ℕ) → IsShownDesc (m.range range).start.desc → (i : ℕ) → IsShownDesc (state_at (m.range range) i).desc
  states_shown range h zero = h
  states_shown range h (suc i) = after_shown (state_at (m.range range) i) (entry (m.range range).log i) (states_shown range h i) (keys_along range i)

  start_below : (n range : ℕ) → range < n → m.opened range ≡ true → IsShownDesc (m.range range).start.desc
  start_below zero range lt there = absurd (omega (arith, lt))
  start_below (suc n) range lt there = ⊎_elim
      (λ (x : (range ≡ 0) × ((m.range range).start ≡ first_applied)). subst (λ (s : AppliedState). IsShownDesc s.desc) (sym x.1) (inl refl, inr (inl refl)))
      (λ (x : IsOrigin m (m.range range).start).
      let o = opens_it (state_at (m.range x.left) x.index) (entry (m.range x.left).log x.index) (m.range range).start x.opens in
      let smaller = left_below m are range there x in
      subst (λ (s : AppliedState). IsShownDesc s.desc) o.made
      (right_shown (state_at (m.range x.left) x.index).desc o.key o.left o.right
      (states_shown x.left (start_below n x.left (omega (arith, lt, smaller)) x.there) x.index)
      (key_of x.left x.index x.below o.command o.key o.here o.took o.splits) o.parted))
      (sources_reached m are range there).origin

  applied_numbered : (node range : ℕ) (past : History) → HasApplied w node range past → IsNumbered range past.state.desc
  applied_numbered node range past a =
      let there = had_opened lists w m b.seen b.stands.bound node range past a in
      let o = (b.stands.records.each range).histories node past a in
      subst (λ (s : AppliedState). IsNumbered range s.desc) o.state (record {
        number = number_along m are range there o.to;
        below = opened_below m are range there;
        shown = states_shown range (start_below (suc range) range (omega arith) there) o.to;
      })

pub numbered : (nodes : ℕ) (w : World) → IsReached nodes w → (node range : ℕ) (h : History) → HasApplied w node range h → IsNumbered range h.state.desc
numbered nodes w reached = applied_numbered (one_list_holds AppliedState) nodes w reached (reached_beside (one_list_holds AppliedState) nodes w reached)
