-- What stands beside a seat: Raft's world and the machine of its range.
use Rattle.std.proofs.Common.{◌≡◌, ℕ, zero, suc, ◌+◌, ◌<◌, Bool, true, false, cond, eqb, Some, List, [], ◌∷◌, length, refl, sym, ap, subst, ◌∙◌, arith, eq-eqb}
use Rattle.std.proofs.lemmas.Option.{none-some}
use Rattle.std.specs.Prelude.{Contains, slice_index_or}
use Rattle.std.proofs.lemmas.Bool.{cond_both}
use Rattle.rp_raftstep.specs.declared.messages.Message.{Message}
use Rattle.rp_request.specs.Applied.{AppliedState}
use Rattle.rp_request.specs.History.{History}
use Rattle.rp_request.specs.States.{first_applied}
use Rattle.rp_request.specs.declared.commands.Payload.{Payload}
use Rattle.rp_raftsafe.specs.World as raft
use Rattle.rp_raftsafe.specs.Safety.{OneList}
use Rattle.rp_rangesafe.specs.World as machine
use Rattle.rp_rangesafe.specs.World.{here}
use Rattle.rp_rangesafe.specs.Ranges.{Ranges}
use Rattle.rp_rangesafe.proofs.Joint.{range_reached}
use Rattle.rp_events.specs.declared.parcels.Parcel.{Parcel}
use Rattle.rp_events.specs.Replicas.{Replica}
use Rattle.rp_events.specs.Applications.{payload_of, next_entry}
use Rattle.rp_events.specs.Nodes.{Node, Absent, Live, seat}
use Rattle.rp_events.specs.Worlds.{World, node_of, outcome_at}
use Rattle.rp_events.specs.Lists.{base_of, history_in, HasApplied}
use Rattle.rp_seats.specs.Views.{core_of, sent_of, range_at}
use Rattle.rp_seats.specs.Standing.{Bound, RangeOk, SeatOk}
use Rattle.rp_seats.specs.Turned.{IsNext}
use Rattle.rp_seats.proofs.Opens.{nowhere_bare, absent_is}
use Rattle.rp_seats.proofs.Shown.{state_is, next_is}
use Rattle.rp_seats.proofs.Worlds.{site_seen}

-- a replica is where the machine has its node, and shows its state there
pub record SeatStands (m : Ranges) (range node : ℕ) (r : Replica) : Type 0 where
  pub there : m.opened range ≡ true
  pub at : (m.range range).index node + base_of range ≡ r.applied.index
  pub state : here (m.range range) node ≡ r.applied.state

-- a parcel of a range is one of the messages that the range sees
of_range : (range : ℕ) (sent : List (Parcel AppliedState)) (p : Parcel AppliedState) → Contains sent p → p.range ≡ range → sent_of range sent ≡ [] → ⊥
of_range range sent p c own none = go sent c.0 c.1 c.2 none where
  go : (sent : List (Parcel AppliedState)) (k : ℕ) → k < length sent → slice_index_or sent k p ≡ p → sent_of range sent ≡ [] → ⊥
  go [] k lt e none = omega (arith, lt)
  go (x ∷ sent) zero lt e none = full (sym (ap (λ b. cond b ((x.to, x.message) ∷ sent_of range sent) (sent_of range sent)) (eq-eqb x.range range (ap (λ (z : Parcel AppliedState). z.range) e ∙ own))) ∙ none) where
    full : ◌≡◌ {A = List (ℕ × Message AppliedState)} ((x.to, x.message) ∷ sent_of range sent) [] → ⊥
    full f = cc
  go (x ∷ sent) (suc k) lt e none =
      cond_both (eqb x.range range) ((x.to, x.message) ∷ sent_of range sent) (sent_of range sent) (λ (z : List (ℕ × Message AppliedState)). z ≡ [] → ⊥)
      (λ _ f. full f) (λ _ f. go sent k (omega (arith, lt)) e f) none
    where
      full : ◌≡◌ {A = List (ℕ × Message AppliedState)} ((x.to, x.message) ∷ sent_of range sent) [] → ⊥
      full f = cc

module _ (lists : OneList AppliedState) (w : World) (m : Ranges) (seen : ℕ → List raft.Event) (b : Bound lists w m seen) where
  bare_site : (range : ℕ) → m.opened range ≡ false → (node : ℕ) (n : Node) → node_of w node ≡ Some n
      → ◌≡◌ {A = raft.Site AppliedState} (record { status = core_of (seat n range); sent = sent_of range n.sent }) (record { status = raft.Absent; sent = [] })
  bare_site range off node n has =
      sym (site_seen range w node n has)
      ∙ ap (λ (z : raft.World AppliedState). raft.site z node) (b.shut range off).view_is
      ∙ nowhere_bare (range_at (length w) range first_applied) node

  pub bare : (range : ℕ) → m.opened range ≡ false → (node : ℕ) (n : Node) → node_of w node ≡ Some n → seat n range ≡ Absent
  bare range off node n has = absent_is (seat n range) (ap (λ (z : raft.Site AppliedState). z.status) (bare_site range off node n has))

  pub silent : (range : ℕ) → m.opened range ≡ false → (node : ℕ) (n : Node) (p : Parcel AppliedState) → node_of w node ≡ Some n → Contains n.sent p → p.range ≡ range → ⊥
  silent range off node n p has among own = of_range range n.sent p among own (ap (λ (z : raft.Site AppliedState). z.sent) (bare_site range off node n has))

  pub unhad : (range : ℕ) → m.opened range ≡ false → (node : ℕ) (past : History) → HasApplied w node range past → ⊥
  unhad range off node past a = none-some past (sym (ap history_in (bare range off node a.n a.has)) ∙ a.history)

  pub had_opened : (node range : ℕ) (past : History) → HasApplied w node range past → m.opened range ≡ true
  had_opened node range past a = go (m.opened range) refl where
    go : (o : Bool) → m.opened range ≡ o → m.opened range ≡ true
    go true e = e
    go false e = absurd (unhad range e node past a)

  module _ (node : ℕ) (n : Node) (range : ℕ) (r : Replica) (has : node_of w node ≡ Some n) (live : seat n range ≡ Live r) where
    abbrev h : machine.World
    h = m.range range

    open_here : m.opened range ≡ true
    open_here = had_opened node range r.applied (record { n = n; has = has; history = ap history_in live })

    abbrev ok : RangeOk lists (length w) range h.start (seen range) w h
    ok = b.ranges range open_here

    stands : SeatOk h node range (Live r) (λ id. outcome_at id n)
    stands = subst (λ z. SeatOk h node range z (λ id. outcome_at id n)) live (ok.seats node n has)

    pub seat_stands : SeatStands m range node r
    seat_stands = record {
      there = open_here;
      at = stands.stands.0;
      state = state_is (length w) range h.start (lists (range_at (length w) range h.start) ok.is) (seen range) w h ok.raft (range_reached m b.reached range) node n has r live stands.stands.0;
    }

    pub seat_next : (p : Payload) → payload_of (next_entry r) ≡ Some p → IsNext h node p
    seat_next p carries = next_is (length w) range h.start (lists (range_at (length w) range h.start) ok.is) (seen range) w h ok.raft (range_reached m b.reached range) node n has r live stands.stands.0 p carries
