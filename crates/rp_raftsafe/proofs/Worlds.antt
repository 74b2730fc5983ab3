-- The world after each schedule stands for a state of the machine.
use Rattle.std.proofs.Common.{◌≡◌, ℕ, zero, suc, ◌<◌, ◌≤◌, true, cond, eqb, Option, Some, None, List, [], ◌∷◌, ◌++◌, length, take, get_or, set, replicate, refl, sym, ap, subst, arith, ⊎_elim, inl, inr, get_or-set_same, get_or-set_other}
use Rattle.std.specs.Prelude.{slice_get}
use Rattle.std.specs.List.{AllByRecursion as Every}
use Rattle.std.specs.Option.{option_map_or}
use Rattle.std.proofs.lemmas.Bool.{cases_lt, cases_eq, cond_both, eqb-true, eqb-false}
use Rattle.std.proofs.lemmas.List.{set_past, length-replicate, get_or_past, get_or-replicate}
use Rattle.rp_raftlog.specs.declared.entries.Entry.{Entry}
use Rattle.rp_raftstep.specs.declared.messages.Message.{Message}
use Rattle.rp_raftsafe.specs.World.{Range, IsRange, Absent, Site, World, Turn, acts, gets, site, with_site, after_turn, message_of, Event, Acts, Comes, comes, happens, run, nowhere, world_after}
use Rattle.rp_raftsafe.proofs.Logs.{no_entry, tm, Good}
use Rattle.rp_raftsafe.proofs.Quorum.{Majority, count}
use Rattle.rp_raftsafe.proofs.Machine.{Abs, Proper, Inv}
use Rattle.rp_raftsafe.proofs.Growth.{Grows, grows_refl, grows_trans}
use Rattle.rp_raftsafe.proofs.Safe.{Commits}
use Rattle.rp_raftsafe.proofs.Refine.{PacketOk, StatusOk, Begun, front, packets_grow, status_moves, begun_grows}
use Rattle.rp_raftsafe.proofs.Pieces.{every_append}
use Rattle.rp_raftsafe.proofs.Snaps.{TurnOk}
use Rattle.rp_raftsafe.proofs.Turns.{acts_ok, gets_ok}

pub record SiteOk {S : Type 0} (g : Range S) (a : Abs) (p : ℕ) (s : Site S) : Type 0 where
  pub status : StatusOk g a p s.status
  pub sent : Every (PacketOk g a p) s.sent

pub record WorldOk {S : Type 0} (g : Range S) (a : Abs) (w : World S) : Type 0 where
  pub inv : Inv g.nodes a
  pub begun : Begun g a
  pub sites : (p : ℕ) → 0 < p → SiteOk g a p (site w p)

-- a world after events, and the state of the machine for it
pub record After {S : Type 0} (g : Range S) (a : Abs) (w : World S) : Type 0 where
  pub to : Abs
  pub grows : Grows a to
  pub ok : WorldOk g to w

-- what stands at a place of a list that has P throughout
pub every_get : {A : Type 0} (P : A → Type 0) (xs : List A) (i : ℕ) (x : A) → Every P xs → slice_get xs i ≡ Some x → P x
every_get {A} P [] i x every e = absurd (none_some e)
  where
    none_some : ◌≡◌ {A = Option A} None (Some x) → ⊥
    none_some e' = cc
every_get {A} P (y ∷ ys) zero x every e = subst P (some_same e) every.0
  where
    some_same : ◌≡◌ {A = Option A} (Some y) (Some x) → y ≡ x
    some_same e' = cc
every_get P (y ∷ ys) (suc i) x every e = every_get P ys i x every.1 e

-- a turn of one node leaves the facts on all nodes
turn_world : {S : Type 0} (g : Range S) (a : Abs) (w : World S) (place : ℕ) (turn : Turn S) → IsRange g → WorldOk g a w → place < length w → TurnOk g a (suc place) turn → After g a (with_site w (suc place) (after_turn (site w (suc place)) turn))
turn_world {S} g a w place turn range ok within t = record {
  to = t.to;
  grows = t.moves.grows;
  ok = record {
    inv = t.inv;
    begun = begun_grows g a t.to range.some_holder t.moves.grows ok.begun;
    sites = at;
  };
}
  where
    new : Site S
    new = after_turn (site w (suc place)) turn

    at : (p : ℕ) → 0 < p → SiteOk g t.to p (site (with_site w (suc place) (after_turn (site w (suc place)) turn)) p)
    at zero pos = absurd (omega arith)
    at (suc k) pos =
        ⊎_elim
        (λ (same : k ≡ place).
        subst (λ z. SiteOk g t.to (suc z) (get_or (set w place (after_turn (site w (suc place)) turn)) z (record { status = Absent; sent = [] }))) (sym same)
        (subst (λ z. SiteOk g t.to (suc place) z) (sym (get_or-set_same w place (after_turn (site w (suc place)) turn) (record { status = Absent; sent = [] }) within))
        (record {
          status = t.status;
          sent = every_append (PacketOk g t.to (suc place)) (site w (suc place)).sent turn.sends (packets_grow g a t.to t.moves.grows (suc place) (omega arith) (site w (suc place)).sent (ok.sites (suc place) (omega arith)).sent) t.sends;
        })))
        (λ (ne : k ≡ place → ⊥).
        subst (λ z. SiteOk g t.to (suc k) z) (sym (get_or-set_other w place k (after_turn (site w (suc place)) turn) (record { status = Absent; sent = [] }) ne))
        (record {
          status = status_moves g (suc place) a t.to t.moves (suc k) (λ e. ne (omega (arith, e))) pos (site w (suc k)).status (ok.sites (suc k) pos).status;
          sent = packets_grow g a t.to t.moves.grows (suc k) pos (site w (suc k)).sent (ok.sites (suc k) pos).sent;
        }))
        (cases_eq k place)

same_world : {S : Type 0} (g : Range S) (a : Abs) (w : World S) → WorldOk g a w → After g a w
same_world g a w ok = record { to = a; grows = grows_refl a; ok = ok }

-- an event
pub happens_ok : {S : Type 0} (g : Range S) (a : Abs) (w : World S) (event : Event) → IsRange g → WorldOk g a w → After g a (happens g w event)
happens_ok g a w (Acts zero action) range ok = same_world g a w ok
happens_ok g a w (Acts (suc place) action) range ok =
    ⊎_elim
    (λ (within : place < length w).
    turn_world g a w place (acts g (suc place) action (site w (suc place)).status) range ok within
    (acts_ok g a (suc place) action (site w (suc place)).status ok.begun ok.inv (omega arith) (ok.sites (suc place) (omega arith)).status))
    (λ (past : length w ≤ place).
    subst (λ z. After g a z) (sym (set_past w place (after_turn (site w (suc place)) (acts g (suc place) action (site w (suc place)).status)) past)) (same_world g a w ok))
    (cases_lt place (length w))
happens_ok {S} g a w (Comes from number again) range ok = found from number (message_of (site w from) number) refl
  where
    arrives : (from : ℕ) → 0 < from → (sent : ℕ × Message S) → PacketOk g a from sent → After g a (comes g w from again sent)
    arrives from pf (zero, m) packet = same_world g a w ok
    arrives from pf (suc place, m) packet =
        ⊎_elim
        (λ (within : place < length w).
        turn_world g a w place (gets g (suc place) from m again (site w (suc place)).status) range ok within
        (gets_ok g a (suc place) from m again (site w (suc place)).status ok.inv (omega arith) pf (λ e. packet.other (sym e)) (ok.sites (suc place) (omega arith)).status packet.fact))
        (λ (past : length w ≤ place).
        subst (λ z. After g a z) (sym (set_past w place (after_turn (site w (suc place)) (gets g (suc place) from m again (site w (suc place)).status)) past)) (same_world g a w ok))
        (cases_lt place (length w))

    none_some : (x : ℕ × Message S) → ◌≡◌ {A = Option (ℕ × Message S)} None (Some x) → ⊥
    none_some x e = cc

    found : (from number : ℕ) → (o : Option (ℕ × Message S)) → message_of (site w from) number ≡ o → After g a (option_map_or (comes g w from again) o w)
    found from number None e = same_world g a w ok
    found zero zero (Some sent) e = absurd (none_some sent e)
    found zero (suc i) (Some sent) e = absurd (none_some sent e)
    found (suc k) zero (Some sent) e = absurd (none_some sent e)
    found (suc k) (suc i) (Some sent) e = arrives (suc k) (omega arith) sent (every_get (PacketOk g a (suc k)) (site w (suc k)).sent i sent (ok.sites (suc k) (omega arith)).sent e)

-- a schedule
pub run_ok : {S : Type 0} (g : Range S) (a : Abs) (w : World S) (events : List Event) → IsRange g → WorldOk g a w → After g a (run g events w)
run_ok g a w [] range ok = same_world g a w ok
run_ok g a w (event ∷ events) range ok =
    let one = happens_ok g a w event range ok in
    let more = run_ok g one.to (happens g w event) events range one.ok in
    record { to = more.to; grows = grows_trans a one.to more.to one.grows more.grows; ok = more.ok }

pub run-append : {S : Type 0} (g : Range S) (early late : List Event) (w : World S) → run g (early ++ late) w ≡ run g late (run g early w)
run-append g [] late w = refl
run-append g (event ∷ early) late w = run-append g early late (happens g w event)

-- the machine as the range starts: all are in term 1, voted for the holder, and hold what stands before the range's first entry
abbrev in_first : {A : Type 0} → A → A → ℕ → A
in_first one other t = cond (eqb t 1) one other

abbrev pub beginning : {S : Type 0} → Range S → Abs
beginning g = record {
  term = λ p. 1;
  log = λ p. front g;
  vote = λ p t. in_first g.holder 0 t;
  asked = λ t c. [];
  lead = λ t. in_first g.holder 0 t;
  llog = λ t. in_first (front g) [] t;
  ack = λ p t. in_first g.base 0 t;
}

at_first : {A : Type 0} (P : A → Type 0) (one other : A) (t : ℕ) → (t ≡ 1 → P one) → ((t ≡ 1 → ⊥) → P other) → P (in_first one other t)
at_first P one other t here there = cond_both (eqb t 1) one other P (λ e. here (eqb-true t 1 e)) (λ e. there (eqb-false t 1 e))

everyone : (n : ℕ) (P : ℕ → Type 0) → 0 < n → ((q : ℕ) → P q) → Majority n P
everyone n P some all = record { test = λ _. true; most = omega (arith, counts n); has = λ q _ _ _. all q }
  where
    counts : (k : ℕ) → count (λ _. true) k ≡ k
    counts zero = refl
    counts (suc k) = ap suc (counts k)

front_good : {S : Type 0} (g : Range S) → Good (beginning g).llog (front g)
front_good g j lt =
    let own : tm (front g) j ≡ 1 = ap (λ z. z.term) (get_or-replicate g.base j (record { term = 1; payload = [] }) no_entry (omega (arith, length-replicate {A = Entry} g.base (record { term = 1; payload = [] })))) in
    ap (take (suc j)) (sym (ap (beginning g).llog own))

front_terms : {S : Type 0} (g : Range S) (j : ℕ) → tm (front g) j ≤ 1
front_terms g j =
    ⊎_elim
    (λ (lt : j < g.base). omega (arith, ap (λ z. z.term) (get_or-replicate g.base j (record { term = 1; payload = [] }) no_entry lt)))
    (λ (ge : g.base ≤ j). omega (arith, ap (λ z. z.term) (get_or_past (front g) j no_entry (omega (arith, length-replicate {A = Entry} g.base (record { term = 1; payload = [] }))))))
    (cases_lt j g.base)

beginning_inv : {S : Type 0} (g : Range S) → IsRange g → Inv g.nodes (beginning g)
beginning_inv g range =
    let len : length (front g) ≡ g.base = length-replicate g.base (record { term = 1; payload = [] }) in
    let empty : (t j : ℕ) → (t ≡ 1 → ⊥) → Proper (beginning g).llog t j → ⊥ =
    λ t j ne proper. at_first (λ x. j < length x → ⊥) (front g) [] t (λ e _. ne e) (λ _ lt. omega arith) proper.within in
    record {
      unvoted = λ p t lt. at_first (λ x. x ≡ 0) g.holder 0 t (λ e. absurd (omega arith)) (λ _. refl);
      asked_first = λ p t _. refl;
      elected = λ t _. everyone g.nodes _ range.some_nodes (λ q. refl);
      unled = λ t. at_first (λ x. x ≡ 0 → (beginning g).llog t ≡ []) g.holder 0 t (λ e z. absurd (omega (arith, range.some_holder))) (λ ne _. at_first (λ x. x ≡ []) (front g) [] t (λ e. absurd (ne e)) (λ _. refl));
      lead_term = λ t. at_first (λ x. 0 < x → t ≤ 1) g.holder 0 t (λ e _. omega arith) (λ _ lt. absurd (omega arith));
      lead_log = λ p pos e. refl;
      lead_ack = λ t. at_first (λ x. 0 < x → (beginning g).ack x t ≡ length ((beginning g).llog t)) g.holder 0 t
          (λ e _. at_first (λ x. x ≡ length ((beginning g).llog t)) g.base 0 t (λ _. at_first (λ y. g.base ≡ length y) (front g) [] t (λ _. sym len) (λ ne. absurd (ne e))) (λ ne. absurd (ne e)))
          (λ _ lt. absurd (omega arith));
      good_log = λ p. front_good g;
      good_llog = λ t. at_first (λ x. Good (beginning g).llog x) (front g) [] t (λ _. front_good g) (λ _ j lt. absurd (omega arith));
      log_terms = λ p j. front_terms g j;
      llog_terms = λ t j. at_first (λ x. tm x j ≤ t) (front g) [] t (λ e. omega (arith, front_terms g j)) (λ _. omega arith);
      ack_length = λ p t. at_first (λ x. x ≤ length ((beginning g).llog t)) g.base 0 t (λ e. at_first (λ y. g.base ≤ length y) (front g) [] t (λ _. omega arith) (λ ne. absurd (ne e))) (λ _. omega arith);
      ack_term = λ p t lt. at_first (λ x. x ≡ 0) g.base 0 t (λ e. absurd (omega arith)) (λ _. refl);
      stored = λ p t j proper _ _. ⊎_elim (λ (e : t ≡ 1). ap (λ z. take (suc j) ((beginning g).llog z)) e) (λ ne. absurd (empty t j ne proper)) (cases_eq t 1);
      fresh = λ p s t j voted lt proper _ _. ⊎_elim (λ (e : t ≡ 1). absurd (at_first (λ x. 0 < x → ⊥) g.holder 0 s (λ es _. omega arith) (λ _ bad. omega arith) voted)) (λ ne. absurd (empty t j ne proper)) (cases_eq t 1);
      complete = λ s t j led lt proper _. ⊎_elim (λ (e : t ≡ 1). absurd (at_first (λ x. 0 < x → ⊥) g.holder 0 s (λ es _. omega arith) (λ _ bad. omega arith) led)) (λ ne. absurd (empty t j ne proper)) (cases_eq t 1);
    }

-- what stands before the range's first entry is committed from the start
front_commits : {S : Type 0} (g : Range S) → IsRange g → (b : ℕ) → g.base ≡ b → Commits g.nodes (beginning g) 1 b (front g)
front_commits g range zero e = inl refl
front_commits g range (suc b) e =
    let len : length (front g) ≡ g.base = length-replicate g.base (record { term = 1; payload = [] }) in
    inr (record {
      by_term = 1;
      place = b;
      term_le = omega arith;
      committed = record {
        proper = record { within = omega arith; own = ap (λ z. z.term) (get_or-replicate g.base b (record { term = 1; payload = [] }) no_entry (omega arith)) };
        held = everyone g.nodes _ range.some_nodes (λ q. omega arith);
      };
      within = omega arith;
      front = refl;
    })

pub beginning_ok : {S : Type 0} (g : Range S) → IsRange g → WorldOk g (beginning g) (nowhere g)
beginning_ok {S} g range = record {
  inv = beginning_inv g range;
  begun = record { holder = refl; base = front_commits g range g.base refl };
  sites = at;
}
  where
    nothing_there : Site S
    nothing_there = record { status = Absent; sent = [] }

    each : (n k : ℕ) → (P : Site S → Type 0) → P (record { status = Absent; sent = [] }) → P (get_or (replicate n (record { status = Absent; sent = [] })) k (record { status = Absent; sent = [] }))
    each zero k P here = here
    each (suc n) zero P here = here
    each (suc n) (suc k) P here = each n k P here

    at : (p : ℕ) → 0 < p → SiteOk g (beginning g) p (site (nowhere g) p)
    at zero pos = absurd (omega arith)
    at (suc k) pos = each g.nodes k (SiteOk g (beginning g) (suc k)) (record { status = record { term = refl; log = refl }; sent = tt })

-- the world after a schedule from the start
pub after_start : {S : Type 0} (g : Range S) → IsRange g → (events : List Event) → After g (beginning g) (world_after g events)
after_start g range events = run_ok g (beginning g) (nowhere g) events range (beginning_ok g range)

-- and after more events, of which the earlier state knows
pub record Both {S : Type 0} (g : Range S) (early late : List Event) : Type 0 where
  pub then : Abs
  pub now : Abs
  pub grows : Grows then now
  pub before : WorldOk g then (world_after g early)
  pub after : WorldOk g now (world_after g (early ++ late))

pub both_ok : {S : Type 0} (g : Range S) → IsRange g → (early late : List Event) → Both g early late
both_ok g range early late =
    let one = after_start g range early in
    let two = run_ok g one.to (world_after g early) late range one.ok in
    record { then = one.to; now = two.to; grows = two.grows; before = one.ok; after = subst (λ z. WorldOk g two.to z) (sym (run-append g early late (nowhere g))) two.ok }
