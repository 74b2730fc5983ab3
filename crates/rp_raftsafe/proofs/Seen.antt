-- What one range sees of nodes with several ranges is a run of that range.
use Rattle.std.proofs.Common.{◌≡◌, ℕ, zero, suc, ◌+◌, true, false, cond, eqb, Option, Some, None, List, [], ◌∷◌, ◌++◌, take, get_or, replicate, refl, sym, ap, subst, ◌∙◌, arith, ⊎_elim, eqb-true, eq-eqb, append-nil}
use Rattle.std.specs.Prelude.{slice_get}
use Rattle.std.specs.Option.{option_map_or}
use Rattle.std.proofs.lemmas.Bool.{cond_both, eqb-false, ne_eqb, cases_eq}
use Rattle.std.proofs.lemmas.List.{map-set, set-get_or}
use Rattle.std.proofs.lemmas.List.Sums.{sum_by-cons}
use Rattle.rp_raftstep.specs.declared.messages.Message.{Message}
use Rattle.rp_raftsafe.specs.World.{Range, Status, Absent, Turn, acts, gets, Site, World, site, with_site, after_turn, message_of, Acts, Comes, comes, happens, run}
use Rattle.rp_raftsafe.specs.Many.{Parcel, Host, Hosts, no_host, host, with_host, parcels, turned, parcel_of, ManyEvent, ActsIn, ComesIn, parcel_comes, happens_in, run_in, sent_of, number_in, view_host, view, sees_parcel, sees, sees_all, SeesOwn, StartsNowhere}
use Rattle.rp_raftsafe.proofs.Worlds.{run-append}

-- the message of a range that a parcel is
pub parcel_is : {S : Type 0} (range : ℕ) (sent : List (Parcel S)) (i : ℕ) (p : Parcel S) → slice_get sent i ≡ Some p → p.range ≡ range
    → (j : ℕ) × (number_in range sent (suc i) ≡ suc j) × (slice_get (sent_of range sent) j ≡ Some (p.to, p.message))
parcel_is {S} range [] i p at own = absurd (none_some at)
  where
    none_some : ◌≡◌ {A = Option (Parcel S)} None (Some p) → ⊥
    none_some e = cc
parcel_is {S} range (x ∷ sent) zero p at own =
    let same : x ≡ p = some_same at in
    let own' : eqb x.range range ≡ true = eq-eqb x.range range (ap (λ z. z.range) same ∙ own) in (
      0,
      sum_by-cons (λ z. cond (eqb z.range range) 1 0) x [] ∙ ap (λ z. cond z 1 0 + 0) own',
      ap (λ z. slice_get (cond z ((x.to, x.message) ∷ sent_of range sent) (sent_of range sent)) 0) own' ∙ ap (λ z. Some (z.to, z.message)) same,
    )
  where
    some_same : ◌≡◌ {A = Option (Parcel S)} (Some x) (Some p) → x ≡ p
    some_same e = cc
parcel_is range (x ∷ sent) (suc i) p at own =
    let rest = parcel_is range sent i p at own in
    let counted : number_in range (x ∷ sent) (suc (suc i)) ≡ cond (eqb x.range range) 1 0 + number_in range sent (suc i) = sum_by-cons (λ z. cond (eqb z.range range) 1 0) x (take (suc i) sent) in
    ⊎_elim
    (λ (mine : x.range ≡ range).
    let e : eqb x.range range ≡ true = eq-eqb x.range range mine in (
      suc rest.0,
      counted ∙ ap (λ z. cond z 1 0 + number_in range sent (suc i)) e ∙ omega (arith, rest.1),
      ap (λ z. slice_get (cond z ((x.to, x.message) ∷ sent_of range sent) (sent_of range sent)) (suc rest.0)) e ∙ rest.2,
    ))
    (λ (other : x.range ≡ range → ⊥).
    let e : eqb x.range range ≡ false = ne_eqb x.range range other in (
      rest.0,
      counted ∙ ap (λ z. cond z 1 0 + number_in range sent (suc i)) e ∙ omega (arith, rest.1),
      ap (λ z. slice_get (cond z ((x.to, x.message) ∷ sent_of range sent) (sent_of range sent)) rest.0) e ∙ rest.2,
    ))
    (cases_eq x.range range)

sent_more : {S : Type 0} (range : ℕ) (sent more : List (Parcel S)) → sent_of range (sent ++ more) ≡ sent_of range sent ++ sent_of range more
sent_more range [] more = refl
sent_more range (x ∷ sent) more =
    cond_both (eqb x.range range) ((x.to, x.message) ∷ sent_of range sent) (sent_of range sent) (λ z. cond (eqb x.range range) ((x.to, x.message) ∷ sent_of range (sent ++ more)) (sent_of range (sent ++ more)) ≡ z ++ sent_of range more)
    (λ e. ap (λ z. cond z ((x.to, x.message) ∷ sent_of range (sent ++ more)) (sent_of range (sent ++ more))) e ∙ ap (λ z. (x.to, x.message) ∷ z) (sent_more range sent more))
    (λ e. ap (λ z. cond z ((x.to, x.message) ∷ sent_of range (sent ++ more)) (sent_of range (sent ++ more))) e ∙ sent_more range sent more)

own_parcels : {S : Type 0} (range : ℕ) (sends : List (ℕ × Message S)) → sent_of range (parcels range sends) ≡ sends
own_parcels range [] = refl
own_parcels range (x ∷ xs) = ap (λ z. cond z (x ∷ sent_of range (parcels range xs)) (sent_of range (parcels range xs))) (eq-eqb range range refl) ∙ ap (λ z. x ∷ z) (own_parcels range xs)

other_parcels : {S : Type 0} (range r : ℕ) (sends : List (ℕ × Message S)) → (r ≡ range → ⊥) → sent_of range (parcels r sends) ≡ []
other_parcels range r [] ne = refl
other_parcels range r (x ∷ xs) ne = ap (λ z. cond z (x ∷ sent_of range (parcels r xs)) (sent_of range (parcels r xs))) (ne_eqb r range ne) ∙ other_parcels range r xs ne

turned_same : {S : Type 0} (range : ℕ) (h : Host S) (t : Turn S) → view_host range (turned h range t) ≡ after_turn (view_host range h) t
turned_same range h t =
    let status : cond (eqb range range) t.status (h.statuses range) ≡ t.status = ap (λ z. cond z t.status (h.statuses range)) (eq-eqb range range refl) in
    let sent : sent_of range (h.sent ++ parcels range t.sends) ≡ sent_of range h.sent ++ t.sends = sent_more range h.sent (parcels range t.sends) ∙ ap (λ z. sent_of range h.sent ++ z) (own_parcels range t.sends) in
    two _ _ _ _ status sent
  where
    two : {S : Type 0} (s s' : Status S) (l l' : List (ℕ × Message S)) → s ≡ s' → l ≡ l' → ◌≡◌ {A = Site S} (record { status = s; sent = l }) (record { status = s'; sent = l' })
    two s s' l l' e f = cc

turned_other : {S : Type 0} (range r : ℕ) (h : Host S) (t : Turn S) → (r ≡ range → ⊥) → view_host range (turned h r t) ≡ view_host range h
turned_other range r h t ne =
    let status : cond (eqb range r) t.status (h.statuses range) ≡ h.statuses range = ap (λ z. cond z t.status (h.statuses range)) (ne_eqb range r (λ e. ne (sym e))) in
    let sent : sent_of range (h.sent ++ parcels r t.sends) ≡ sent_of range h.sent = sent_more range h.sent (parcels r t.sends) ∙ ap (λ z. sent_of range h.sent ++ z) (other_parcels range r t.sends ne) ∙ append-nil (sent_of range h.sent) in
    two _ _ _ _ status sent
  where
    two : {S : Type 0} (s s' : Status S) (l l' : List (ℕ × Message S)) → s ≡ s' → l ≡ l' → ◌≡◌ {A = Site S} (record { status = s; sent = l }) (record { status = s'; sent = l' })
    two s s' l l' e f = cc

pub view_site : {S : Type 0} (range : ℕ) (w : Hosts S) (node : ℕ) → site (view range w) node ≡ view_host range (host w node)
view_site range w zero = refl
view_site {S} range w (suc place) = at w place
  where
    at : (w : Hosts S) (k : ℕ) → get_or (view range w) k (record { status = Absent; sent = [] }) ≡ view_host range (get_or w k no_host)
    at [] k = refl
    at (x ∷ xs) zero = refl
    at (x ∷ xs) (suc k) = at xs k

view_with : {S : Type 0} (range : ℕ) (w : Hosts S) (node : ℕ) (h : Host S) → view range (with_host w node h) ≡ with_site (view range w) node (view_host range h)
view_with range w zero h = refl
view_with range w (suc place) h = map-set (view_host range) w place h

same_site : {S : Type 0} (w : World S) (node : ℕ) → with_site w node (site w node) ≡ w
same_site w zero = refl
same_site w (suc place) = set-get_or w place (record { status = Absent; sent = [] })

-- a turn of the range itself, or of another one
own_turn : {S : Type 0} (range : ℕ) (w : Hosts S) (node : ℕ) (turn : Status S → Turn S)
    → view range (with_host w node (turned (host w node) range (turn ((host w node).statuses range)))) ≡ with_site (view range w) node (after_turn (site (view range w) node) (turn (site (view range w) node).status))
own_turn range w node turn =
    view_with range w node (turned (host w node) range (turn ((host w node).statuses range)))
    ∙ ap (with_site (view range w) node) (turned_same range (host w node) (turn ((host w node).statuses range)))
    ∙ ap (λ z. with_site (view range w) node (after_turn z (turn z.status))) (sym (view_site range w node))

other_turn : {S : Type 0} (range r : ℕ) (w : Hosts S) (node : ℕ) (t : Turn S) → (r ≡ range → ⊥) → view range (with_host w node (turned (host w node) r t)) ≡ view range w
other_turn range r w node t ne =
    view_with range w node (turned (host w node) r t)
    ∙ ap (with_site (view range w) node) (turned_other range r (host w node) t ne ∙ sym (view_site range w node))
    ∙ same_site (view range w) node

-- an event
sees_one : {S : Type 0} (ranges : ℕ → Range S) (range : ℕ) (w : Hosts S) (event : ManyEvent) → view range (happens_in ranges w event) ≡ run (ranges range) (sees range w event) (view range w)
sees_one {S} ranges range w (ActsIn r node action) =
    cond_both (eqb r range) (Acts node action ∷ []) [] (λ es. view range (happens_in ranges w (ActsIn r node action)) ≡ run (ranges range) es (view range w))
    (λ e. subst (λ z. view range (happens_in ranges w (ActsIn z node action)) ≡ happens (ranges range) (view range w) (Acts node action)) (sym (eqb-true r range e)) (own_turn range w node (acts (ranges range) node action)))
    (λ ne. other_turn range r w node (acts (ranges r) node action ((host w node).statuses r)) (eqb-false r range ne))
sees_one {S} ranges range w (ComesIn from number again) = found number (parcel_of (host w from) number) refl
  where
    none_some : (p : Parcel S) → ◌≡◌ {A = Option (Parcel S)} None (Some p) → ⊥
    none_some p e = cc

    mine : (number : ℕ) (p : Parcel S) → parcel_of (host w from) number ≡ Some p → p.range ≡ range → view range (parcel_comes ranges w from again p) ≡ happens (ranges range) (view range w) (Comes from (number_in range (host w from).sent number) again)
    mine zero p at own = absurd (none_some p at)
    mine (suc i) p at own =
        let is = parcel_is range (host w from).sent i p at own in
        let there : message_of (site (view range w) from) (number_in range (host w from).sent (suc i)) ≡ Some (p.to, p.message) =
        ap (message_of (site (view range w) from)) is.1 ∙ ap (λ z. slice_get z.sent is.0) (view_site range w from) ∙ is.2 in
        subst (λ z. view range (with_host w p.to (turned (host w p.to) z (gets (ranges z) p.to from p.message again ((host w p.to).statuses z)))) ≡ comes (ranges range) (view range w) from again (p.to, p.message)) (sym own)
        (own_turn range w p.to (gets (ranges range) p.to from p.message again))
        ∙ sym (ap (λ z. option_map_or (comes (ranges range) (view range w) from again) z (view range w)) there)

    found : (number : ℕ) (o : Option (Parcel S)) → parcel_of (host w from) number ≡ o → view range (option_map_or (parcel_comes ranges w from again) o w) ≡ run (ranges range) (option_map_or (sees_parcel range w from number again) o []) (view range w)
    found number None e = refl
    found number (Some p) e =
        cond_both (eqb p.range range) (Comes from (number_in range (host w from).sent number) again ∷ []) [] (λ es. view range (parcel_comes ranges w from again p) ≡ run (ranges range) es (view range w))
        (λ own. mine number p e (eqb-true p.range range own))
        (λ ne. other_turn range p.range w p.to (gets (ranges p.range) p.to from p.message again ((host w p.to).statuses p.range)) (eqb-false p.range range ne))

pub sees_own_holds : (S : Type 0) → SeesOwn S
sees_own_holds S ranges w events range = all events w
  where
    all : (events : List ManyEvent) (w : Hosts S) → view range (run_in ranges events w) ≡ run (ranges range) (sees_all ranges range events w) (view range w)
    all [] w = refl
    all (event ∷ events) w =
        all events (happens_in ranges w event)
        ∙ ap (run (ranges range) (sees_all ranges range events (happens_in ranges w event))) (sees_one ranges range w event)
        ∙ sym (run-append (ranges range) (sees range w event) (sees_all ranges range events (happens_in ranges w event)) (view range w))

pub starts_nowhere_holds : (S : Type 0) → StartsNowhere S
starts_nowhere_holds S g range = each g.nodes
  where
    each : (n : ℕ) → view range (replicate n (no_host {S = S})) ≡ replicate n (record { status = Absent; sent = [] })
    each zero = refl
    each (suc n) = ap (λ z. record { status = Absent; sent = [] } ∷ z) (each n)
