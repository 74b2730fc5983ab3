-- What makes no event keeps soundness; so does each event that admits nothing.
use Rattle.std.proofs.Common.{◌≡◌, ◌≢◌, ◌⊎◌, inl, inr, ⊎_elim, ℕ, zero, suc, ◌+◌, ◌-◌, ◌≤◌, true, false, Option, Some, List, [], ◌∷◌, length, get_or, set, replicate, refl, sym, ap, subst, ◌∙◌, arith}
use Rattle.std.proofs.lemmas.List.{length-set, length-append, get_or-set_other}
use Rattle.std.proofs.lemmas.Bool.{cases_eq}
use Rattle.std.proofs.lemmas.Option.{slice_get_within}
use Rattle.rp_base.specs.declared.ids.CmdId.{CmdId}
use Rattle.rp_base.proofs.IdLaws.{id_cases, apart_not_same}
use Rattle.rp_request.specs.Applied.{AppliedState}
use Rattle.rp_request.specs.declared.notes.Note.{Note}
use Rattle.rp_events.specs.declared.parcels.Parcel.{Parcel}
use Rattle.rp_events.specs.declared.world_events.WorldEvent.{WorldEvent}
use Rattle.rp_events.specs.Nodes.{parcel_of}
use Rattle.rp_events.specs.Worlds.{Happening, Scene, sent_by}
use Rattle.rp_events.specs.Lawful.{Lawful}
use Rattle.rp_events.specs.Buffered.{Buffered, buffered_step}
use Rattle.rp_journals.proofs.Growing.{later_refl, world_refl}
use Rattle.rp_journals.proofs.Asking.{Admitting}
use Rattle.rp_book.specs.declared.bookings.Booked.{Booked}
use Rattle.rp_book.specs.declared.bookings.Draw.{Draw}
use Rattle.rp_book.specs.Books.{booked, booking_of}
use Rattle.rp_book.specs.Handling.{Handling, padded, handled}
use Rattle.rp_lines.specs.Players.{Player, Loss, did, weight, most_events, most_weight}
use Rattle.rp_lines.specs.Commands.{with_draw}
use Rattle.rp_lines.specs.Settling.{handling_of, with_handled}
use Rattle.rp_lawful.specs.Sound.{Sound, IsSoundBooking, IsSoundHandling, IsLoss}
use Rattle.rp_lawful.specs.Comings.{scene_at, node_in, happening_of}
use Rattle.rp_lawful.specs.Onward.{IsBookedAs, LeadsOn}
use Rattle.rp_lawful.proofs.Books.{booked_here, booked_other, booked_apart, latest_had, latest_stays}
use Rattle.rp_lawful.proofs.Coming.{event_leaves}
use Rattle.rp_lawful.proofs.Keeping.{Keeps}
use Rattle.rp_lawful.proofs.Events.{Counted, counted_is, after_event, BookGrows, booking_on, redrawn, booked_itself, handling_on, NodesOn, nodes_on}

no_less : (n : ℕ) → n ≤ n
no_less n = omega arith

-- nothing of the book has changed
module _ (k : ℕ) (p : Player) (s : Sound k p) where
  -- other lists of what was handled, another loss, other notes
  pub beside_leads : (handled : List Handling) (loss : Loss) (notes : List Note) → IsSoundHandling (record p { handled = handled }) → IsLoss loss
      → LeadsOn k p (record p { handled = handled; loss = loss; notes = notes })
  beside_leads handled loss notes h l =
      let q : Player = record p { handled = handled; loss = loss; notes = notes } in
      let g : BookGrows p q = record { grows = world_refl p.world.nodes; refused = λ id is. is; sent = λ client. no_less _; booked = λ id b is. record { draw = is.draw; is = is.is } } in
      record {
        sound = record {
          reached = s.reached;
          journals = s.journals;
          events = s.events;
          weight_is = s.weight_is;
          clients = s.clients;
          counts = s.counts;
          book = record {
            apart = s.book.apart;
            booked = λ id b is. booking_on k k p q (no_less k) g id b (s.book.booked id b is);
            asked = s.book.asked;
            latest = λ client seq c.
                let x = s.book.latest client seq c in
                record {
                  entry = x.entry;
                  is = x.is;
                  latest = record { has = x.latest.has; client_is = x.latest.client_is; seq_is = x.latest.seq_is; last = x.latest.last };
                };
          };
          buffers = s.buffers;
          handling = record { many = h.many; within = h.within };
          loss = l;
        };
        later = later_refl p.world.nodes;
        size = refl;
        sent = refl;
        booked = g.booked;
      }

  -- an event that admits nothing
  pub event_leads : (x : Scene) (b : Buffered) → NodesOn p x b → ((id : CmdId) → Admitting id x.what → ⊥) → (p.events ≡ most_events → ⊥) → weight b.nodes ≤ most_weight
      → LeadsOn k p (after_event b p)
  event_leads x b o none left weighs =
      let q : Player = after_event b p in
      let g : BookGrows p q = record { grows = o.grows; refused = o.refused; sent = λ client. no_less _; booked = λ id y is. record { draw = is.draw; is = is.is } } in
      record {
        sound = record {
          reached = o.reached;
          journals = o.events;
          events = let few = s.events in omega (arith, few, left);
          weight_is = weighs;
          clients = s.clients;
          counts = s.counts;
          book = record {
            apart = s.book.apart;
            booked = λ id y is. booking_on k k p q (no_less k) g id y (s.book.booked id y is);
            asked = λ id is. ⊎_elim (λ was. s.book.asked id was) (λ (a : Admitting id x.what). absurd (none id a)) (o.asked id is);
            latest = λ client seq c.
                let y = s.book.latest client seq c in
                record {
                  entry = y.entry;
                  is = y.is;
                  latest = record { has = y.latest.has; client_is = y.latest.client_is; seq_is = y.latest.seq_is; last = y.latest.last };
                };
          };
          buffers = o.buffers;
          handling = handling_on p b.nodes o.grows s.handling b refl (p.events + 1);
          loss = s.loss;
        };
        later = o.later;
        size = o.size;
        sent = refl;
        booked = g.booked;
      }

  pub event_keeps : (e : WorldEvent) (what : Happening) → happening_of p.world e ≡ Some what → Lawful p.world.nodes (scene_at (node_in e) what) → ((id : CmdId) → Admitting id what → ⊥)
      → Keeps k p (did e p)
  event_keeps e what is l none q ok =
      let c : Counted e p q = counted_is e p q ok in
      let b : Buffered = buffered_step p.world e in
      let o : NodesOn p (scene_at (node_in e) what) b = nodes_on k p s (scene_at (node_in e) what) l b (event_leaves p.world e what is l.lawful) in
      subst (LeadsOn k p) (sym c.is) (event_leads (scene_at (node_in e) what) b o none c.left c.weighs)

  -- an attempt of the book comes further in its buffer
  module _ (id : CmdId) (b : Booked) (was : IsBookedAs p id b) (draw : Draw) where
    abbrev new : Booked
    new = record b { draw = draw }

    abbrev old : Booked
    old = record b { draw = was.draw }

    some_booked : (x y : Booked) → ◌≡◌ {A = Option Booked} (Some x) (Some y) → x ≡ y
    some_booked x y e = cc

    still : (other : CmdId) (x : Booked) → IsBookedAs p other x → IsBookedAs (with_draw id b draw p) other x
    still other x is = ⊎_elim
        (λ (same : other ≡ id). record {
          draw = draw;
          is =
              let at : ◌≡◌ {A = Option Booked} (Some (record x { draw = is.draw })) (Some old) = sym (subst (λ z. booking_of z p.book ≡ Some (record x { draw = is.draw })) same is.is) ∙ was.is in
              subst (λ z. booking_of z (booked id new p.book) ≡ Some (record x { draw = draw })) (sym same)
              (booked_here id new p.book ∙ ap (λ (z : Booked). Some (record z { draw = draw })) (sym (some_booked _ _ at)));
        })
        (λ (ne : other ≡ id → ⊥). record { draw = is.draw; is = booked_other id other new p.book (apart_not_same other id ne) ∙ is.is })
        (id_cases other id)

    -- what the book has then it had
    before : (other : CmdId) (x : Booked) → booking_of other (booked id new p.book) ≡ Some x → ((other ≡ id) × (x ≡ new)) ⊎ (booking_of other p.book ≡ Some x)
    before other x is = ⊎_elim
        (λ (same : other ≡ id). inl (same, some_booked x new (sym (subst (λ z. booking_of z (booked id new p.book) ≡ Some x) same is) ∙ booked_here id new p.book)))
        (λ (ne : other ≡ id → ⊥). inr (sym (booked_other id other new p.book (apart_not_same other id ne)) ∙ is))
        (id_cases other id)

    pub draw_leads : LeadsOn k p (with_draw id b draw p)
    draw_leads =
        let q : Player = with_draw id b draw p in
        let g : BookGrows p q = record { grows = world_refl p.world.nodes; refused = λ other is. is; sent = λ client. no_less _; booked = still } in
        record {
          sound = record {
            reached = s.reached;
            journals = s.journals;
            events = s.events;
            weight_is = s.weight_is;
            clients = s.clients;
            counts = s.counts;
            book = record {
              apart = booked_apart id new p.book s.book.apart;
              booked = λ other x is. ⊎_elim
                  (λ (y : (other ≡ id) × (x ≡ new)).
                  subst (λ z. IsSoundBooking k q z x) (sym y.0) (subst (IsSoundBooking k q id) (sym y.1)
                  (redrawn k q id old draw (booking_on k k p q (no_less k) g id old (s.book.booked id old was.is)))))
                  (λ (y : booking_of other p.book ≡ Some x). booking_on k k p q (no_less k) g other x (s.book.booked other x y))
                  (before other x is);
              asked = λ other is.
                  let x = s.book.asked other is in
                  let y = still other x.0 (booked_itself p other x.0 x.1) in
                  (record (x.0) { draw = y.draw }, y.is);
              latest = λ client seq c.
                  let x = s.book.latest client seq c in
                  let y = latest_stays id new old p.book was.is client seq x.entry x.is in
                  let had = latest_had (booked id new p.book) (booked_apart id new p.book s.book.apart) client seq y.0 y.1 in
                  record {
                    entry = y.0;
                    is = y.1;
                    latest = record {
                      has = had.has;
                      client_is = had.client_is;
                      seq_is = had.seq_is;
                      last = λ other z is of at.
                          subst (λ (i : CmdId). other.attempt ≤ i.attempt) (sym y.2)
                          (⊎_elim
                          (λ (v : (other ≡ id) × (z ≡ new)). x.latest.last other old (subst (λ i. booking_of i p.book ≡ Some old) (sym v.0) was.is) of at)
                          (λ (v : booking_of other p.book ≡ Some z). x.latest.last other z v of at)
                          (before other z is));
                    };
                  };
            };
            buffers = s.buffers;
            handling = record { many = s.handling.many; within = s.handling.within };
            loss = s.loss;
          };
          later = later_refl p.world.nodes;
          size = refl;
          sent = refl;
          booked = still;
        }

  -- a message that was sent is handled
  pub handled_leads : (sender number : ℕ) (parcel : Parcel AppliedState) → parcel_of (sent_by p.world.nodes sender) number ≡ Some parcel → LeadsOn k p (with_handled sender number p)
  handled_leads sender number parcel is =
      let more : Handling = handled number (handling_of p sender) in
      let size = length-set p.handled (sender - 1) more in
      let many = s.handling.many in
      beside_leads (set p.handled (sender - 1) more) p.loss p.notes (record { many = size ∙ many; within = each }) s.loss
    where
      length_same : {X : Type 0} (n : ℕ) (x : X) → length (replicate n x) ≡ n
      length_same zero x = refl
      length_same (suc n) x = let h = length_same n x in omega (arith, h)

      within : number ≤ length (sent_by p.world.nodes sender)
      within = go number is where
        go : (number : ℕ) → parcel_of (sent_by p.world.nodes sender) number ≡ Some parcel → number ≤ length (sent_by p.world.nodes sender)
        go zero e = omega arith
        go (suc place) e = let h = slice_get_within (sent_by p.world.nodes sender) place parcel e in omega (arith, h)

      longer : (h : Handling) → length h ≤ length (sent_by p.world.nodes sender) → length (handled number h) ≤ length (sent_by p.world.nodes sender)
      longer h few =
          let a = length-set (padded number h) (number - 1) true in
          let b : length (padded number h) ≡ length h + length (replicate (number - length h) false) = length-append h (replicate (number - length h) false) in
          let c = length_same (number - length h) false in
          let d = within in
          omega (arith, a, b, c, d, few)

      here : (xs : List Handling) (i : ℕ) (x : Handling) (bound : ℕ) → length x ≤ bound → length (get_or xs i []) ≤ bound → length (get_or (set xs i x) i []) ≤ bound
      here [] i x bound h old = old
      here (y ∷ xs) zero x bound h old = h
      here (y ∷ xs) (suc i) x bound h old = here xs i x bound h old

      from_one : 1 ≤ sender
      from_one = go sender is where
        go : (n : ℕ) → parcel_of (sent_by p.world.nodes n) number ≡ Some parcel → 1 ≤ n
        go zero e = absurd (nothing number e) where
          nothing : (i : ℕ) → ◌≡◌ {A = Option (Parcel AppliedState)} (parcel_of [] i) (Some parcel) → ⊥
          nothing zero e' = cc
          nothing (suc i) e' = cc
        go (suc n) e = omega arith

      each : (other : ℕ) → 1 ≤ other → length (get_or (set p.handled (sender - 1) (handled number (handling_of p sender))) (other - 1) []) ≤ length (sent_by p.world.nodes other)
      each other first = ⊎_elim
          (λ (same : other ≡ sender).
          subst (λ z. length (get_or (set p.handled (sender - 1) (handled number (handling_of p sender))) (z - 1) []) ≤ length (sent_by p.world.nodes z)) (sym same)
          (here p.handled (sender - 1) (handled number (handling_of p sender)) (length (sent_by p.world.nodes sender))
          (longer (handling_of p sender) (s.handling.within sender from_one)) (s.handling.within sender from_one)))
          (λ (ne : other ≡ sender → ⊥).
          let apart : other - 1 ≢ sender - 1 = let one = from_one in omega (arith, first, one, ne) in
          subst (λ (h : Handling). length h ≤ length (sent_by p.world.nodes other)) (sym (get_or-set_other p.handled (sender - 1) (other - 1) (handled number (handling_of p sender)) [] apart)) (s.handling.within other first))
          (cases_eq other sender)
