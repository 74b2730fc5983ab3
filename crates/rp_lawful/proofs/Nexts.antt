-- What a sound player may ask next.
use Rattle.std.proofs.Common.{◌≡◌, ◌⊎◌, inl, inr, ℕ, zero, suc, ◌+◌, ◌-◌, ◌<◌, ◌≤◌, ◌^◌, Bool, true, false, Option, None, Some, length, get_or, refl, sym, ap, subst, ◌∙◌, arith}
use Rattle.std.specs.Prelude.{slice_get, nat_lt, not, ◌||◌, option_and_then}
use Rattle.std.specs.Option.{option_map_or}
use Rattle.std.proofs.lemmas.Bool.{cases_eq}
use Rattle.rp_base.specs.ClientCounts.{count_of, one_more_of}
use Rattle.rp_base.specs.declared.ids.CmdId.{CmdId}
use Rattle.rp_base.proofs.ClientCountLaws.{one_more_length, client_within, one_more_counted, others_counted, counts_grow, counts_bounded}
use Rattle.rp_base.proofs.IdLaws.{id_by_parts, same_itself}
use Rattle.rp_request.specs.Attempts.{previous}
use Rattle.rp_request.specs.Fits.{FitsId, FitsRequest}
use Rattle.rp_request.specs.Requests.{same_request}
use Rattle.rp_request.specs.declared.requests.Request.{Request}
use Rattle.rp_script.specs.Bounds.{IsNode, IsClient, IsCommand}
use Rattle.rp_events.specs.declared.journals.JournalEntry.{JournalEntry}
use Rattle.rp_events.specs.declared.journals.PastEvent.TheVariants as past
use Rattle.rp_events.specs.Nodes.{Node}
use Rattle.rp_events.specs.Worlds as worlds
use Rattle.rp_events.specs.Worlds.{World, node_of, is_admission_of, asked_at, was_asked, asked_request, asked_request_at, request_of}
use Rattle.rp_events.specs.Lawful.{Lawful, was_refused}
use Rattle.rp_journals.specs.Asked.{AskedOnce}
use Rattle.rp_journals.proofs.Growing.{one_node}
use Rattle.rp_journals.proofs.Asking.{written_asked, asked_once, any_at}
use Rattle.rp_journals.proofs.Telling.{found_place}
use Rattle.rp_journals.proofs.Waiting.{any_place, found_any}
use Rattle.rp_journals.proofs.Ending.{found_passes}
use Rattle.rp_journals.proofs.Itself.{both, request_itself}
use Rattle.rp_book.specs.declared.bookings.Booked.{Booked}
use Rattle.rp_book.specs.Books.{booking_of, latest_of}
use Rattle.rp_lines.specs.Players.{Player, next_command}
use Rattle.rp_lines.specs.Commands.{booking, following}
use Rattle.rp_lawful.specs.Sound.{Sound, IsSoundBooking, IsAskedAs, HasLatest}
use Rattle.rp_events.specs.declared.world_events.WorldEvent.TheVariants as events
use Rattle.rp_lawful.specs.Comings.{Comes, scene_at}
use Rattle.rp_lawful.proofs.Worlds.{all_events}
use Rattle.rp_lawful.proofs.Books.{IsHad, latest_had}
use Rattle.rp_lawful.proofs.Coming.{lawful_at, comes_as}
use Rattle.rp_lawful.proofs.Asks.{IsNext}

pub asked_so_at : (w : World) (id : CmdId) (b : Booked) → IsAskedAs w id b → (n : Node) → node_of w b.node ≡ Some n → asked_at id n ≡ true
asked_so_at w id b a n has = subst (λ (m : Node). asked_at id m ≡ true) (one_node w b.node a.n n a.has has) (any_at (is_admission_of id) a.n.journal a.place _ a.here (same_itself id))

pub asked_so_was : (w : World) (id : CmdId) (b : Booked) → IsAskedAs w id b → was_asked w id ≡ true
asked_so_was w id b a = written_asked w id b.node a.place _ (record { n = a.n; has = a.has; here = a.here }) (same_itself id)

some_entry : (x y : JournalEntry) → ◌≡◌ {A = Option JournalEntry} (Some x) (Some y) → x ≡ y
some_entry x y e = cc

-- and for its request
pub asked_so_request : (w : World) → AskedOnce w → (id : CmdId) (b : Booked) → IsAskedAs w id b → asked_request w id ≡ Some b.request
asked_so_request w once id b a = go b.node refl where
  entry : JournalEntry
  entry = record { event = past.Admit b.range id a.at; answer = a.answer }

  only : (other j : ℕ) (n : Node) (f : JournalEntry) → node_of w other ≡ Some n → slice_get n.journal j ≡ Some f → is_admission_of id f ≡ true → (other ≡ b.node) × (j ≡ a.place)
  only other j n f has here adm = once id b.node a.place entry (record { n = a.n; has = a.has; here = a.here }) (same_itself id) other j f (record { n = n; has = has; here = here }) adm

  at_node : asked_request_at id a.n ≡ Some b.request
  at_node =
      let f = found_any (is_admission_of id) a.n.journal a.place entry a.here (same_itself id) in
      let at = found_place (is_admission_of id) a.n.journal f.0 f.1 in
      let same = only b.node at.0 a.n f.0 a.has at.1 (found_passes (is_admission_of id) a.n.journal f.0 f.1) in
      let is : f.0 ≡ entry = some_entry f.0 entry (sym at.1 ∙ ap (slice_get a.n.journal) same.1 ∙ a.here) in
      ap (option_and_then (λ (e : JournalEntry). request_of a.n e.event)) f.1
      ∙ ap (λ (e : JournalEntry). request_of a.n e.event) is
      ∙ a.asked

  go : (node : ℕ) → b.node ≡ node → asked_request w id ≡ Some b.request
  go zero is = absurd (none_some (sym (ap (node_of w) is) ∙ a.has)) where
    none_some : ◌≡◌ {A = Option Node} None (Some a.n) → ⊥
    none_some e = cc
  go (suc place) is =
      let has : slice_get w place ≡ Some a.n = sym (ap (node_of w) is) ∙ a.has in
      let f = found_any (asked_at id) w place a.n has (any_at (is_admission_of id) a.n.journal a.place entry a.here (same_itself id)) in
      let at = found_place (asked_at id) w f.0 f.1 in
      let first = any_place (is_admission_of id) (f.0).journal (found_passes (asked_at id) w f.0 f.1) in
      let same = only (suc at.0) first.0 f.0 first.1 at.1 first.2 first.3 in
      let n_is : f.0 ≡ a.n = one_node w b.node f.0 a.n (subst (λ z. node_of w z ≡ Some f.0) same.0 at.1) a.has in
      ap (option_and_then (asked_request_at id)) f.1 ∙ ap (asked_request_at id) n_is ∙ at_node

none_by : (o : Option Booked) → ((b : Booked) → o ≡ Some b → ⊥) → o ≡ None
none_by None h = refl
none_by (Some b) h = absurd (h b refl)

false_by : (v : Bool) → (v ≡ true → ⊥) → v ≡ false
false_by true h = absurd (h refl)
false_by false h = refl

or_first : (a b : Bool) → a ≡ true → (a || b) ≡ true
or_first true b e = refl
or_first false b e = absurd cc

or_second : (a b : Bool) → b ≡ true → (a || b) ≡ true
or_second true b e = refl
or_second false b e = e

not_false : (v : Bool) → v ≡ false → not v ≡ true
not_false true e = absurd cc
not_false false e = refl

module _ (k : ℕ) (p : Player) (s : Sound k p) where
  pub room : all_events p.world.nodes ≤ 4194304
  room = let a = s.journals in let b = s.events in omega (arith, a, b)

  -- an attempt that the book lacks was not asked
  pub unbooked_unasked : (id : CmdId) → booking_of id p.book ≡ None → was_asked p.world.nodes id ≡ false
  unbooked_unasked id none = false_by (was_asked p.world.nodes id) (λ was. let x = s.book.asked id was in clash (booking_of id p.book) x.0 x.1 none) where
    clash : (o : Option Booked) (b : Booked) → o ≡ Some b → o ≡ None → ⊥
    clash o b e f = absurd cc

  -- a client's next command
  pub next_new : (client : ℕ) → booking_of (next_command p client) p.book ≡ None
  next_new client = none_by (booking_of (next_command p client) p.book) (λ b is.
      let c = (s.book.booked (next_command p client) b is).command in
      let high : count_of p.sent client + 1 ≤ count_of p.sent client = c.1.1 in
      omega (arith, high))

  pub next_lawful : (node range client : ℕ) (request : Request) → k + 1 < 2 ^ 16 → IsNode (length p.world.nodes) node → IsClient client → FitsRequest request
      → Lawful p.world.nodes (scene_at node (worlds.Admit range (next_command p client) request))
  next_lawful node range client request short at is fits =
      lawful_at p.world.nodes node (worlds.Admit range (next_command p client) request) at room
      (both _ _ (not_false _ (unbooked_unasked (next_command p client) (next_new client))) refl)
      (let high = is.1 in let count = s.counts client in (omega (arith, high), omega (arith, count, short), omega arith), fits)

  pub next_is : (node range client : ℕ) (request : Request) → k + 1 < 2 ^ 16 → IsNode (length p.world.nodes) node → range ≤ 7 → IsClient client → FitsRequest request
      → IsNext k p (one_more_of p.sent client) (next_command p client) (booking request node range)
  next_is node range client request short at low is fits = record {
    new = next_new client;
    clients = one_more_length p.sent client ∙ s.clients;
    counts = λ other. counts_bounded p.sent client k inside (λ i. subst (λ j. get_or p.sent j 0 ≤ k) (one_before i) (s.counts (i + 1))) (other - 1);
    grown = λ other. counts_grow p.sent client (other - 1) inside;
    commands = λ other seq c. by_client other seq c (cases_eq other client);
    command = (is, (omega arith, rw_count));
    attempt = (omega arith, omega arith);
    last = λ other x has of seq_is.
        let c = (s.book.booked other x has).command in
        let high : other.seq ≤ count_of p.sent other.client = c.1.1 in
        let same : count_of p.sent other.client ≡ count_of p.sent client = ap (count_of p.sent) of in
        let it : other.seq ≡ count_of p.sent client + 1 = seq_is in
        absurd (omega (arith, high, same, it));
    node = at;
    range = low;
    request = fits;
    follows = λ later. absurd (omega (arith, later));
    lawful = next_lawful node range client request short at is fits;
  } where
    one_before : (i : ℕ) → i + 1 - 1 ≡ i
    one_before i = omega arith

    inside : client - 1 < length p.sent
    inside = client_within p.sent client s.clients is.0 is.1

    now : count_of (one_more_of p.sent client) client ≡ count_of p.sent client + 1
    now = one_more_counted p.sent client inside

    rw_count : count_of p.sent client + 1 ≤ count_of (one_more_of p.sent client) client
    rw_count = let e = now in omega (arith, e)

    by_client : (other seq : ℕ) → IsCommand (one_more_of p.sent client) other seq → (other ≡ client) ⊎ (other ≡ client → ⊥) → IsCommand p.sent other seq ⊎ ((client ≡ other) × (count_of p.sent client + 1 ≡ seq))
    by_client other seq c (inl same) = by_seq (cases_eq seq (count_of p.sent client + 1)) where
      by_seq : (seq ≡ count_of p.sent client + 1) ⊎ (seq ≡ count_of p.sent client + 1 → ⊥) → IsCommand p.sent other seq ⊎ ((client ≡ other) × (count_of p.sent client + 1 ≡ seq))
      by_seq (inl last) = inr (sym same, sym last)
      by_seq (inr less) =
          let high : seq ≤ count_of (one_more_of p.sent client) other = c.1.1 in
          let a : count_of (one_more_of p.sent client) other ≡ count_of (one_more_of p.sent client) client = ap (count_of (one_more_of p.sent client)) same in
          let b : count_of p.sent other ≡ count_of p.sent client = ap (count_of p.sent) same in
          let e = now in
          inl (c.0, (c.1.0, omega (arith, high, a, b, e, less)))
    by_client other seq c (inr ne) = inl (c.0, (c.1.0, subst (λ n. seq ≤ n) (others_counted p.sent client other is.0 c.0.0 ne) c.1.1))

  pub booked_fits : (id : CmdId) (b : Booked) → IsSoundBooking k p id b → k + 1 < 2 ^ 16 → FitsId id × FitsId (following id)
  booked_fits id b x short =
      let c = x.command in
      let high = c.0.1 in
      let at = c.1.1 in
      let count = s.counts id.client in
      let few = x.attempt.1 in
      ((omega (arith, high), omega (arith, at, count, short), omega (arith, few, short)), (omega (arith, high), omega (arith, at, count, short), omega (arith, few, short)))

  -- a command's latest attempt, and the one behind it
  module _ (client seq : ℕ) (id : CmdId) (b : Booked) (latest : latest_of client seq p.book ≡ Some (id, b)) where
    had : IsHad p.book client seq (id, b)
    had = latest_had p.book s.book.apart client seq (id, b) latest

    mine : IsSoundBooking k p id b
    mine = s.book.booked id b had.has

    command : IsCommand p.sent client seq
    command = subst (λ n. IsCommand p.sent client n) had.seq_is (subst (λ n. IsCommand p.sent n id.seq) had.client_is mine.command)

    some_entry_is : (x y : CmdId × Booked) → ◌≡◌ {A = Option (CmdId × Booked)} (Some x) (Some y) → x ≡ y
    some_entry_is x y e = cc

    last : (other : CmdId) (x : Booked) → booking_of other p.book ≡ Some x → other.client ≡ client → other.seq ≡ seq → other.attempt ≤ id.attempt
    last other x is of at =
        let h : HasLatest p client seq = s.book.latest client seq command in
        subst (λ (e : CmdId × Booked). other.attempt ≤ e.0.attempt) (some_entry_is h.entry (id, b) (sym h.is ∙ latest)) (h.latest.last other x is of at)

    pub further_new : booking_of (following id) p.book ≡ None
    further_new = none_by (booking_of (following id) p.book) (λ x is.
        let high : id.attempt + 1 ≤ id.attempt = last (following id) x is had.client_is had.seq_is in
        omega (arith, high))

    back : previous (following id) ≡ id
    back = id_by_parts (previous (following id)) id refl refl (omega arith)

    pub further_lawful : (node range : ℕ) → k + 1 < 2 ^ 16 → IsNode (length p.world.nodes) node → was_refused p.world.nodes id ≡ true → Lawful p.world.nodes (scene_at node (worlds.Admit range (following id) b.request))
    further_lawful node range short at refused =
        lawful_at p.world.nodes node (worlds.Admit range (following id) b.request) at room
        (both _ _ (not_false _ (unbooked_unasked (following id) further_new))
        (or_second _ _ (both _ _ (both _ _ later_than refused_before) same_before))) ((booked_fits id b mine short).1, mine.request) where
          later_than : nat_lt 1 (id.attempt + 1) ≡ true
          later_than = let one = mine.attempt.0 in above_one (id.attempt + 1) (omega (arith, one)) where
            above_one : (n : ℕ) → 1 < n → nat_lt 1 n ≡ true
            above_one n h = grind arith

          refused_before : was_refused p.world.nodes (previous (following id)) ≡ true
          refused_before = subst (λ i. was_refused p.world.nodes i ≡ true) (sym back) refused

          same_before : option_map_or (same_request b.request) (asked_request p.world.nodes (previous (following id))) false ≡ true
          same_before =
              let is : asked_request p.world.nodes id ≡ Some b.request = asked_so_request p.world.nodes (asked_once (length p.world.nodes) p.world.nodes s.reached) id b mine.asked in
              ap (λ i. option_map_or (same_request b.request) (asked_request p.world.nodes i) false) back
              ∙ ap (λ o. option_map_or (same_request b.request) o false) is ∙ request_itself b.request

    pub further_is : (node range : ℕ) → k + 1 < 2 ^ 16 → IsNode (length p.world.nodes) node → range ≤ 7 → was_refused p.world.nodes id ≡ true → IsNext k p p.sent (following id) (booking b.request node range)
    further_is node range short at low refused = record {
      new = further_new;
      clients = s.clients;
      counts = λ other. let c = s.counts other in omega (arith, c);
      grown = λ other. omega arith;
      commands = λ other n c. inl c;
      command = mine.command;
      attempt = (omega arith, let few = mine.attempt.1 in omega (arith, few));
      last = λ other x is of seq_is. let l = last other x is (of ∙ had.client_is) (seq_is ∙ had.seq_is) in omega (arith, l);
      node = at;
      range = low;
      request = mine.request;
      follows = λ later. record {
        before = b;
        is = subst (λ i. booking_of i p.book ≡ Some b) (sym back) had.has;
        same = refl;
        refused = subst (λ i. was_refused p.world.nodes i ≡ true) (sym back) refused;
      };
      lawful = further_lawful node range short at refused;
    }

-- both events come
pub next_comes : (k : ℕ) (p : Player) → Sound k p → k + 1 < 2 ^ 16 → (node range client : ℕ) (request : Request) → IsNode (length p.world.nodes) node → IsClient client → FitsRequest request
    → Comes p.world (events.Admit node range (next_command p client) request)
next_comes k p s short node range client request at is fits =
    record { comes = comes_as (length p.world.nodes) p.world s.reached node (worlds.Admit range (next_command p client) request) (next_lawful k p s node range client request short at is fits) }

pub further_comes : (k : ℕ) (p : Player) → Sound k p → k + 1 < 2 ^ 16 → (node range client seq : ℕ) (id : CmdId) (b : Booked) → IsNode (length p.world.nodes) node → latest_of client seq p.book ≡ Some (id, b) → was_refused p.world.nodes id ≡ true
    → Comes p.world (events.Admit node range (following id) b.request)
further_comes k p s short node range client seq id b at is refused =
    record { comes = comes_as (length p.world.nodes) p.world s.reached node (worlds.Admit range (following id) b.request) (further_lawful k p s client seq id b is node range short at refused) }

-- what is booked fits, and so does the attempt behind it
pub fits_both : (k : ℕ) (p : Player) → Sound k p → (id : CmdId) (b : Booked) → booking_of id p.book ≡ Some b → k + 1 < 2 ^ 16 → FitsId id × FitsId (following id)
fits_both k p s id b is short = booked_fits k p s id b (s.book.booked id b is) short
