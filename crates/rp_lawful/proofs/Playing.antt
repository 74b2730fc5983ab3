-- Each line leads a sound player on; so do all lines of a script.
use Rattle.std.proofs.Common.{◌≡◌, ℕ, zero, suc, ◌+◌, ◌-◌, ◌<◌, ◌≤◌, ◌^◌, Bool, true, false, cond, Option, None, Some, List, [], ◌∷◌, ◌++◌, length, replicate, Ok, refl, sym, ap, subst, ◌∙◌, arith}
use Rattle.std.specs.Prelude.{nat_lt, nat_le, ◌&&◌}
use Rattle.std.specs.List.{sum_by}
use Rattle.std.proofs.lemmas.List.{length-append, length-map}
use Rattle.rp_base.specs.ClientCounts.{one_more_of}
use Rattle.rp_base.specs.declared.ids.CmdId.{CmdId}
use Rattle.rp_base.proofs.ClientCountLaws.{none_counted}
use Rattle.rp_raftstep.specs.RaftState.{nodes_to}
use Rattle.rp_request.specs.Applied.{AppliedState}
use Rattle.rp_request.specs.Fits.{FitsRequest}
use Rattle.rp_request.specs.declared.requests.Request.{Request}
use Rattle.rp_request.specs.declared.outcomes.Refusal.{Refusal}
use Rattle.rp_request.specs.declared.outcomes.Refusal.TheVariants as refusals
use Rattle.rp_script.specs.Bounds.{Fits, IsNode, IsClient, FollowsIn, Follows, AllFollow, seen_after}
use Rattle.rp_script.specs.Seen.{Seen, unseen, after}
use Rattle.rp_script.specs.declared.lines.NumberedLine.{NumberedLine}
use Rattle.rp_script.specs.declared.lines.ScriptLine.{ScriptLine}
use Rattle.rp_script.specs.declared.lines.ScriptLine.TheVariants as lines
use Rattle.rp_events.specs.declared.answers.EventAnswer.{EventAnswer}
use Rattle.rp_events.specs.declared.answers.EventAnswer.TheVariants as answers
use Rattle.rp_events.specs.declared.parcels.Parcel.{Parcel}
use Rattle.rp_events.specs.declared.world_events.WorldEvent.{WorldEvent}
use Rattle.rp_events.specs.declared.world_events.WorldEvent.TheVariants as events
use Rattle.rp_events.specs.Nodes.{Node, parcel_of, first_node}
use Rattle.rp_events.specs.Worlds.{World, first_world, sent_by}
use Rattle.rp_events.specs.Lawful.{IsReached, was_refused}
use Rattle.rp_events.specs.Buffered.{has_live}
use Rattle.rp_journals.proofs.Growing.{later_trans, run_grows}
use Rattle.rp_journals.proofs.Asking.{first_sum}
use Rattle.rp_journals.proofs.Writing.{none_written}
use Rattle.rp_book.specs.declared.bookings.Booked.{Booked}
use Rattle.rp_book.specs.declared.bookings.Draw.{Draw}
use Rattle.rp_book.specs.declared.bookings.Draw.TheVariants.{Undrawn, Drawn, Published}
use Rattle.rp_book.specs.Books.{booking_of, latest_of}
use Rattle.rp_book.specs.Handling.{Handling}
use Rattle.rp_lines.specs.Players.{Player, Played, first_player, did, last_answer, noted, next_command, counted, weight_of}
use Rattle.rp_lines.specs.Commands.{asks, booking, following, goes_on, asks_and_goes_on, tries_again, draws_latest, is_waiting, is_undrawn, publishes_by, publishes_latest}
use Rattle.rp_lines.specs.Settling.{delivers, ticks}
use Rattle.rp_lines.specs.Scripts.{tells_refusal, tells, told_absent, does, flushes, played, played_all}
use Rattle.rp_report.specs.Notes.{absent_text, nothing_text, not_holder_text, not_refused_text, held_text, peek_text}
use Rattle.rp_lawful.specs.Sound.{Sound, IsSoundBooking}
use Rattle.rp_lawful.specs.Comings.{Comes, IsPlain}
use Rattle.rp_lawful.specs.Onward.{IsBookedAs, LeadsOn, LineLeadsOn, sent_after}
use Rattle.rp_lawful.specs.Playable.{cluster_at, IsFront, CanPlay}
use Rattle.rp_lawful.proofs.Buffers.{get_same, first_sound}
use Rattle.rp_lawful.proofs.Books.{latest_had}
use Rattle.rp_journals.proofs.Places.{AskedThere, asked_there}
use Rattle.rp_lawful.proofs.Keeping.{Keeps, leads_refl, kept_ok, then_keeps, split_then, if_keeps, repeated_keeps}
use Rattle.rp_lawful.proofs.Asks.{IsNext, AskLeads, asks_lead}
use Rattle.rp_lawful.proofs.Coming.{message_comes}
use Rattle.rp_lawful.proofs.Nexts.{room, next_is, further_is}
use Rattle.rp_lawful.proofs.Receivers.{receiver}
use Rattle.rp_lawful.proofs.Beside.{beside_leads}
use Rattle.rp_lawful.proofs.Lines.{behind, noted_leads, plain_keeps, comes_keeps, draws_keep, publishes_keep, goes_on_keeps, settles_keep, ask_keeps, still_node}

-- what is sound behind some lines is so behind more
pub raised : (k m : ℕ) (p : Player) → k ≤ m → Sound k p → Sound m p
raised k m p le s = record {
  reached = s.reached;
  journals = s.journals;
  events = s.events;
  weight_is = s.weight_is;
  clients = s.clients;
  counts = λ client. let c = s.counts client in omega (arith, c, le);
  book = record {
    apart = s.book.apart;
    booked = λ id b is.
        let x : IsSoundBooking k p id b = s.book.booked id b is in
        record {
          command = x.command;
          attempt = let a = x.attempt.0 in let z = x.attempt.1 in (a, omega (arith, z, le));
          node = x.node;
          range = x.range;
          request = x.request;
          asked = x.asked;
          follows = x.follows;
        };
    asked = s.book.asked;
    latest = s.book.latest;
  };
  buffers = s.buffers;
  handling = s.handling;
  loss = s.loss;
}

-- a line of parts that keep soundness leads on
module _ (k : ℕ) (p : Player) (s : Sound k p) where
  one_more : k ≤ k + 1
  one_more = omega arith

  plain_line : (line : ScriptLine) (q : Player) → sent_after p.sent line ≡ p.sent → LeadsOn k p q → LineLeadsOn k p line q
  plain_line line q same l = record { sound = raised k (k + 1) q one_more l.sound; later = l.later; size = l.size; sent = l.sent ∙ sym same }

  -- behind an attempt that was asked
  asked_line : (line : ScriptLine) (sent : List ℕ) (id : CmdId) (b : Booked) (q r : Player) → sent ≡ sent_after p.sent line → AskLeads k p sent id b q → LeadsOn (k + 1) q r → LineLeadsOn k p line r
  asked_line line sent id b q r same a l = record {
    sound = l.sound;
    later = later_trans p.world.nodes q.world.nodes r.world.nodes a.later l.later;
    size = l.size ∙ a.size;
    sent = l.sent ∙ a.sent_is ∙ same;
  }

  asks_on : (line : ScriptLine) (number : ℕ) (sent : List ℕ) (id : CmdId) (b : Booked) → sent ≡ sent_after p.sent line → IsNext k p sent id b → (r : Player) → asks_and_goes_on number id b (record p { sent = sent }) ≡ Ok r → LineLeadsOn k p line r
  asks_on line number sent id b same next r ok =
      let x = split_then (asks id b (record p { sent = sent })) (λ q. goes_on number id b (last_answer q b.node) q) r ok in
      let a : AskLeads k p sent id b x.0 = asks_lead k p s sent id b next x.0 x.1 in
      asked_line line sent id b x.0 r same a (goes_on_keeps (k + 1) x.0 a.sound number id b a.here (last_answer x.0 b.node) r x.2)

  -- an event at a range, with what its answer tells
  absent_leads : (number node range : ℕ) → LeadsOn k p (told_absent number node range p)
  absent_leads number node range = go (has_live p.world.nodes node range) where
    go : (v : Bool) → LeadsOn k p (cond v p (noted number absent_text p))
    go true = leads_refl k p s
    go false = noted_leads k p s number absent_text

tells_keep : (k : ℕ) (p : Player) → Sound k p → (number node range key : ℕ) (answer : EventAnswer) → Keeps k p (tells number node range key answer p)
tells_keep k p s number node range key answers.Done = kept_ok k p p (leads_refl k p s)
tells_keep k p s number node range key answers.Nothing = kept_ok k p _ (noted_leads k p s number nothing_text)
tells_keep k p s number node range key answers.Admitted = kept_ok k p p (leads_refl k p s)
tells_keep k p s number node range key (answers.Asked ask) = ask_keeps k p s number node range ask
tells_keep k p s number node range key (answers.Refused why) = kept_ok k p _ (go why) where
  go : (why : Refusal) → LeadsOn k p (tells_refusal number why p)
  go (refusals.NotLeaseHolder lease) = noted_leads k p s number (not_holder_text lease)
  go other = leads_refl k p s
tells_keep k p s number node range key (answers.LeaseHeld lease ticks) = kept_ok k p _ (noted_leads k p s number (held_text lease ticks))
tells_keep k p s number node range key (answers.Value value applied) = kept_ok k p _ (noted_leads k p s number (peek_text key value applied))

module _ (k : ℕ) (p : Player) (s : Sound k p) where
  does_keeps : (number node range key : ℕ) (e : WorldEvent) → IsPlain (length p.world.nodes) e → Keeps k p (does number node range key e p)
  does_keeps number node range key e is =
      let l : LeadsOn k p (told_absent number node range p) = absent_leads k p s number node range in
      behind k p (told_absent number node range p) _ l
      (then_keeps k (told_absent number node range p) (did e (told_absent number node range p)) (λ q. tells number node range key (last_answer q node) q)
      (plain_keeps k (told_absent number node range p) l.sound e (subst (λ n. IsPlain n e) (sym l.size) is))
      (λ q m. tells_keep k q m.sound number node range key (last_answer q node)))

  flushes_keep : (number node range : ℕ) → IsNode (length p.world.nodes) node → Keeps k p (flushes number node range p)
  flushes_keep number node range at =
      let l : LeadsOn k p (told_absent number node range p) = absent_leads k p s number node range in
      behind k p (told_absent number node range p) _ l
      (then_keeps k (told_absent number node range p) (did (events.Collect node range) (told_absent number node range p)) (did (events.Flush node range))
      (plain_keeps k (told_absent number node range p) l.sound (events.Collect node range) (still_node k p (told_absent number node range p) l node at))
      (λ q m. plain_keeps k q m.sound (events.Flush node range) (still_node k (told_absent number node range p) q m node (still_node k p (told_absent number node range p) l node at))))

  -- the latest attempt of a command, as it is booked
  latest_booked : (client seq : ℕ) (e : CmdId × Booked) → latest_of client seq p.book ≡ Some e → IsBookedAs p e.0 e.1
  latest_booked client seq e is = let h = latest_had p.book s.book.apart client seq e is in record { draw = e.1.draw; is = h.has }

  draws_latest_keeps : (number client seq : ℕ) (o : Option (CmdId × Booked)) → latest_of client seq p.book ≡ o → Keeps k p (draws_latest number o p)
  draws_latest_keeps number client seq None is = kept_ok k p _ (noted_leads k p s number nothing_text)
  draws_latest_keeps number client seq (Some e) is = if_keeps k p (is_waiting p.world.nodes e.0 e.1 && is_undrawn e.1.draw) _ _
      (draws_keep k p s number e.0 e.1 (latest_booked client seq e is))
      (kept_ok k p _ (noted_leads k p s number nothing_text))

  publishes_by_keeps : (number : ℕ) (id : CmdId) (b : Booked) → IsBookedAs p id b → (draw : Draw) → Keeps k p (publishes_by number id b draw p)
  publishes_by_keeps number id b is Undrawn = kept_ok k p _ (noted_leads k p s number nothing_text)
  publishes_by_keeps number id b is (Drawn place) = publishes_keep k p s id b is place
  publishes_by_keeps number id b is Published = kept_ok k p _ (noted_leads k p s number nothing_text)

  publishes_latest_keeps : (number client seq : ℕ) (o : Option (CmdId × Booked)) → latest_of client seq p.book ≡ o → Keeps k p (publishes_latest number o p)
  publishes_latest_keeps number client seq None is = kept_ok k p _ (noted_leads k p s number nothing_text)
  publishes_latest_keeps number client seq (Some e) is = publishes_by_keeps number e.0 e.1 (latest_booked client seq e is) e.1.draw

  delivers_keep : (number sender message : ℕ) (o : Option (Parcel AppliedState)) → parcel_of (sent_by p.world.nodes sender) message ≡ o → Keeps k p (delivers number sender message o p)
  delivers_keep number sender message None is = kept_ok k p _ (noted_leads k p s number nothing_text)
  delivers_keep number sender message (Some parcel) is = comes_keeps k p s sender message parcel is

  ticks_line_keeps : (node count : ℕ) → IsNode (length p.world.nodes) node → Keeps k p (ticks node count p)
  ticks_line_keeps node count at = repeated_keeps k count (did (events.Tick node)) p s (λ q l. plain_keeps k q l.sound (events.Tick node) (still_node k p q l node at))

  module _ (short : k + 1 < 2 ^ 16) where
    again_leads : (number node range client seq : ℕ) → IsNode (length p.world.nodes) node → range ≤ 7 → (o : Option (CmdId × Booked)) → latest_of client seq p.book ≡ o → (q : Player) → tries_again number node range o p ≡ Ok q
        → LineLeadsOn k p (lines.Again node range client seq) q
    again_leads number node range client seq at low None is q ok = plain_line k p s (lines.Again node range client seq) q refl (kept_ok k p _ (noted_leads k p s number not_refused_text) q ok)
    again_leads number node range client seq at low (Some e) is q ok = go (was_refused p.world.nodes e.0) refl ok where
      go : (v : Bool) → was_refused p.world.nodes e.0 ≡ v → cond v (asks_and_goes_on number (following e.0) (booking e.1.request node range) p) (Ok (noted number not_refused_text p)) ≡ Ok q
          → LineLeadsOn k p (lines.Again node range client seq) q
      go true refused ok' = asks_on k p s (lines.Again node range client seq) number p.sent (following e.0) (booking e.1.request node range) refl (further_is k p s client seq e.0 e.1 is node range short at low refused) q ok'
      go false refused ok' = plain_line k p s (lines.Again node range client seq) q refl (kept_ok k p _ (noted_leads k p s number not_refused_text) q ok')

    -- each line
    pub line_leads : (number : ℕ) (line : ScriptLine) → Fits (length p.world.nodes) p.sent line → (q : Player) → played number line p ≡ Ok q → LineLeadsOn k p line q
    line_leads number (lines.Cluster nodes) fits q ok = absurd fits
    line_leads number (lines.Send node range client request) fits q ok =
        asks_on k p s (lines.Send node range client request) number (one_more_of p.sent client) (next_command p client) (booking request node range) refl (next_is k p s node range client request short fits.0 fits.1 fits.2 fits.3) q ok
    line_leads number (lines.Admit node range client request) fits q ok =
        let a = asks_lead k p s (one_more_of p.sent client) (next_command p client) (booking request node range) (next_is k p s node range client request short fits.0 fits.1 fits.2 fits.3) q ok in
        record { sound = a.sound; later = a.later; size = a.size; sent = a.sent_is }
    line_leads number (lines.Again node range client seq) fits q ok = again_leads number node range client seq fits.0 fits.1 (latest_of client seq p.book) refl q ok
    line_leads number (lines.Draw client seq) fits q ok = plain_line k p s _ q refl (draws_latest_keeps number client seq (latest_of client seq p.book) refl q ok)
    line_leads number (lines.Publish client seq) fits q ok = plain_line k p s _ q refl (publishes_latest_keeps number client seq (latest_of client seq p.book) refl q ok)
    line_leads number (lines.Ask node range) fits q ok = plain_line k p s _ q refl (does_keeps number node range 0 (events.Ask node range) fits.0 q ok)
    line_leads number (lines.Transfer node range to) fits q ok = plain_line k p s _ q refl (does_keeps number node range 0 (events.Transfer node range to) (fits.0, fits.2) q ok)
    line_leads number (lines.Flush node range) fits q ok = plain_line k p s _ q refl (flushes_keep number node range fits.0 q ok)
    line_leads number (lines.Apply node range) fits q ok = plain_line k p s _ q refl (does_keeps number node range 0 (events.Apply node range) fits.0 q ok)
    line_leads number (lines.Cut node range) fits q ok = plain_line k p s _ q refl (does_keeps number node range 0 (events.Cut node range) fits.0 q ok)
    line_leads number (lines.Remove node range) fits q ok = plain_line k p s _ q refl (does_keeps number node range 0 (events.Remove node range) fits.0 q ok)
    line_leads number (lines.Restart node) fits q ok = plain_line k p s _ q refl (plain_keeps k p s (events.Restart node) fits q ok)
    line_leads number (lines.Tick node count) fits q ok = plain_line k p s _ q refl (ticks_line_keeps node count fits.0 q ok)
    line_leads number (lines.Deliver node message) fits q ok = plain_line k p s _ q refl (delivers_keep number node message (parcel_of (sent_by p.world.nodes node) message) refl q ok)
    line_leads number (lines.Peek node range key) fits q ok = plain_line k p s _ q refl (does_keeps number node range key (events.Peek node range key) fits.0 q ok)
    line_leads number (lines.Loss percent salt) fits q ok =
        plain_line k p s _ q refl (kept_ok k p _ (beside_leads k p s p.handled (record { percent = percent; salt = salt }) p.notes (record { many = s.handling.many; within = s.handling.within }) fits) q ok)
    line_leads number (lines.Settle rounds) fits q ok = plain_line k p s _ q refl (settles_keep k p s rounds q ok)
    line_leads number lines.End fits q ok = plain_line k p s _ q refl (kept_ok k p p (leads_refl k p s) q ok)

-- what is known of a script stands beside a player
pub record StandsBeside (s : Seen) (nodes : ℕ) (sent : List ℕ) : Type 0 where
  pub nodes_are : s.nodes ≡ Some nodes
  pub commands_are : s.commands ≡ sent

beside_fits : (s : Seen) (nodes : ℕ) (sent : List ℕ) (line : ScriptLine) → StandsBeside s nodes sent → Follows s line → Fits nodes sent line
beside_fits s nodes sent line b f =
    let h : FollowsIn (Some nodes) s.ended s.commands line = subst (λ o. FollowsIn o s.ended s.commands line) b.nodes_are f in
    subst (λ c. Fits nodes c line) b.commands_are h.1

beside_after : (s : Seen) (nodes : ℕ) (sent : List ℕ) (line : ScriptLine) → Fits nodes sent line → StandsBeside s nodes sent → StandsBeside (after s (Some line)) nodes (sent_after sent line)
beside_after s nodes sent (lines.Cluster n) fits b = absurd fits
beside_after s nodes sent (lines.Send node range client request) fits b = record { nodes_are = b.nodes_are; commands_are = ap (λ c. one_more_of c client) b.commands_are }
beside_after s nodes sent (lines.Admit node range client request) fits b = record { nodes_are = b.nodes_are; commands_are = ap (λ c. one_more_of c client) b.commands_are }
beside_after s nodes sent line fits b = record { nodes_are = b.nodes_are; commands_are = b.commands_are }

-- where lines lead
pub record Led (k nodes : ℕ) (s : Seen) (ls : List NumberedLine) (q : Player) : Type 0 where
  pub sound : Sound (k + length ls) q
  pub size : length q.world.nodes ≡ nodes
  pub beside : StandsBeside (seen_after s ls) nodes q.sent

pub lines_lead : (ls : List NumberedLine) (k nodes : ℕ) (p : Player) (s : Seen) → Sound k p → length p.world.nodes ≡ nodes → StandsBeside s nodes p.sent → AllFollow s ls → k + length ls < 2 ^ 16 → (q : Player) → played_all p ls ≡ Ok q
    → Led k nodes s ls q
lines_lead [] k nodes p s sound size b follow short q ok =
    let same : p ≡ q = some_ok p q ok in
    subst (λ r. Led k nodes s [] r) same (record { sound = raised k (k + 0) p (omega arith) sound; size = size; beside = b })
  where
    some_ok : (x y : Player) → ◌≡◌ {A = Played} (Ok x) (Ok y) → x ≡ y
    some_ok x y e = cc
lines_lead (l ∷ ls) k nodes p s sound size b follow short q ok =
    let x = split_then (played l.number l.line p) (λ r. played_all r ls) q ok in
    let fits : Fits nodes p.sent l.line = beside_fits s nodes p.sent l.line b follow.0 in
    let led : LineLeadsOn k p l.line x.0 = line_leads k p sound (omega (arith, short)) l.number l.line (subst (λ n. Fits n p.sent l.line) (sym size) fits) x.0 x.1 in
    let now : StandsBeside (after s (Some l.line)) nodes (x.0).sent = subst (StandsBeside (after s (Some l.line)) nodes) (sym led.sent) (beside_after s nodes p.sent l.line fits b) in
    let more = lines_lead ls (k + 1) nodes x.0 (after s (Some l.line)) led.sound (led.size ∙ size) now follow.1 (omega (arith, short)) q x.2 in
    record { sound = raised (k + 1 + length ls) (k + length (l ∷ ls)) q (omega arith) more.sound; size = more.size; beside = more.beside }

-- a player before its first line
module _ (nodes : ℕ) where
  numbers_length : (n : ℕ) → length (nodes_to n) ≡ n
  numbers_length zero = refl
  numbers_length (suc n) = let more = numbers_length n in length-append (nodes_to n) (suc n ∷ []) ∙ omega (arith, more)

  pub first_size : length (first_world nodes) ≡ nodes
  first_size = length-map (nodes_to nodes) (λ node. first_node node nodes) ∙ numbers_length nodes

  lengths : (n : ℕ) → length {A = Handling} (replicate n []) ≡ n
  lengths zero = refl
  lengths (suc n) = let more = lengths n in omega (arith, more)

  some_true : 1 ≤ nodes → nat_lt 0 nodes ≡ true
  some_true h = grind arith

  few_true : nodes ≤ 5 → nat_le nodes 5 ≡ true
  few_true h = grind arith

  pub first_reached : 1 ≤ nodes → nodes ≤ 5 → IsReached nodes (first_world nodes)
  first_reached some few = record { some = some_true some; few = few_true few; schedule = []; lawful = tt; reached = refl }

  pub first_sound_player : 1 ≤ nodes → nodes ≤ 5 → Sound 0 (first_player nodes)
  first_sound_player some few =
      let none : sum_by (λ (n : Node). length n.journal) (first_world nodes) ≡ 0 = first_sum (λ (n : Node). length n.journal) nodes (λ node. refl) (nodes_to nodes) in
      let light : sum_by (λ (n : Node). sum_by weight_of n.sent) (first_world nodes) ≡ 0 = first_sum (λ (n : Node). sum_by weight_of n.sent) nodes (λ node. refl) (nodes_to nodes) in
      record {
        reached = subst (λ n. IsReached n (first_world nodes)) (sym first_size) (first_reached some few);
        journals = omega (arith, none);
        events = omega arith;
        weight_is = omega (arith, light);
        clients = refl;
        counts = λ client. let c = none_counted client in omega (arith, c);
        book = record {
          apart = tt;
          booked = λ id b is. absurd (nothing id b is);
          asked = λ id is. let a : AskedThere (first_world nodes) id = asked_there (first_world nodes) id is in absurd (none_written nodes a.node a.place a.e a.is);
          latest = λ client seq c. let low = c.1.0 in let high = c.1.1 in let count = none_counted client in absurd (omega (arith, low, high, count));
        };
        buffers = first_sound nodes first_size;
        handling = record {
          many = lengths nodes ∙ sym first_size;
          within = λ sender from. subst (λ (h : Handling). length h ≤ length (sent_by (first_world nodes) sender)) (sym (get_same nodes [] (sender - 1))) (omega arith);
        };
        loss = (omega arith, omega arith);
      }
    where
      nothing : (id : CmdId) (b : Booked) → booking_of id [] ≡ Some b → ⊥
      nothing id b is = cc

-- lines in front, and those behind
follow_front : (xs ys : List NumberedLine) (s : Seen) → AllFollow s (xs ++ ys) → AllFollow s xs × AllFollow (seen_after s xs) ys
follow_front [] ys s h = (tt, h)
follow_front (x ∷ xs) ys s h = let more = follow_front xs ys (after s (Some x.line)) h.1 in ((h.0, more.0), more.1)

first_beside : (number nodes : ℕ) → StandsBeside (after (unseen false) (Some (cluster_at number nodes).line)) nodes (first_player nodes).sent
first_beside number nodes = record { nodes_are = refl; commands_are = refl }

-- the lines of a front, played
pub front_leads : (nodes : ℕ) (ls : List NumberedLine) → (f : IsFront nodes ls) → (p : Player) → played_all (first_player nodes) ls ≡ Ok p
    → Led 0 nodes (after (unseen false) (Some (cluster_at f.number nodes).line)) ls p
front_leads nodes ls f p ok =
    lines_lead ls 0 nodes (first_player nodes) (after (unseen false) (Some (cluster_at f.number nodes).line))
    (first_sound_player nodes f.follow.0.0 f.follow.0.1) (first_size nodes) (first_beside f.number nodes) f.follow.1 (let few = f.few in omega (arith, few)) p ok

module _ (nodes : ℕ) (p : Player) (l : NumberedLine) (c : CanPlay nodes p l) where
  abbrev seen : Seen
  seen = after (unseen false) (Some (cluster_at c.front.number nodes).line)

  parts : AllFollow seen c.lines × AllFollow (seen_after seen c.lines) (l ∷ [])
  parts = follow_front c.lines (l ∷ []) seen c.front.follow.1

  few_lines : length c.lines + 2 ≤ 65536
  few_lines = let few = c.front.few in let n = length-append c.lines (l ∷ []) in omega (arith, few, n)

  before : IsFront nodes c.lines
  before = record { number = c.front.number; follow = (c.front.follow.0, parts.0); few = let few = few_lines in omega (arith, few) }

  led : Led 0 nodes seen c.lines p
  led = front_leads nodes c.lines before p c.played

  pub can_sound : Sound (length c.lines) p
  can_sound = raised (0 + length c.lines) (length c.lines) p (omega arith) led.sound

  pub can_room : length c.lines + 1 < 2 ^ 16
  can_room = let few = few_lines in omega (arith, few)

  pub can_size : length p.world.nodes ≡ nodes
  can_size = led.size

  pub can_fits : Fits nodes p.sent l.line
  can_fits = beside_fits (seen_after seen c.lines) nodes p.sent l.line led.beside parts.1.0

-- a whole script
pub script_sound : (nodes : ℕ) (ls : List NumberedLine) → IsFront nodes ls → (p : Player) → played_all (first_player nodes) ls ≡ Ok p → Sound (length ls) p
script_sound nodes ls f p ok = raised (0 + length ls) (length ls) p (omega arith) (front_leads nodes ls f p ok).sound

pub script_reached : (nodes : ℕ) (ls : List NumberedLine) → IsFront nodes ls → (p : Player) → played_all (first_player nodes) ls ≡ Ok p → IsReached nodes p.world.nodes
script_reached nodes ls f p ok =
    let l = front_leads nodes ls f p ok in
    subst (λ n. IsReached n p.world.nodes) l.size l.sound.reached

-- a client's next command is asked
pub next_leads : (k : ℕ) (p : Player) → Sound k p → k + 1 < 2 ^ 16 → (node range client : ℕ) (request : Request) → IsNode (length p.world.nodes) node → range ≤ 7 → IsClient client → FitsRequest request
    → (q : Player) → asks (next_command p client) (booking request node range) (counted client p) ≡ Ok q
    → LineLeadsOn k p (lines.Admit node range client request) q × IsBookedAs q (next_command p client) (booking request node range)
next_leads k p s short node range client request at low is fits q ok =
    let a = asks_lead k p s (one_more_of p.sent client) (next_command p client) (booking request node range) (next_is k p s node range client request short at low is fits) q ok in
    (record { sound = a.sound; later = a.later; size = a.size; sent = a.sent_is }, a.here)

-- the attempt behind one that was refused is asked
pub further_leads : (k : ℕ) (p : Player) → Sound k p → k + 1 < 2 ^ 16 → (node range client seq : ℕ) (id : CmdId) (b : Booked) → IsNode (length p.world.nodes) node → range ≤ 7 → latest_of client seq p.book ≡ Some (id, b) → was_refused p.world.nodes id ≡ true
    → (q : Player) → asks (following id) (booking b.request node range) p ≡ Ok q → LeadsOn (k + 1) p q × IsBookedAs q (following id) (booking b.request node range)
further_leads k p s short node range client seq id b at low is refused q ok =
    let a = asks_lead k p s p.sent (following id) (booking b.request node range) (further_is k p s client seq id b is node range short at low refused) q ok in
    (record { sound = a.sound; later = a.later; size = a.size; sent = a.sent_is; booked = a.booked }, a.here)

-- each message of a reached world is for one of its nodes
pub for_a_node : (nodes : ℕ) (w : World) → IsReached nodes w → (sender number : ℕ) (parcel : Parcel AppliedState) → parcel_of (sent_by w sender) number ≡ Some parcel → IsNode nodes parcel.to
for_a_node nodes w r sender number parcel is =
    receiver nodes w r (first_size nodes) (subst (λ z. length z ≡ nodes) r.reached ((run_grows r.schedule (first_world nodes)).size ∙ first_size nodes)) sender number parcel is

-- so it comes
pub sent_comes : (k : ℕ) (p : Player) → Sound k p → (sender number : ℕ) (parcel : Parcel AppliedState) → parcel_of (sent_by p.world.nodes sender) number ≡ Some parcel → Comes p.world (events.Deliver parcel.to sender number)
sent_comes k p s sender number parcel is =
    message_comes (length p.world.nodes) p.world s.reached (room k p s) s.buffers sender number parcel is (for_a_node (length p.world.nodes) p.world.nodes s.reached sender number parcel is)
