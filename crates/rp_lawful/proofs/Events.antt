-- What an event of a sound player leaves.
use Rattle.std.proofs.Common.{◌≡◌, ◌⊎◌, ℕ, ◌+◌, ◌≤◌, Bool, true, false, cond, Option, Some, List, [], ◌∷◌, ◌++◌, length, min, Ok, Err, refl, sym, ap, subst, ◌∙◌, arith}
use Rattle.std.specs.Prelude.{nat_lt, ◌==◌}
use Rattle.std.proofs.lemmas.Bool.{eqb-false}
use Rattle.rp_base.specs.ClientCounts.{count_of}
use Rattle.rp_base.specs.declared.ids.CmdId.{CmdId}
use Rattle.rp_base.specs.declared.limits.Which.TheVariants as which
use Rattle.rp_request.specs.Attempts.{previous}
use Rattle.rp_events.specs.declared.world_events.WorldEvent.{WorldEvent}
use Rattle.rp_events.specs.Worlds.{World, Scene, sent_by, happens, was_asked}
use Rattle.rp_events.specs.Lawful.{Lawful, IsReached, IsLater, was_refused}
use Rattle.rp_events.specs.Buffered.{Buffered, buffered_step}
use Rattle.rp_journals.specs.Growth.{Begins, WorldGrows}
use Rattle.rp_journals.proofs.Growing.{reached_later, scene_grows, sent_grows}
use Rattle.rp_journals.proofs.Writing.{later_scene}
use Rattle.rp_journals.proofs.Asking.{Admitting}
use Rattle.rp_book.specs.declared.bookings.Booked.{Booked}
use Rattle.rp_book.specs.declared.bookings.Draw.{Draw}
use Rattle.rp_book.specs.Books.{booking_of}
use Rattle.rp_lines.specs.Players.{Player, Played, did, weighed, weight, most_events, most_weight, most_count}
use Rattle.rp_lines.specs.Settling.{handling_of}
use Rattle.rp_lawful.specs.Sound.{Sound, IsSoundBooking, FollowsRefused, AreSoundBuffers, IsSoundHandling}
use Rattle.rp_lawful.specs.Onward.{IsBookedAs}
use Rattle.rp_lawful.proofs.Worlds.{all_events, events_scene, asked_scene, asked_as_stays, refused_stays}
use Rattle.rp_lawful.proofs.Coming.{Leaves}

-- a player after an event
abbrev pub after_event : Buffered → Player → Player
after_event b p = record p { world = b; events = p.events + 1 }

-- where an event ends well: it was counted, and what messages weigh is within the limit
pub record Counted (e : WorldEvent) (p q : Player) : Type 0 where
  pub is : q ≡ after_event (buffered_step p.world e) p
  pub left : (p.events ≡ most_events → ⊥)
  pub weighs : weight (buffered_step p.world e).nodes ≤ most_weight

some_ok : (p q : Player) → ◌≡◌ {A = Played} (Ok p) (Ok q) → p ≡ q
some_ok p q e = cc

not_more : (n bound : ℕ) → nat_lt bound n ≡ false → n ≤ bound
not_more n bound h = grind arith

pub counted_is : (e : WorldEvent) (p q : Player) → did e p ≡ Ok q → Counted e p q
counted_is e p q is = go (p.events == most_events) refl is where
  next : Player
  next = after_event (buffered_step p.world e) p

  by_weight : (p.events ≡ most_events → ⊥) → (v : Bool) → nat_lt most_weight (weight next.world.nodes) ≡ v
      → ◌≡◌ {A = Played} (cond v (Err (record { which = which.Weight; count = min (weight next.world.nodes) most_count })) (Ok next)) (Ok q) → Counted e p q
  by_weight left true w e' = absurd cc
  by_weight left false w e' = record { is = sym (some_ok next q e'); left = left; weighs = not_more (weight next.world.nodes) most_weight w }

  go : (v : Bool) → (p.events == most_events) ≡ v → ◌≡◌ {A = Played} (cond v (Err (record { which = which.Events; count = most_events })) (weighed next)) (Ok q) → Counted e p q
  go true v e' = absurd cc
  go false v e' = by_weight (eqb-false p.events most_events v) (nat_lt most_weight (weight next.world.nodes)) refl e'

-- the book on the way from one player to another: each attempt that it had it has, for the same request at
-- the same place
pub record BookGrows (p q : Player) : Type 0 where
  pub grows : WorldGrows p.world.nodes q.world.nodes
  pub refused : (id : CmdId) → was_refused p.world.nodes id ≡ true → was_refused q.world.nodes id ≡ true
  pub sent : (client : ℕ) → count_of p.sent client ≤ count_of q.sent client
  pub booked : (id : CmdId) (b : Booked) → IsBookedAs p id b → IsBookedAs q id b

some_booked : (a b : Booked) → ◌≡◌ {A = Option Booked} (Some a) (Some b) → a ≡ b
some_booked a b e = cc

pub booked_itself : (p : Player) (id : CmdId) (b : Booked) → booking_of id p.book ≡ Some b → IsBookedAs p id b
booked_itself p id b is = record { draw = b.draw; is = is }

-- what is booked soundly is so later on
pub booking_on : (k m : ℕ) (p q : Player) → k ≤ m → BookGrows p q → (id : CmdId) (b : Booked) → IsSoundBooking k p id b → IsSoundBooking m q id b
booking_on k m p q le g id b s = record {
  command =
      let c = s.command in
      let low = c.1.0 in
      let high = c.1.1 in
      let more = g.sent id.client in
      (c.0, (low, omega (arith, high, more)));
  attempt = let a = s.attempt.0 in let z = s.attempt.1 in (a, omega (arith, z, le));
  node = let a = s.node.0 in let z = s.node.1 in let size = g.grows.size in (a, omega (arith, z, size));
  range = s.range;
  request = s.request;
  asked = asked_as_stays p.world.nodes q.world.nodes g.grows id b s.asked;
  follows = λ later.
      let f : FollowsRefused p id b = s.follows later in
      let x : IsBookedAs q (previous id) f.before = g.booked (previous id) f.before (booked_itself p (previous id) f.before f.is) in
      record { before = record f.before { draw = x.draw }; is = x.is; same = f.same; refused = g.refused (previous id) f.refused };
}

-- and however far the attempt has come in its buffer
pub redrawn : (k : ℕ) (p : Player) (id : CmdId) (b : Booked) (draw : Draw) → IsSoundBooking k p id b → IsSoundBooking k p id (record b { draw = draw })
redrawn k p id b draw s = record {
  command = s.command;
  attempt = s.attempt;
  node = s.node;
  range = s.range;
  request = s.request;
  asked = record { n = s.asked.n; has = s.asked.has; place = s.asked.place; at = s.asked.at; answer = s.asked.answer; here = s.asked.here; asked = s.asked.asked };
  follows = λ later. let f = s.follows later in record { before = f.before; is = f.is; same = f.same; refused = f.refused };
}

-- what was handled stays within what was sent
pub handling_on : (p : Player) (w : World) → WorldGrows p.world.nodes w → IsSoundHandling p → (b : Buffered) → b.nodes ≡ w → (events : ℕ) → IsSoundHandling (record p { world = b; events = events })
handling_on p w g s b is events = record {
  many = s.many ∙ sym (ap length is ∙ g.size);
  within = λ sender from.
      let h = s.within sender from in
      let x : Begins (sent_by p.world.nodes sender) (sent_by w sender) = sent_grows p.world.nodes w g sender in
      let more : length (sent_by p.world.nodes sender) ≤ length (sent_by w sender) = begun_longer (sent_by p.world.nodes sender) (sent_by w sender) x in
      subst (λ z. length (handling_of p sender) ≤ length (sent_by z sender)) (sym is) (omega (arith, h, more));
} where
  append_longer : {X : Type 0} (xs ys : List X) → length xs ≤ length (xs ++ ys)
  append_longer [] ys = omega arith
  append_longer (x ∷ xs) ys = let more = append_longer xs ys in omega (arith, more)

  begun_longer : {X : Type 0} (xs ys : List X) → Begins xs ys → length xs ≤ length ys
  begun_longer {X} xs ys b = subst (λ (l : List X). length xs ≤ length l) (sym b.is) (append_longer xs b.more)

-- the nodes that a lawful event leaves
pub record NodesOn (p : Player) (x : Scene) (b : Buffered) : Type 0 where
  pub later : IsLater p.world.nodes b.nodes
  pub size : length b.nodes ≡ length p.world.nodes
  pub grows : WorldGrows p.world.nodes b.nodes
  pub reached : IsReached (length b.nodes) b.nodes
  pub events : all_events b.nodes ≤ p.events + 1
  pub buffers : AreSoundBuffers b
  pub refused : (id : CmdId) → was_refused p.world.nodes id ≡ true → was_refused b.nodes id ≡ true
  pub asked : (id : CmdId) → was_asked b.nodes id ≡ true → (was_asked p.world.nodes id ≡ true) ⊎ Admitting id x.what

pub nodes_on : (k : ℕ) (p : Player) → Sound k p → (x : Scene) → Lawful p.world.nodes x → (b : Buffered) → Leaves p.world x b → NodesOn p x b
nodes_on k p s x l b leaves =
    let w : World = p.world.nodes in
    let v : World = happens w x in
    let later : IsLater w v = later_scene w x l in
    let grows : WorldGrows w v = scene_grows w x in
    let some : b.nodes ≡ v = leaves.nodes_are in
    let on : IsLater w b.nodes = subst (IsLater w) (sym some) later in
    let size : length b.nodes ≡ length w = ap length some ∙ grows.size in
    record {
      later = on;
      size = size;
      grows = subst (WorldGrows w) (sym some) grows;
      reached = subst (λ n. IsReached n b.nodes) (sym size) (reached_later (length w) w b.nodes s.reached on);
      events =
          let few = s.journals in
          let more : all_events v ≤ all_events w + 1 = events_scene w x in
          subst (λ z. all_events z ≤ p.events + 1) (sym some) (omega (arith, few, more));
      buffers = leaves.buffers_are s.buffers grows.size;
      refused = refused_stays (length w) w b.nodes s.reached on;
      asked = λ id is. asked_scene w x id (subst (λ z. was_asked z id ≡ true) some is);
    }
