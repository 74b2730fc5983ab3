-- Each part of each line keeps soundness.
use Rattle.std.proofs.Common.{◌≡◌, inl, ℕ, zero, suc, ◌≤◌, Bool, true, false, Option, None, Some, List, [], ◌∷◌, ◌++◌, length, Ok, refl, sym, ap, subst, ◌∙◌, arith}
use Rattle.std.specs.Prelude.{◌&&◌}
use Rattle.std.specs.List.{AllByRecursion}
use Rattle.rp_base.specs.declared.ids.CmdId.{CmdId}
use Rattle.rp_base.specs.declared.items.Item.{Item}
use Rattle.rp_base.specs.declared.items.Item.TheVariants as items
use Rattle.rp_base.specs.declared.leases.LeaseAsk.{LeaseAsk}
use Rattle.rp_bufcore.specs.Buffers.{Buffer, can_draw, after_draw, after_publish}
use Rattle.rp_raftstep.specs.RaftState.{nodes_to}
use Rattle.rp_request.specs.Applied.{AppliedState}
use Rattle.rp_script.specs.Bounds.{IsNode}
use Rattle.rp_events.specs.declared.answers.EventAnswer.{EventAnswer}
use Rattle.rp_events.specs.declared.answers.EventAnswer.TheVariants as answers
use Rattle.rp_events.specs.declared.parcels.Parcel.{Parcel}
use Rattle.rp_events.specs.declared.world_events.WorldEvent.{WorldEvent}
use Rattle.rp_events.specs.declared.world_events.WorldEvent.TheVariants as events
use Rattle.rp_events.specs.Nodes.{parcel_of, range_numbers}
use Rattle.rp_events.specs.Worlds as worlds
use Rattle.rp_events.specs.Worlds.{World, Happening, Scene, sent_by}
use Rattle.rp_events.specs.Buffered.{Buffered, at_node, changed, has_live}
use Rattle.rp_events.specs.Lawful.{is_lawful, happens_if}
use Rattle.rp_journals.proofs.Asking.{Admitting}
use Rattle.rp_journals.proofs.Growing.{later_refl, world_refl}
use Rattle.rp_journals.proofs.Lists.{all_push, all_weaker}
use Rattle.rp_book.specs.declared.bookings.Booked.{Booked}
use Rattle.rp_book.specs.declared.bookings.Draw.{Draw}
use Rattle.rp_book.specs.declared.bookings.Draw.TheVariants.{Undrawn, Drawn, Published}
use Rattle.rp_book.specs.Books.{booking_of, by_attempt}
use Rattle.rp_lines.specs.Players.{Player, Played, did, noted}
use Rattle.rp_lines.specs.Commands.{buffer_at, publishes, draws, publishes_drawn, publishes_booked, draws_and_publishes, goes_on, is_waiting}
use Rattle.rp_lines.specs.Settling.{with_handled, comes, for_each, ticks, is_latest, puts, puts_all, flushes_live, ticks_and_flushes, is_lost_here, passes, passes_numbered, passes_all, unhandled_of, left_at, applies_range, applies_all, node_numbers, round, settles}
use Rattle.rp_lines.specs.Scripts.{puts_ask}
use Rattle.rp_report.specs.Notes.{full_text}
use Rattle.rp_lawful.specs.Sound.{Sound, IsBufferRun}
use Rattle.rp_lawful.specs.Comings.{ComesBy, IsPlain, scene_at, node_in, happening_of}
use Rattle.rp_lawful.specs.Onward.{IsBookedAs, LeadsOn}
use Rattle.rp_lawful.proofs.Buffers.{changed_sound, drawn_run, published_run}
use Rattle.rp_lawful.proofs.Books.{by_attempt_had}
use Rattle.rp_lawful.proofs.Coming.{plain_comes}
use Rattle.rp_lawful.proofs.Keeping.{Keeps, leads_refl, leads_trans, kept_ok, then_keeps, if_keeps, each_keeps, repeated_keeps, all_of, all_at}
use Rattle.rp_lawful.proofs.Events.{Counted, counted_is, NodesOn}
use Rattle.rp_lawful.proofs.Beside.{beside_leads, event_leads, event_keeps, draw_leads, handled_leads}
use Rattle.rp_lawful.proofs.Nexts.{room}

-- something that admits
abbrev is_admit : Happening → Bool
is_admit (worlds.Admit range id request) = true
is_admit _ = false

admitting_admits : (id : CmdId) (what : Happening) → Admitting id what → is_admit what ≡ false → ⊥
admitting_admits id what a e = clash (ap is_admit (sym a.is) ∙ e) where
  clash : ◌≡◌ {A = Bool} true false → ⊥
  clash f = cc

by_happening : (mine what : Happening) → ◌≡◌ {A = Option Happening} (Some mine) (Some what) → is_admit mine ≡ false → is_admit what ≡ false
by_happening mine what f e = ap is_admit (sym (some_is mine what f)) ∙ e where
  some_is : (x y : Happening) → ◌≡◌ {A = Option Happening} (Some x) (Some y) → x ≡ y
  some_is x y g = cc

-- a plain event admits nothing
quiet : (b : Buffered) (nodes : ℕ) (e : WorldEvent) → IsPlain nodes e → (what : Happening) → happening_of b e ≡ Some what → is_admit what ≡ false
quiet b nodes (events.Admit node range id request) is what f = absurd is
quiet b nodes (events.Ask node range) is what f = by_happening _ what f refl
quiet b nodes (events.Transfer node range to) is what f = by_happening _ what f refl
quiet b nodes (events.Collect node range) is what f = by_happening _ what f refl
quiet b nodes (events.Flush node range) is what f = by_happening _ what f refl
quiet b nodes (events.Tick node) is what f = by_happening _ what f refl
quiet b nodes (events.Deliver node from number) is what f = absurd is
quiet b nodes (events.Apply node range) is what f = by_happening _ what f refl
quiet b nodes (events.Cut node range) is what f = by_happening _ what f refl
quiet b nodes (events.Remove node range) is what f = by_happening _ what f refl
quiet b nodes (events.Peek node range key) is what f = by_happening _ what f refl
quiet b nodes (events.Restart node) is what f = by_happening _ what f refl
quiet b nodes (events.Round node) is what f = by_happening _ what f refl
quiet b nodes (events.Draw node range) is what f = absurd is
quiet b nodes (events.Publish node range place item) is what f = absurd is

-- the list of nodes holds nodes
numbers_within : (m n : ℕ) → n ≤ m → AllByRecursion (λ (x : ℕ). IsNode m x) (nodes_to n)
numbers_within m zero le = tt
numbers_within m (suc n) le = all_push (λ (x : ℕ). IsNode m x) (nodes_to n) (suc n) (numbers_within m n (omega (arith, le))) (omega arith, omega (arith, le))

module _ (k : ℕ) where
  -- from where a change led a part keeps
  pub behind : (p q : Player) (result : Played) → LeadsOn k p q → Keeps k q result → Keeps k p result
  behind p q result l keeps r ok = leads_trans k p q r l (keeps r ok)

  stays : (p : Player) → Sound k p → Keeps k p (Ok p)
  stays p s = kept_ok k p p (leads_refl k p s)

  pub noted_leads : (p : Player) → Sound k p → (line : ℕ) (text : List ℕ) → LeadsOn k p (noted line text p)
  noted_leads p s line text = beside_leads k p s p.handled p.loss (p.notes ++ record { line = line; text = text } ∷ []) s.handling s.loss

  pub plain_keeps : (p : Player) → Sound k p → (e : WorldEvent) → IsPlain (length p.world.nodes) e → Keeps k p (did e p)
  plain_keeps p s e is = go (happening_of p.world e) refl (plain_comes (length p.world.nodes) p.world s.reached (room k p s) s.buffers e is).comes where
    go : (o : Option Happening) → happening_of p.world e ≡ o → ComesBy p.world (node_in e) o → Keeps k p (did e p)
    go None at c = absurd c
    go (Some what) at c = event_keeps k p s e what at c.lawful (λ id a. admitting_admits id what a (quiet p.world (length p.world.nodes) e is what at))

  -- an event of a buffer alone
  abbrev nothing_happens : Scene
  nothing_happens = scene_at 0 worlds.Tick

  buffer_on : (p : Player) → Sound k p → (node range : ℕ) (change : Buffer → Buffer) → ((x : Buffer) → IsBufferRun x → IsBufferRun (change x)) → NodesOn p nothing_happens (changed p.world node range change)
  buffer_on p s node range change keeps = record {
    later = later_refl p.world.nodes;
    size = refl;
    grows = world_refl p.world.nodes;
    reached = s.reached;
    events = let few = s.journals in omega (arith, few);
    buffers = changed_sound p.world node range change keeps s.buffers;
    refused = λ id is. is;
    asked = λ id is. inl is;
  }

  tick_admits_nothing : (id : CmdId) → Admitting id worlds.Tick → ⊥
  tick_admits_nothing id a = admitting_admits id worlds.Tick a refl

  pub draw_keeps : (p : Player) → Sound k p → (node range : ℕ) → Keeps k p (did (events.Draw node range) p)
  draw_keeps p s node range q ok =
      let c : Counted (events.Draw node range) p q = counted_is (events.Draw node range) p q ok in
      subst (LeadsOn k p) (sym c.is) (event_leads k p s nothing_happens (changed p.world node range after_draw) (buffer_on p s node range after_draw drawn_run) tick_admits_nothing c.left c.weighs)

  pub publish_keeps : (p : Player) → Sound k p → (node range place : ℕ) (item : Item) → Keeps k p (did (events.Publish node range place item) p)
  publish_keeps p s node range place item q ok =
      let c : Counted (events.Publish node range place item) p q = counted_is (events.Publish node range place item) p q ok in
      subst (LeadsOn k p) (sym c.is)
      (event_leads k p s nothing_happens (changed p.world node range (λ buffer. after_publish buffer place item)) (buffer_on p s node range (λ buffer. after_publish buffer place item) (published_run place item)) tick_admits_nothing c.left c.weighs)

  -- an event that is skipped
  skipped_on : (p : Player) → Sound k p → (node : ℕ) (what : Happening) → is_lawful p.world.nodes (scene_at node what) ≡ false → NodesOn p nothing_happens (at_node p.world node what)
  skipped_on p s node what l = subst (λ (w : World). NodesOn p nothing_happens (record p.world { nodes = w })) (sym (ap (λ v. happens_if v p.world.nodes (scene_at node what)) l)) (record {
    later = later_refl p.world.nodes;
    size = refl;
    grows = world_refl p.world.nodes;
    reached = s.reached;
    events = let few = s.journals in omega (arith, few);
    buffers = s.buffers;
    refused = λ id is. is;
    asked = λ id is. inl is;
  })

  -- a message comes
  deliver_keeps : (p : Player) → Sound k p → (node sender number : ℕ) → Keeps k p (did (events.Deliver node sender number) p)
  deliver_keeps p s node sender number = go (is_lawful p.world.nodes (scene_at node (worlds.Deliver sender number))) refl where
    go : (v : Bool) → is_lawful p.world.nodes (scene_at node (worlds.Deliver sender number)) ≡ v → Keeps k p (did (events.Deliver node sender number) p)
    go true l = event_keeps k p s (events.Deliver node sender number) (worlds.Deliver sender number) refl (record { lawful = l; widths = tt }) (λ id a. admitting_admits id (worlds.Deliver sender number) a refl)
    go false l = λ q ok.
        let c : Counted (events.Deliver node sender number) p q = counted_is (events.Deliver node sender number) p q ok in
        subst (LeadsOn k p) (sym c.is) (event_leads k p s nothing_happens (at_node p.world node (worlds.Deliver sender number)) (skipped_on p s node (worlds.Deliver sender number) l) tick_admits_nothing c.left c.weighs)

  pub comes_keeps : (p : Player) → Sound k p → (sender number : ℕ) (parcel : Parcel AppliedState) → parcel_of (sent_by p.world.nodes sender) number ≡ Some parcel → Keeps k p (comes sender number parcel p)
  comes_keeps p s sender number parcel is =
      let q : Player = with_handled sender number p in
      let l : LeadsOn k p q = handled_leads k p s sender number parcel is in
      behind p q (comes sender number parcel p) l (deliver_keeps q l.sound parcel.to sender number)

  -- an attempt draws, and is published
  pub draws_keep : (p : Player) → Sound k p → (line : ℕ) (id : CmdId) (b : Booked) → IsBookedAs p id b → Keeps k p (draws line id b p)
  draws_keep p s line id b is = if_keeps k p (can_draw (buffer_at p b.node b.range)) _ _
      (let l = draw_leads k p s id b is (Drawn (buffer_at p b.node b.range).drawn) in behind p _ _ l (draw_keeps _ l.sound b.node b.range))
      (let l = noted_leads p s line full_text in behind p _ _ l (draw_keeps _ l.sound b.node b.range))

  pub publishes_keep : (p : Player) → Sound k p → (id : CmdId) (b : Booked) → IsBookedAs p id b → (place : ℕ) → Keeps k p (publishes id b place p)
  publishes_keep p s id b is place = let l = draw_leads k p s id b is Published in behind p _ _ l (publish_keeps _ l.sound b.node b.range place (items.Write id))

  drawn_keeps : (p : Player) → Sound k p → (id : CmdId) (b : Booked) → IsBookedAs p id b → (draw : Draw) → Keeps k p (publishes_drawn id b draw p)
  drawn_keeps p s id b is Undrawn = stays p s
  drawn_keeps p s id b is (Drawn place) = publishes_keep p s id b is place
  drawn_keeps p s id b is Published = stays p s

  booked_keeps : (p : Player) → Sound k p → (id : CmdId) (o : Option Booked) → booking_of id p.book ≡ o → Keeps k p (publishes_booked id o p)
  booked_keeps p s id None is = stays p s
  booked_keeps p s id (Some b) is = drawn_keeps p s id b (record { draw = b.draw; is = is }) b.draw

  pub both_keep : (p : Player) → Sound k p → (line : ℕ) (id : CmdId) (b : Booked) → IsBookedAs p id b → Keeps k p (draws_and_publishes line id b p)
  both_keep p s line id b is =
      then_keeps k p (draws line id b p) (λ q. publishes_booked id (booking_of id q.book) q) (draws_keep p s line id b is)
      (λ q l. booked_keeps q l.sound id (booking_of id q.book) refl)

  pub goes_on_keeps : (p : Player) → Sound k p → (line : ℕ) (id : CmdId) (b : Booked) → IsBookedAs p id b → (answer : EventAnswer) → Keeps k p (goes_on line id b answer p)
  goes_on_keeps p s line id b is answers.Done = stays p s
  goes_on_keeps p s line id b is answers.Nothing = stays p s
  goes_on_keeps p s line id b is answers.Admitted = both_keep p s line id b is
  goes_on_keeps p s line id b is (answers.Asked ask) = stays p s
  goes_on_keeps p s line id b is (answers.Refused why) = stays p s
  goes_on_keeps p s line id b is (answers.LeaseHeld lease ticks) = stays p s
  goes_on_keeps p s line id b is (answers.Value value applied) = stays p s

  -- the parts of a round
  pub puts_keeps : (p : Player) → Sound k p → (id : CmdId) (b : Booked) → IsBookedAs p id b → (draw : Draw) → Keeps k p (puts id b draw p)
  puts_keeps p s id b is Undrawn = if_keeps k p (is_latest p id && is_waiting p.world.nodes id b && can_draw (buffer_at p b.node b.range)) _ _ (both_keep p s 0 id b is) (stays p s)
  puts_keeps p s id b is (Drawn place) = publishes_keep p s id b is place
  puts_keeps p s id b is Published = stays p s

  pub puts_all_keeps : (p : Player) → Sound k p → Keeps k p (puts_all p)
  puts_all_keeps p s =
      each_keeps k (λ (e : CmdId × Booked). puts e.0 e.1 e.1.draw) (by_attempt p.book) p s
      (all_at (λ (e : CmdId × Booked). (q : Player) → LeadsOn k p q → Keeps k q (puts e.0 e.1 e.1.draw q)) (by_attempt p.book)
      (λ i e at q l. puts_keeps q l.sound e.0 e.1 (l.booked e.0 e.1 (record { draw = e.1.draw; is = by_attempt_had p.book s.book.apart i e at })) e.1.draw))

  -- a node of the one is a node of the other
  pub still_node : (p q : Player) → LeadsOn k p q → (node : ℕ) → IsNode (length p.world.nodes) node → IsNode (length q.world.nodes) node
  still_node p q l node is = subst (λ n. IsNode n node) (sym l.size) is

  flush_keeps : (p : Player) → Sound k p → (node : ℕ) → IsNode (length p.world.nodes) node → (range : ℕ) → Keeps k p (flushes_live node range p)
  flush_keeps p s node at range = if_keeps k p (has_live p.world.nodes node range) _ _
      (then_keeps k p (did (events.Collect node range) p) (did (events.Flush node range)) (plain_keeps p s (events.Collect node range) at)
      (λ q l. plain_keeps q l.sound (events.Flush node range) (still_node p q l node at)))
      (stays p s)

  pub ticks_keep : (p : Player) → Sound k p → (node : ℕ) → IsNode (length p.world.nodes) node → Keeps k p (ticks_and_flushes node p)
  ticks_keep p s node at =
      then_keeps k p (did (events.Tick node) p) (for_each (flushes_live node) range_numbers) (plain_keeps p s (events.Tick node) at)
      (λ q l. each_keeps k (flushes_live node) range_numbers q l.sound
      (all_of (λ (range : ℕ). (r : Player) → LeadsOn k q r → Keeps k r (flushes_live node range r))
      (λ range r m. flush_keeps r m.sound node (still_node q r m node (still_node p q l node at)) range) range_numbers))

  passed : (p : Player) → Sound k p → (sender number : ℕ) (o : Option (Parcel AppliedState)) → parcel_of (sent_by p.world.nodes sender) number ≡ o → Keeps k p (passes sender number o p)
  passed p s sender number None is = stays p s
  passed p s sender number (Some parcel) is = if_keeps k p (is_lost_here p sender number) _ _
      (kept_ok k p _ (handled_leads k p s sender number parcel is))
      (comes_keeps p s sender number parcel is)

  pub passes_one : (p : Player) → Sound k p → (sender number : ℕ) → Keeps k p (passes_numbered sender number p)
  passes_one p s sender number = passed p s sender number (parcel_of (sent_by p.world.nodes sender) number) refl

  pub passes_keep : (p : Player) → Sound k p → (sender : ℕ) → Keeps k p (passes_all sender p)
  passes_keep p s sender =
      each_keeps k (passes_numbered sender) (unhandled_of p sender) p s
      (all_of (λ (number : ℕ). (q : Player) → LeadsOn k p q → Keeps k q (passes_numbered sender number q)) (λ number q l. passes_one q l.sound sender number) (unhandled_of p sender))

  applied : (p : Player) → Sound k p → (node : ℕ) → IsNode (length p.world.nodes) node → (range : ℕ) → Keeps k p (applies_range node range p)
  applied p s node at range =
      repeated_keeps k (left_at p node range) (did (events.Apply node range)) p s (λ q l. plain_keeps q l.sound (events.Apply node range) (still_node p q l node at))

  pub applies_keep : (p : Player) → Sound k p → (node : ℕ) → IsNode (length p.world.nodes) node → Keeps k p (applies_all node p)
  applies_keep p s node at =
      each_keeps k (applies_range node) range_numbers p s
      (all_of (λ (range : ℕ). (q : Player) → LeadsOn k p q → Keeps k q (applies_range node range q)) (λ range q l. applied q l.sound node (still_node p q l node at) range) range_numbers)

  -- for each node
  nodes_keep : (act : ℕ → Player → Played) → ((p : Player) → Sound k p → (node : ℕ) → IsNode (length p.world.nodes) node → Keeps k p (act node p)) → (p : Player) → Sound k p
      → Keeps k p (for_each act (node_numbers p) p)
  nodes_keep act keeps p s =
      each_keeps k act (node_numbers p) p s
      (all_weaker (λ (node : ℕ). IsNode (length p.world.nodes) node) (λ (node : ℕ). (q : Player) → LeadsOn k p q → Keeps k q (act node q))
      (λ node at q l. keeps q l.sound node (still_node p q l node at)) (node_numbers p) (numbers_within (length p.world.nodes) (length p.world.nodes) (omega arith)))

  pub round_keeps : (p : Player) → Sound k p → Keeps k p (round p)
  round_keeps p s =
      then_keeps k p (puts_all p) _ (puts_all_keeps p s) (λ q l.
      then_keeps k q (for_each ticks_and_flushes (node_numbers q) q) _ (nodes_keep ticks_and_flushes ticks_keep q l.sound) (λ r m.
      then_keeps k r (for_each passes_all (node_numbers r) r) _ (nodes_keep passes_all (λ t u node at. passes_keep t u node) r m.sound)
      (λ t u. nodes_keep applies_all applies_keep t u.sound)))

  pub settles_keep : (p : Player) → Sound k p → (rounds : ℕ) → Keeps k p (settles rounds p)
  settles_keep p s rounds = repeated_keeps k rounds round p s (λ q l. round_keeps q l.sound)

  -- an ask goes to the buffer
  pub ask_keeps : (p : Player) → Sound k p → (line node range : ℕ) (ask : LeaseAsk) → Keeps k p (puts_ask line node range ask p)
  ask_keeps p s line node range ask = if_keeps k p (can_draw (buffer_at p node range)) _ _
      (then_keeps k p (did (events.Draw node range) p) _ (draw_keeps p s node range)
      (λ q l. publish_keeps q l.sound node range (buffer_at p node range).drawn (items.Lease ask)))
      (let l = noted_leads p s line full_text in behind p _ _ l (draw_keeps _ l.sound node range))
