-- Attempts that are put into their buffers, one after another.
use Rattle.std.proofs.Common.{◌≡◌, ℕ, zero, suc, ◌+◌, ◌<◌, ◌≤◌, ◌-◌, ◌==◌, slice_set, slice_index_or, Bool, true, false, Option, None, Some, Result, Ok, Err, List, [], ◌∷◌, length, get_or, cond, refl, sym, ap, subst, ◌∙◌, arith}
use Rattle.std.specs.Prelude.{slice_get, OnOk, ◌&&◌}
use Rattle.std.proofs.lemmas.Option.{slice_get-get_or}
use Rattle.rp_base.specs.Gives.{Fails}
use Rattle.rp_base.specs.declared.ids.CmdId.{CmdId}
use Rattle.rp_book.specs.declared.bookings.Booked.{Booked}
use Rattle.rp_book.specs.declared.bookings.Draw.{Draw}
use Rattle.rp_book.specs.declared.bookings.Draw.TheVariants.{Undrawn, Drawn, Published}
use Rattle.rp_base.specs.Ids.{same_id}
use Rattle.rp_base.specs.declared.items.Item.TheVariants as items
use Rattle.rp_base.proofs.IdLaws.{same_itself}
use Rattle.rp_book.specs.Books.{Book, booked, booking_of}
use Rattle.rp_bufcore.specs.Buffers.{Buffer, after_draw, buffer_of, can_draw, fresh, start, with_buffer}
use Rattle.rp_events.specs.Buffered.{Buffered, buffered_step, buffers_at, changed}
use Rattle.std.proofs.lemmas.List.{set-get_or}
use Rattle.rp_base.specs.declared.limits.Which.TheVariants.{Events}
use Rattle.rp_world.proofs.Counting.{weighed_is}
use Rattle.rp_bufcore.specs.declared.buffers.Slot.TheVariants as slots
use Rattle.rp_events.specs.declared.world_events.WorldEvent.{WorldEvent}
use Rattle.rp_events.specs.declared.world_events.WorldEvent.TheVariants as events
use Rattle.rp_lawful.specs.Onward.{IsBookedAs, LeadsOn}
use Rattle.rp_lawful.proofs.Books.{booked_here}
use Rattle.rp_lawful.proofs.Lines.{puts_keeps}
use Rattle.rp_lines.specs.Commands.{buffer_at, draws, draws_and_publishes, publishes, publishes_booked, is_waiting, with_draw}
use Rattle.rp_lines.specs.Players.{Limit, Player, Played, and_then, did, most_events, weighed}
use Rattle.rp_lines.specs.Settling.{is_latest, puts}
use Rattle.rp_world.specs.declared.faults.PlayFault.{PlayFault}
use Rattle.rp_script.specs.Bounds.{IsNode}
use Rattle.rp_world.specs.Going.{AsMany, Going}
use Rattle.rp_world.specs.Plays.{Does, happened, limit_of, one_event_more, place_in, unspent}
use Rattle.rp_world.specs.Putting.{counted, counted_if, drawn_if, put_if}
use Rattle.rp_world.proofs.Drawing.{drew, drew_not}

-- the node of a booked attempt is one of the world
pub booked_node : (p : Player) → Going p → (id : CmdId) (b : Booked) → IsBookedAs p id b → IsNode (length p.world.nodes) b.node
booked_node p g id b is = (g.sound.book.booked id (record b { draw = is.draw }) is.is).node

pub put_leads : {A : Type 0} (result : Result A PlayFault) (p q : Player) (id : CmdId) (b : Booked) (draw : Draw) → (g : Going p) → IsBookedAs p id b → Does result q (puts id b draw p) → OnOk result (LeadsOn g.lines p q)
put_leads (Ok x) p q id b draw g is does = puts_keeps g.lines p g.sound id b is draw q does
put_leads (Err fault) p q id b draw g is does = tt

pub put_goes : {A : Type 0} (result : Result A PlayFault) (p q : Player) (id : CmdId) (b : Booked) (draw : Draw) → Going p → IsBookedAs p id b → Does result q (puts id b draw p) → OnOk result (Going q)
put_goes (Ok x) p q id b draw g is does = record { lines = g.lines; few = g.few; sound = (puts_keeps g.lines p g.sound id b is draw q does).sound }
put_goes (Err fault) p q id b draw g is does = tt

pub put_many : {A : Type 0} (result : Result A PlayFault) (p q : Player) (id : CmdId) (b : Booked) (draw : Draw) → Going p → IsBookedAs p id b → Does result q (puts id b draw p) → OnOk result (AsMany p q)
put_many (Ok x) p q id b draw g is does = (puts_keeps g.lines p g.sound id b is draw q does).size
put_many (Err fault) p q id b draw g is does = tt

place_true : (c : Bool) (n place : ℕ) → cond c (Some n) None ≡ Some place → c ≡ true
place_true true n place e = refl
place_true false n place e = absurd cc

-- a buffer that gives no place has no room
pub no_room : (b : Buffer) → place_in b ≡ None → can_draw b ≡ false
no_room b is = go (can_draw b) is where
  go : (c : Bool) → ◌≡◌ {A = Option ℕ} (cond c (Some b.drawn) None) None → c ≡ false
  go true e = absurd cc
  go false e = refl

place_false : (c : Bool) (n : ℕ) → ◌≡◌ {A = Option ℕ} (cond c (Some n) None) None → c ≡ false
place_false true n e = absurd cc
place_false false n e = refl

-- a place that was just drawn counts no more once the attempt is published
booked_twice : (id : CmdId) (b c : Booked) (book : Book) → booked id c (booked id b book) ≡ booked id c book
booked_twice id b c [] = ap (λ t. cond t ((id, c) ∷ []) ((id, b) ∷ (id, c) ∷ [])) (same_itself id)
booked_twice id b c (e ∷ es) = go (booked_twice id b c es) (same_id id e.0) refl where
  go : booked id c (booked id b es) ≡ booked id c es → (t : Bool) → same_id id e.0 ≡ t → booked id c (cond t ((e.0, b) ∷ es) (e ∷ booked id b es)) ≡ cond t ((e.0, c) ∷ es) (e ∷ booked id c es)
  go ih true is = ap (λ t. cond t ((e.0, c) ∷ es) ((e.0, b) ∷ booked id c es)) is
  go ih false is = ap (λ t. cond t ((e.0, c) ∷ booked id b es) (e ∷ booked id c (booked id b es))) is ∙ ap (λ l. e ∷ l) ih

module _ {A : Type 0} (r : Result A PlayFault) (id : CmdId) (b : Booked) (p q new : Player) (place : ℕ) where
  -- a place was drawn
  pub put_there : place_in (buffer_at p b.node b.range) ≡ Some place → drawn_if b.node b.range p ≡ Ok q → Does r new (publishes id b place q) → Does r new (put_if id b p)
  put_there is drawn does =
      let can : can_draw (buffer_at p b.node b.range) ≡ true = place_true (can_draw (buffer_at p b.node b.range)) (buffer_at p b.node b.range).drawn place is in
      let did_so : did (events.Draw b.node b.range) p ≡ Ok q = sym (ap (λ c. cond c (did (events.Draw b.node b.range) p) (Ok p)) can) ∙ drawn in
      let drew_so : draws 0 id b p ≡ Ok (with_draw id b (Drawn place) q) = drew 0 id b p q (Some place) (sym is) did_so in
      let once : publishes id b place (with_draw id b (Drawn place) q) ≡ publishes id b place q =
      ap (λ book. did (events.Publish b.node b.range place (items.Write id)) (record q { book = book })) (booked_twice id (record b { draw = Drawn place }) (record b { draw = Published }) q.book) in
      let whole : draws_and_publishes 0 id b p ≡ publishes id b place q =
      ap (λ m. and_then m (λ s. publishes_booked id (booking_of id s.book) s)) drew_so
      ∙ ap (λ o. publishes_booked id o (with_draw id b (Drawn place) q)) (booked_here id (record b { draw = Drawn place }) q.book) ∙ once in
      subst (Does r new) (sym (ap (λ c. cond c (draws_and_publishes 0 id b p) (Ok p)) can ∙ whole)) does

-- none was
pub put_nowhere : (id : CmdId) (b : Booked) (p q : Player) → place_in (buffer_at p b.node b.range) ≡ None → drawn_if b.node b.range p ≡ Ok q → put_if id b p ≡ Ok q
put_nowhere id b p q is drawn =
    let can : can_draw (buffer_at p b.node b.range) ≡ false = place_false (can_draw (buffer_at p b.node b.range)) (buffer_at p b.node b.range).drawn is in
    ap (λ c. cond c (draws_and_publishes 0 id b p) (Ok p)) can ∙ sym (ap (λ c. cond c (did (events.Draw b.node b.range) p) (Ok p)) can) ∙ drawn

-- a limit was met
pub put_not : (o : Option Limit) (id : CmdId) (b : Booked) (p : Player) → Fails o (drawn_if b.node b.range p) → Fails o (put_if id b p)
put_not None id b p h = tt
put_not (Some l) id b p h = go (can_draw (buffer_at p b.node b.range)) h where
  go : (c : Bool) → cond c (did (events.Draw b.node b.range) p) (Ok p) ≡ Err l → cond c (draws_and_publishes 0 id b p) (Ok p) ≡ Err l
  go true e = ap (λ m. and_then m (λ s. publishes_booked id (booking_of id s.book) s)) (drew_not (Some l) 0 id b p e)
  go false e = absurd cc

-- a draw where there is no place leaves all as it was
pub draw_stays : (b : Buffered) (node range : ℕ) → can_draw (buffer_of (buffers_at b node) range) ≡ false → buffered_step b (events.Draw node range) ≡ b
draw_stays b node range is =
    let same : after_draw (buffer_of (buffers_at b node) range) ≡ buffer_of (buffers_at b node) range = ap (λ c. cond c (record (buffer_of (buffers_at b node) range) { drawn = (buffer_of (buffers_at b node) range).drawn + 1; slots = slice_set (buffer_of (buffers_at b node) range).slots (buffer_of (buffers_at b node) range).drawn slots.Drawn }) (buffer_of (buffers_at b node) range)) is in
    let end : with_buffer (buffers_at b node) range (after_draw (buffer_of (buffers_at b node) range)) ≡ buffers_at b node = ap (with_buffer (buffers_at b node) range) same ∙ set-get_or (buffers_at b node) range start in
    ap (λ l. record b { buffers = l }) (ap (slice_set b.buffers (node - 1)) end ∙ set-get_or b.buffers (node - 1) fresh)

did_counted : (e : WorldEvent) (p : Player) → did e p ≡ counted (happened e p)
did_counted e p = go (p.events == most_events) where
  go : (b : Bool) → cond b (Err (record { which = Events; count = most_events })) (weighed (one_event_more (happened e p)))
      ≡ and_then (cond b (Err (record { which = Events; count = most_events })) (Ok (happened e p))) (λ q. weighed (one_event_more q))
  go true = refl
  go false = refl

-- a draw where there is room is a draw that counts where it gave a place
pub drawn_is : (node range : ℕ) (p : Player) (place : Option ℕ) → place ≡ place_in (buffer_at p node range)
    → drawn_if node range p ≡ counted_if place (happened (events.Draw node range) p)
drawn_is node range p place is = go (can_draw (buffer_at p node range)) refl ∙ ap (λ o. counted_if o (happened (events.Draw node range) p)) (sym is) where
  go : (c : Bool) → can_draw (buffer_at p node range) ≡ c → cond c (did (events.Draw node range) p) (Ok p)
      ≡ counted_if (cond c (Some (buffer_at p node range).drawn) None) (happened (events.Draw node range) p)
  go true e = did_counted (events.Draw node range) p
  go false e = ap (λ w. Ok (record p { world = w })) (sym (draw_stays p.world node range e))

pub drawn_does : {A : Type 0} (r : Result A PlayFault) (node range : ℕ) (p new : Player) (place : Option ℕ) → place ≡ place_in (buffer_at p node range)
    → Does r new (counted_if place (happened (events.Draw node range) p)) → Does r new (drawn_if node range p)
drawn_does r node range p new place is does = subst (Does r new) (sym (drawn_is node range p place is)) does

same_ok : (p q : Player) → ◌≡◌ {A = Played} (Ok p) (Ok q) → q ≡ p
same_ok p q e = cc

counted_same : (p q : Player) → counted p ≡ Ok q → q ≡ one_event_more p
counted_same p q e = go (p.events == most_events) e where
  go : (b : Bool) → and_then (cond b (Err (record { which = Events; count = most_events })) (Ok p)) (λ q. weighed (one_event_more q)) ≡ Ok q → q ≡ one_event_more p
  go true e = absurd cc
  go false e = weighed_is (one_event_more p) q e

pub counted_book : (place : Option ℕ) (p q : Player) → counted_if place p ≡ Ok q → q.book ≡ p.book
counted_book None p q e = ap (λ (m : Player). m.book) (same_ok p q e)
counted_book (Some n) p q e = ap (λ (m : Player). m.book) (counted_same p q e)

pub counted_nodes : (place : Option ℕ) (p q : Player) → counted_if place p ≡ Ok q → q.world.nodes ≡ p.world.nodes
counted_nodes None p q e = ap (λ (m : Player). m.world.nodes) (same_ok p q e)
counted_nodes (Some n) p q e = ap (λ (m : Player). m.world.nodes) (counted_same p q e)

-- a limit ends what comes behind it
pub fails_then : (o : Option Limit) (m : Played) (f : Player → Played) → Fails o m → Fails o (and_then m f)
fails_then None m f h = tt
fails_then (Some l) m f h = ap (λ x. and_then x f) h
