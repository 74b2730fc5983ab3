-- Attempts go to their buffers from their queues, as they would from the whole book.
use Rattle.std.proofs.Common.{◌≡◌, ℕ, zero, suc, ◌+◌, ◌-◌, ◌*◌, ◌<◌, ◌≤◌, ◌==◌, eqb, eqb-true, ltb, ltb-true, ltb-false, Bool, true, false, cond, not, Option, None, Some, Result, Ok, Err, List, [], ◌∷◌, length, refl, sym, ap, subst, ◌∙◌, arith}
use Rattle.std.specs.Prelude.{◌&&◌, slice_index_or, slice_set, slice_get, filter, fold, replicate, count_by, sum_by, nat_lt, min, IfOk, OnOk}
use Rattle.std.specs.Option.{option_map_or}
use Rattle.std.specs.BTreeMap.{insert_entry, is_at}
use Rattle.std.specs.List.{AllByRecursion}
use Rattle.std.specs.Ordering.{is_eq, is_lt, ordering_reverse}
use Rattle.std.specs.declared.cmp.Ordering.{Ordering}
use Rattle.std.specs.declared.cmp.Ordering.TheVariants.{Less, Equal, Greater}
use Rattle.std.proofs.lemmas.Bool.{eqb-false}
use Rattle.rp_base.specs.Gives.{Fails}
use Rattle.rp_base.specs.Ids.{cmd_cmp, same_id}
use Rattle.rp_base.specs.declared.ids.CmdId.{CmdId}
use Rattle.rp_base.specs.declared.items.Item.{Item}
use Rattle.rp_base.specs.declared.items.Item.TheVariants as items
use Rattle.rp_base.specs.declared.limits.Which.TheVariants.{Events, Weight}
use Rattle.rp_base.proofs.Counts.{count_cons}
use Rattle.rp_base.proofs.IdLaws.{same_is, same_itself, not_same_apart, apart_not_same, at_itself, at_other, cmd_itself, cmd_total, cmd_equal_is}
use Rattle.rp_request.specs.declared.outcomes.Outcome.TheVariants.{Pending}
use Rattle.rp_book.specs.declared.bookings.Booked.{Booked}
use Rattle.rp_book.specs.declared.bookings.Draw.{Draw}
use Rattle.rp_book.specs.declared.bookings.Draw.TheVariants.{Undrawn, Drawn, Published}
use Rattle.rp_book.specs.Books.{booking_of, by_attempt}
use Rattle.rp_book.specs.Queueing.{Queued, drawn_queue, holds, is_passed, queue_count, queue_of, size, IsFirst, IsLeast}
use Rattle.rp_book.proofs.Firsts.{none_behind}
use Rattle.rp_bufcore.specs.Buffers.{Buffer, after_draw, after_publish, buffer_of, can_draw, fresh, is_drawn, start as empty, with_buffer}
use Rattle.rp_bufcore.specs.declared.buffers.Slot.TheVariants as slots
use Rattle.rp_events.specs.Buffered.{Buffered, buffered_step, buffers_at, changed}
use Rattle.rp_events.specs.Worlds.{World, outcome_of}
use Rattle.rp_events.specs.Lawful.{IsReached}
use Rattle.rp_events.specs.declared.world_events.WorldEvent.{WorldEvent}
use Rattle.rp_events.specs.declared.world_events.WorldEvent.TheVariants as events
use Rattle.rp_report.specs.Notes.{full_text}
use Rattle.rp_lawful.specs.Sound.{AreApart, IsSoundBooking}
use Rattle.rp_lawful.proofs.Books.{by_attempt_had}
use Rattle.rp_lines.specs.Commands.{buffer_at, draws, draws_and_publishes, is_waiting, publishes, publishes_booked, publishes_drawn, with_draw}
use Rattle.rp_lines.specs.Players.{Limit, Player, Played, and_then, did, most_count, most_events, most_weight, noted, weight, weighed}
use Rattle.rp_lines.specs.Settling.{for_each, is_latest, puts, puts_all}
use Rattle.rp_told.proofs.Sorting.{found, put_itself, put_other, put_rising, IsAfter, IsRising}
use Rattle.rp_told.proofs.Passing.{waits_told}
use Rattle.rp_world.specs.Going.{AsMany, Going}
use Rattle.rp_lawful.proofs.Books.{booked_here, booked_other}
use Rattle.rp_book.specs.Books.{booked}
use Rattle.rp_world.specs.declared.faults.PlayFault.{PlayFault}
use Rattle.rp_world.specs.declared.turns.Went.{Went}
use Rattle.rp_world.specs.declared.turns.Went.TheVariants as wents
use Rattle.rp_world.specs.Plays.{happened, one_event_more}
use Rattle.rp_world.proofs.Counting.{did_is}
use Rattle.rp_world.specs.Putting.{AllGo, IsUnderWay, WentAs, is_left, put, turns}

abbrev Entry : Type 0
Entry = CmdId × Booked

none_some : {X goal : Type 0} (x : X) → ◌≡◌ {A = Option X} None (Some x) → goal
none_some x e = absurd cc

some_same : {X : Type 0} (x y : X) → ◌≡◌ {A = Option X} (Some x) (Some y) → x ≡ y
some_same x y e = cc

not_both : {goal : Type 0} (b : Bool) → b ≡ true → b ≡ false → goal
not_both b t f = absurd cc

pair_is : (a b : Entry) → a.0 ≡ b.0 → a.1 ≡ b.1 → a ≡ b
pair_is a b x y i = (x i, y i)

-- what a put leaves of the nodes and the buffers, where draws and publications leave it
abbrev KeepsIn : (Buffered → Type 0) → Played → Type 0
KeepsIn W (Ok q) = W q.world
KeepsIn W (Err limit) = Unit {0}

pub record IsKeptIn (W : Buffered → Type 0) : Type 0 where
  pub draws : (b : Buffered) (node range : ℕ) → W b → W (buffered_step b (events.Draw node range))
  pub publishes : (b : Buffered) (node range place : ℕ) (item : Item) → W b → W (buffered_step b (events.Publish node range place item))

weighed_in : (W : Buffered → Type 0) (p : Player) → W p.world → KeepsIn W (weighed p)
weighed_in W p h = go (nat_lt most_weight (weight p.world.nodes)) where
  go : (b : Bool) → KeepsIn W (cond b (Err (record { which = Weight; count = min (weight p.world.nodes) most_count })) (Ok p))
  go true = tt
  go false = h

did_in : (W : Buffered → Type 0) (e : WorldEvent) (p : Player) → W (buffered_step p.world e) → KeepsIn W (did e p)
did_in W e p h = go (p.events == most_events) where
  next : Player
  next = record p { world = buffered_step p.world e; events = p.events + 1 }

  go : (b : Bool) → KeepsIn W (cond b (Err (record { which = Events; count = most_events })) (weighed next))
  go true = tt
  go false = weighed_in W next h

then_in : (W : Buffered → Type 0) (r : Played) (next : Player → Played) → KeepsIn W r → ((q : Player) → W q.world → KeepsIn W (next q)) → KeepsIn W (and_then r next)
then_in W (Ok q) next h more = more q h
then_in W (Err limit) next h more = tt

publishes_in : (W : Buffered → Type 0) → IsKeptIn W → (id : CmdId) (b : Booked) (place : ℕ) (p : Player) → W p.world → KeepsIn W (publishes id b place p)
publishes_in W k id b place p h = did_in W (events.Publish b.node b.range place (items.Write id)) (with_draw id b Published p) (k.publishes p.world b.node b.range place (items.Write id) h)

draws_in : (W : Buffered → Type 0) → IsKeptIn W → (id : CmdId) (b : Booked) (p : Player) → W p.world → KeepsIn W (draws 0 id b p)
draws_in W k id b p h = go (can_draw (buffer_at p b.node b.range)) where
  go : (t : Bool) → KeepsIn W (cond t (did (events.Draw b.node b.range) (with_draw id b (Drawn (buffer_at p b.node b.range).drawn) p)) (did (events.Draw b.node b.range) (noted 0 full_text p)))
  go true = did_in W (events.Draw b.node b.range) (with_draw id b (Drawn (buffer_at p b.node b.range).drawn) p) (k.draws p.world b.node b.range h)
  go false = did_in W (events.Draw b.node b.range) (noted 0 full_text p) (k.draws p.world b.node b.range h)

drawn_in : (W : Buffered → Type 0) → IsKeptIn W → (id : CmdId) (b : Booked) (draw : Draw) (p : Player) → W p.world → KeepsIn W (publishes_drawn id b draw p)
drawn_in W k id b Undrawn p h = h
drawn_in W k id b (Drawn place) p h = publishes_in W k id b place p h
drawn_in W k id b Published p h = h

booked_in : (W : Buffered → Type 0) → IsKeptIn W → (id : CmdId) (o : Option Booked) (p : Player) → W p.world → KeepsIn W (publishes_booked id o p)
booked_in W k id None p h = h
booked_in W k id (Some b) p h = drawn_in W k id b b.draw p h

puts_in : (W : Buffered → Type 0) → IsKeptIn W → (id : CmdId) (b : Booked) (draw : Draw) (p : Player) → W p.world → KeepsIn W (puts id b draw p)
puts_in W k id b Undrawn p h = go (is_latest p id && is_waiting p.world.nodes id b && can_draw (buffer_at p b.node b.range)) where
  go : (t : Bool) → KeepsIn W (cond t (draws_and_publishes 0 id b p) (Ok p))
  go true = then_in W (draws 0 id b p) (λ q. publishes_booked id (booking_of id q.book) q) (draws_in W k id b p h) (λ q h'. booked_in W k id (booking_of id q.book) q h')
  go false = h
puts_in W k id b (Drawn place) p h = publishes_in W k id b place p h
puts_in W k id b Published p h = h

put_in : (W : Buffered → Type 0) → IsKeptIn W → (e : Entry) (p : Player) → W p.world → KeepsIn W (put e p)
unfolding put
put_in W k e p h = puts_in W k e.0 e.1 e.1.draw p h

-- the nodes stay
nodes_kept : (w : World) → IsKeptIn (λ b. b.nodes ≡ w)
nodes_kept w = record { draws = λ b node range h. h; publishes = λ b node range place item h. h }

-- a full buffer stays full
abbrev pub IsFullIn : (node range : ℕ) → Buffered → Type 0
IsFullIn node range b = can_draw (buffer_of (buffers_at b node) range) ≡ false

at_set : {A : Type 0} (P : A → Type 0) (xs : List A) (i j : ℕ) (y d : A) → P (slice_index_or xs j d) → (i ≡ j → P y) → P (slice_index_or (slice_set xs i y) j d)
at_set P [] i j y d h f = h
at_set P (x ∷ xs) zero zero y d h f = f refl
at_set P (x ∷ xs) zero (suc j) y d h f = h
at_set P (x ∷ xs) (suc i) zero y d h f = h
at_set P (x ∷ xs) (suc i) (suc j) y d h f = at_set P xs i j y d h (λ e. f (ap (λ n. suc n) e))

full_changed : (b : Buffered) (n r node range : ℕ) (change : Buffer → Buffer) → ((c : Buffer) → can_draw c ≡ false → can_draw (change c) ≡ false) → IsFullIn node range b → IsFullIn node range (changed b n r change)
full_changed b n r node range change stays h =
    at_set (λ l. can_draw (buffer_of l range) ≡ false) b.buffers (n - 1) (node - 1) (with_buffer (buffers_at b n) r (change (buffer_of (buffers_at b n) r))) fresh h
    (λ same. there (sym (ap (λ k. slice_index_or b.buffers k fresh) same)))
  where
    there : buffers_at b node ≡ buffers_at b n → can_draw (buffer_of (with_buffer (buffers_at b n) r (change (buffer_of (buffers_at b n) r))) range) ≡ false
    there same =
        let here : can_draw (buffer_of (buffers_at b n) range) ≡ false = sym (ap (λ l. can_draw (buffer_of l range)) same) ∙ h in
        at_set (λ c. can_draw c ≡ false) (buffers_at b n) r range (change (buffer_of (buffers_at b n) r)) empty here
        (λ one. stays (buffer_of (buffers_at b n) r) (ap (λ k. can_draw (buffer_of (buffers_at b n) k)) one ∙ here))

draw_full : (c : Buffer) → can_draw c ≡ false → can_draw (after_draw c) ≡ false
draw_full c is = ap (λ t. can_draw (cond t (record { is_open = c.is_open; drawn = c.drawn + 1; slots = slice_set c.slots c.drawn slots.Drawn }) c)) is ∙ is

publish_full : (place : ℕ) (item : Item) (c : Buffer) → can_draw c ≡ false → can_draw (after_publish c place item) ≡ false
publish_full place item c is = go (is_drawn (slice_get c.slots place)) where
  go : (t : Bool) → can_draw (cond t (record { is_open = c.is_open; drawn = c.drawn; slots = slice_set c.slots place (slots.Published item) }) c) ≡ false
  go true = is
  go false = is

full_kept : (node range : ℕ) → IsKeptIn (IsFullIn node range)
full_kept node range = record {
  draws = λ b n r h. full_changed b n r node range after_draw draw_full h;
  publishes = λ b n r place item h. full_changed b n r node range (λ c. after_publish c place item) (publish_full place item) h;
}

-- one after another, passing over what changes nothing
then_alike : (W : Buffered → Type 0) (r : Played) (f g : Player → Played) → KeepsIn W r → ((q : Player) → W q.world → f q ≡ g q) → and_then r f ≡ and_then r g
then_alike W (Ok q) f g h more = more q h
then_alike W (Err limit) f g h more = refl

abbrev ChangesNothing : (Buffered → Type 0) → (f g : Entry → Bool) → Entry → Type 0
ChangesNothing W f g e = f e ≡ true → g e ≡ false → (p : Player) → W p.world → put e p ≡ Ok p

skips : (W : Buffered → Type 0) → IsKeptIn W → (f g : Entry → Bool) → ((e : Entry) → g e ≡ true → f e ≡ true) → (es : List Entry) → AllByRecursion (ChangesNothing W f g) es → (p : Player) → W p.world
    → for_each put (filter f es) p ≡ for_each put (filter g es) p
skips W k f g imp [] all p h = refl
skips W k f g imp (e ∷ es) all p h = go (λ q h'. skips W k f g imp es all.1 q h') (f e) refl (g e) refl where
  go : ((q : Player) → W q.world → for_each put (filter f es) q ≡ for_each put (filter g es) q) → (s : Bool) → f e ≡ s → (t : Bool) → g e ≡ t → for_each put (cond s (e ∷ filter f es) (filter f es)) p ≡ for_each put (cond t (e ∷ filter g es) (filter g es)) p
  go ih true fe true ge = then_alike W (put e p) (for_each put (filter f es)) (for_each put (filter g es)) (put_in W k e p h) ih
  go ih true fe false ge = ap (λ m. and_then m (for_each put (filter f es))) (all.0 fe ge p h) ∙ ih p h
  go ih false fe true ge = not_both (f e) (imp e ge) fe
  go ih false fe false ge = ih p h

all_get : {X : Type 0} (P : X → Type 0) (xs : List X) → ((i : ℕ) (x : X) → slice_get xs i ≡ Some x → P x) → AllByRecursion P xs
all_get P [] each = tt
all_get P (x ∷ xs) each = (each zero x refl, all_get P xs (λ i y at. each (suc i) y at))

all_more : {X : Type 0} (P Q : X → Type 0) → ((x : X) → P x → Q x) → (xs : List X) → AllByRecursion P xs → AllByRecursion Q xs
all_more P Q imp [] all = tt
all_more P Q imp (x ∷ xs) all = (imp x all.0, all_more P Q imp xs all.1)

same_filter : {X : Type 0} (f g : X → Bool) (xs : List X) → AllByRecursion (λ x. g x ≡ f x) xs → filter f xs ≡ filter g xs
same_filter f g [] all = refl
same_filter {X} f g (x ∷ xs) all = ap (λ t. cond t (x ∷ filter f xs) (filter f xs)) (sym all.0) ∙ ap (λ l. cond (g x) (x ∷ l) l) (same_filter f g xs all.1)

no_filter : {X : Type 0} (f : X → Bool) → ((x : X) → f x ≡ false) → (xs : List X) → filter f xs ≡ []
no_filter f none [] = refl
no_filter f none (x ∷ xs) = ap (λ t. cond t (x ∷ filter f xs) (filter f xs)) (none x) ∙ no_filter f none xs

whole_filter : {X : Type 0} (xs : List X) → filter (λ x. true) xs ≡ xs
whole_filter [] = refl
whole_filter (x ∷ xs) = ap (λ l. x ∷ l) (whole_filter xs)

-- the first of a list in order
less_not_same : (a b : CmdId) → cmd_cmp a b ≡ Less → b ≡ a → ⊥
less_not_same a b less same = apart (sym less ∙ ap (cmd_cmp a) same ∙ cmd_itself a) where
  apart : Less ≡ Equal → ⊥
  apart e = cc

behind_none : (id : CmdId) (es : List Entry) → AllByRecursion (IsAfter id) es → found es id ≡ None
behind_none id [] h = refl
behind_none id (e ∷ es) h = ap (λ t. cond t (Some e.1) (found es id)) (at_other id e.0 (λ same. less_not_same id e.0 h.0 (sym same))) ∙ behind_none id es h.1

after_too : (a b : CmdId) (es : List Entry) → cmd_cmp a b ≡ Less → AllByRecursion (IsAfter b) es → AllByRecursion (IsAfter a) es
after_too a b es less h = all_more (IsAfter b) (IsAfter a) (λ e after. cmd_total.trans a b e.0 less after) es h

first_left : (f g : Entry → Bool) (id : CmdId) (b : Booked) → f (id, b) ≡ true → g (id, b) ≡ false → ((e : Entry) → f e ≡ true → is_lt (cmd_cmp e.0 id) ≡ false) → ((e : Entry) → (e.0 ≡ id → ⊥) → g e ≡ f e)
    → (es : List Entry) → IsRising es → found es id ≡ Some b → filter f es ≡ (id, b) ∷ filter g es
first_left f g id b fid gid least others [] rising is = none_some b is
first_left f g id b fid gid least others (e ∷ es) rising is = go (λ more. first_left f g id b fid gid least others es rising.1 more) (cmd_cmp id e.0) refl where
  by_test : (t : Bool) → f e ≡ t → cmd_cmp e.0 id ≡ Less → t ≡ false
  by_test true fe less = not_both (is_lt (cmd_cmp e.0 id)) (ap is_lt less) (least e fe)
  by_test false fe less = refl

  go : (found es id ≡ Some b → filter f es ≡ (id, b) ∷ filter g es) → (o : Ordering) → cmd_cmp id e.0 ≡ o → filter f (e ∷ es) ≡ (id, b) ∷ filter g (e ∷ es)
  go ih Equal at =
      let one : id ≡ e.0 = cmd_equal_is id e.0 at in
      let value : e.1 ≡ b = some_same e.1 b (sym (ap (λ t. cond t (Some e.1) (found es id)) (ap is_eq at)) ∙ is) in
      let entry : e ≡ (id, b) = pair_is e (id, b) (sym one) value in
      let rest : filter f es ≡ filter g es = same_filter f g es (all_more (IsAfter e.0) (λ x. g x ≡ f x) (λ x after. others x (λ same. less_not_same e.0 x.0 after (same ∙ one))) es rising.0) in
      ap (λ t. cond t (e ∷ filter f es) (filter f es)) (ap f entry ∙ fid) ∙ ap (λ x. x ∷ filter f es) entry ∙ ap (λ l. (id, b) ∷ l) (rest ∙ sym (ap (λ t. cond t (e ∷ filter g es) (filter g es)) (ap g entry ∙ gid)))
  go ih Less at = none_some b (sym (behind_none id (e ∷ es) (at, after_too id e.0 es at rising.0)) ∙ is)
  go ih Greater at =
      let before : cmd_cmp e.0 id ≡ Less = cmd_total.antisymm e.0 id ∙ ap ordering_reverse at in
      let apart : e.0 ≡ id → ⊥ = λ same. less_not_same e.0 id before (sym same) in
      let out : f e ≡ false = by_test (f e) refl before in
      let deeper : found es id ≡ Some b = sym (ap (λ t. cond t (Some e.1) (found es id)) (at_other id e.0 (λ same. apart (sym same)))) ∙ is in
      ap (λ t. cond t (e ∷ filter f es) (filter f es)) out ∙ ih deeper
      ∙ sym (ap (λ t. (id, b) ∷ cond t (e ∷ filter g es) (filter g es)) (others e apart ∙ out))

-- a book by attempt is in order, and has of each attempt what the book has
rising_from : (done es : List Entry) → IsRising done → IsRising (fold (λ sorted e. insert_entry cmd_cmp sorted e.0 e.1) done es)
rising_from done [] h = h
rising_from done (e ∷ es) h = rising_from (insert_entry cmd_cmp done e.0 e.1) es (put_rising done e.0 e.1 h)

lacks_from : (done es : List Entry) (id : CmdId) → booking_of id es ≡ None → found (fold (λ sorted e. insert_entry cmd_cmp sorted e.0 e.1) done es) id ≡ found done id
lacks_from done [] id none = refl
lacks_from done (e ∷ es) id none = go (λ more. lacks_from (insert_entry cmd_cmp done e.0 e.1) es id more) (same_id id e.0) refl none where
  go : (booking_of id es ≡ None → found (fold (λ sorted x. insert_entry cmd_cmp sorted x.0 x.1) (insert_entry cmd_cmp done e.0 e.1) es) id ≡ found (insert_entry cmd_cmp done e.0 e.1) id) → (t : Bool) → same_id id e.0 ≡ t → cond t (Some e.1) (booking_of id es) ≡ None → found (fold (λ sorted x. insert_entry cmd_cmp sorted x.0 x.1) (insert_entry cmd_cmp done e.0 e.1) es) id ≡ found done id
  go ih true is none' = none_some e.1 (sym none')
  go ih false is none' = ih none' ∙ put_other done e.0 e.1 id (not_same_apart id e.0 is)

has_from : (done es : List Entry) (id : CmdId) (b : Booked) → AreApart es → booking_of id es ≡ Some b → found (fold (λ sorted e. insert_entry cmd_cmp sorted e.0 e.1) done es) id ≡ Some b
has_from done [] id b apart h = none_some b h
has_from done (e ∷ es) id b apart h = go (λ more. has_from (insert_entry cmd_cmp done e.0 e.1) es id b apart.1 more) (same_id id e.0) refl h where
  go : (booking_of id es ≡ Some b → found (fold (λ sorted x. insert_entry cmd_cmp sorted x.0 x.1) (insert_entry cmd_cmp done e.0 e.1) es) id ≡ Some b) → (t : Bool) → same_id id e.0 ≡ t → cond t (Some e.1) (booking_of id es) ≡ Some b → found (fold (λ sorted x. insert_entry cmd_cmp sorted x.0 x.1) (insert_entry cmd_cmp done e.0 e.1) es) id ≡ Some b
  go ih true is h' =
      let one : id ≡ e.0 = same_is id e.0 is in
      lacks_from (insert_entry cmd_cmp done e.0 e.1) es id (ap (λ k. booking_of k es) one ∙ apart.0)
      ∙ ap (found (insert_entry cmd_cmp done e.0 e.1)) one ∙ put_itself done e.0 e.1 ∙ h'
  go ih false is h' = ih h'

-- an entry that is left, in its parts
left_in : (q : Queued) (passed : List Bool) (e : Entry) → is_left q passed e ≡ true → (k : ℕ) × (queue_of e.1 ≡ Some k) × (is_passed passed k ≡ false) × (holds q k e.0 ≡ true)
left_in q passed e h = go (queue_of e.1) refl h where
  parts : (k : ℕ) → queue_of e.1 ≡ Some k → (s t : Bool) → is_passed passed k ≡ s → holds q k e.0 ≡ t → (not s && t) ≡ true → (j : ℕ) × (queue_of e.1 ≡ Some j) × (is_passed passed j ≡ false) × (holds q j e.0 ≡ true)
  parts k at true t p has is = absurd cc
  parts k at false true p has is = (k, at, p, has)
  parts k at false false p has is = absurd cc

  go : (o : Option ℕ) → queue_of e.1 ≡ o → option_map_or (λ k. not (is_passed passed k) && holds q k e.0) o false ≡ true → (k : ℕ) × (queue_of e.1 ≡ Some k) × (is_passed passed k ≡ false) × (holds q k e.0 ≡ true)
  go None at is = absurd cc
  go (Some k) at is = parts k at (is_passed passed k) (holds q k e.0) refl refl is

left_at : (q : Queued) (passed : List Bool) (e : Entry) (k : ℕ) → queue_of e.1 ≡ Some k → is_left q passed e ≡ (not (is_passed passed k) && holds q k e.0)
left_at q passed e k at = ap (λ o. option_map_or (λ j. not (is_passed passed j) && holds q j e.0) o false) at

left_from : (q : Queued) (passed : List Bool) (e : Entry) (k : ℕ) → queue_of e.1 ≡ Some k → is_passed passed k ≡ false → holds q k e.0 ≡ true → is_left q passed e ≡ true
left_from q passed e k at p has = left_at q passed e k at ∙ ap (λ s. not s && holds q k e.0) p ∙ has

within : (q : Queued) (k : ℕ) (id : CmdId) → length q ≡ queue_count → holds q k id ≡ true → k < queue_count
within q k id many has = go (ltb k queue_count) refl where
  go : (t : Bool) → ltb k queue_count ≡ t → k < queue_count
  go true is = ltb-true k queue_count is
  go false is = not_both (holds q k id) has (none_behind q k id (let past = ltb-false k queue_count is in omega (arith, past, many)))

-- one attempt has left its queue
abbrev pub IsGone : (q after : Queued) → (k : ℕ) → CmdId → Type 0
IsGone q after k id = (j : ℕ) (other : CmdId) → holds after j other ≡ (not (j == k && same_id other id) && holds q j other)

and_not : (a b : Bool) → b ≡ false → (a && b) ≡ false
and_not true b e = e
and_not false b e = refl

gone_other : (q after : Queued) (k : ℕ) (id : CmdId) → IsGone q after k id → (j : ℕ) (other : CmdId) → same_id other id ≡ false → holds after j other ≡ holds q j other
gone_other q after k id gone j other ne = gone j other ∙ ap (λ t. not t && holds q j other) (and_not (j == k) (same_id other id) ne)

gone_elsewhere : (q after : Queued) (k : ℕ) (id : CmdId) → IsGone q after k id → (j : ℕ) (other : CmdId) → (j == k) ≡ false → holds after j other ≡ holds q j other
gone_elsewhere q after k id gone j other ne = gone j other ∙ ap (λ t. not (t && same_id other id) && holds q j other) ne

gone_here : (q after : Queued) (k : ℕ) (id : CmdId) → IsGone q after k id → holds after k id ≡ false
gone_here q after k id gone = gone k id ∙ ap (λ t. not (t && same_id id id) && holds q k id) (here (k == k) refl) ∙ ap (λ t. not t && holds q k id) (same_itself id) where
  here : (t : Bool) → (k == k) ≡ t → t ≡ true
  here true e = refl
  here false e = absurd (eqb-false k k e refl)

left_other : (q after : Queued) (passed : List Bool) (k : ℕ) (id : CmdId) → IsGone q after k id → (e : Entry) → same_id e.0 id ≡ false → is_left after passed e ≡ is_left q passed e
left_other q after passed k id gone e ne = go (queue_of e.1) where
  go : (o : Option ℕ) → option_map_or (λ j. not (is_passed passed j) && holds after j e.0) o false ≡ option_map_or (λ j. not (is_passed passed j) && holds q j e.0) o false
  go None = refl
  go (Some j) = ap (λ t. not (is_passed passed j) && t) (gone_other q after k id gone j e.0 ne)

-- what the start has
had : (start : Player) → Going start → (i : ℕ) (e : Entry) → slice_get (by_attempt start.book) i ≡ Some e → booking_of e.0 start.book ≡ Some e.1
had start g = by_attempt_had start.book g.sound.book.apart

apart_of : (a b : CmdId) → (a ≡ b → ⊥) → same_id a b ≡ false
apart_of a b ne = apart_not_same a b ne

-- the first one that is left
module _ (start p : Player) (q : Queued) (passed : List Bool) (k : ℕ) (id : CmdId) (b : Booked) where
  heads : (g : Entry → Bool) → length q ≡ queue_count → IsLeast q passed queue_count k id → booking_of id p.book ≡ Some b → queue_of b ≡ Some k → IsUnderWay start q passed p
      → g (id, b) ≡ false → ((e : Entry) → (e.0 ≡ id → ⊥) → g e ≡ is_left q passed e) → filter (is_left q passed) (by_attempt start.book) ≡ (id, b) ∷ filter g (by_attempt start.book)
  heads g many f has here u gid others =
      first_left (is_left q passed) g id b (left_from q passed (id, b) k here f.left f.stands) gid
      (λ e is. let parts = left_in q passed e is in f.least parts.0 e.0 (within q parts.0 e.0 many parts.3) parts.2 parts.3) others
      (by_attempt start.book) (rising_from [] start.book tt) (has_from [] start.book id b u.began.sound.book.apart (u.unchanged id b k has here))

  -- it was put, or was not to go
  pub one_went : (p2 : Player) (after : Queued) → length q ≡ queue_count → IsLeast q passed queue_count k id → booking_of id p.book ≡ Some b → queue_of b ≡ Some k → IsGone q after k id
      → put (id, b) p ≡ Ok p2 → ((other : CmdId) → same_id other id ≡ false → booking_of other p2.book ≡ booking_of other p.book)
      → ((now : Booked) (j : ℕ) → booking_of id p2.book ≡ Some now → queue_of now ≡ Some j → now ≡ b) → Going p2 → AsMany p p2
      → IsUnderWay start q passed p → IsUnderWay start after passed p2
  one_went p2 after many f has here gone does others mine going size_is u = record {
    began = u.began;
    going = going;
    many = size_is ∙ u.many;
    leads = sym (ap (λ m. and_then m (for_each put (filter (is_left after passed) (by_attempt start.book)))) does)
        ∙ sym (ap (λ l. for_each put l p) (heads (is_left after passed) many f has here u out kept)) ∙ u.leads;
    left = still;
    unchanged = same;
  } where
    out : is_left after passed (id, b) ≡ false
    out = left_at after passed (id, b) k here ∙ and_not (not (is_passed passed k)) (holds after k id) (gone_here q after k id gone)

    kept : (e : Entry) → (e.0 ≡ id → ⊥) → is_left after passed e ≡ is_left q passed e
    kept e ne = left_other q after passed k id gone e (apart_of e.0 id ne)

    still : (e : Entry) → booking_of e.0 start.book ≡ Some e.1 → is_left after passed e ≡ true → booking_of e.0 p2.book ≡ Some e.1
    still e at is = go (same_id e.0 id) refl where
      go : (t : Bool) → same_id e.0 id ≡ t → booking_of e.0 p2.book ≡ Some e.1
      go true one =
          let key : e.0 ≡ id = same_is e.0 id one in
          let value : e.1 ≡ b = some_same e.1 b (sym at ∙ ap (λ x. booking_of x start.book) key ∙ u.unchanged id b k has here) in
          not_both (is_left after passed e) is (ap (is_left after passed) (pair_is e (id, b) key value) ∙ out)
      go false ne = others e.0 ne ∙ u.left e at (sym (left_other q after passed k id gone e ne) ∙ is)

    same : (x : CmdId) (now : Booked) (j : ℕ) → booking_of x p2.book ≡ Some now → queue_of now ≡ Some j → booking_of x start.book ≡ Some now
    same x now j at queue = go (same_id x id) refl where
      go : (t : Bool) → same_id x id ≡ t → booking_of x start.book ≡ Some now
      go true one =
          let key : x ≡ id = same_is x id one in
          let value : now ≡ b = mine now j (sym (ap (λ y. booking_of y p2.book) key) ∙ at) queue in
          ap (λ y. booking_of y start.book) key ∙ u.unchanged id b k has here ∙ ap Some (sym value)
      go false ne = u.unchanged x now j (sym (others x ne) ∙ at) queue

  -- a limit was met
  pub none_went : (o : Option Limit) → length q ≡ queue_count → IsLeast q passed queue_count k id → booking_of id p.book ≡ Some b → queue_of b ≡ Some k
      → Fails o (put (id, b) p) → IsUnderWay start q passed p → Fails o (puts_all start)
  none_went None many f has here fails u = tt
  none_went (Some l) many f has here fails u =
      sym u.leads ∙ ap (λ es. for_each put es p) (heads but many f has here u not_it others) ∙ ap (λ m. and_then m (for_each put (filter but (by_attempt start.book)))) fails
    where
      but : Entry → Bool
      but e = cond (same_id e.0 id) false (is_left q passed e)

      not_it : but (id, b) ≡ false
      not_it = ap (λ t. cond t false (is_left q passed (id, b))) (same_itself id)

      others : (e : Entry) → (e.0 ≡ id → ⊥) → but e ≡ is_left q passed e
      others e ne = ap (λ t. cond t false (is_left q passed e)) (apart_of e.0 id ne)

-- what has no place in a queue leaves it
less_left : (s t u : Bool) → (s && t) ≡ false → (s && (u && t)) ≡ false
less_left true true u e = absurd cc
less_left true false true e = refl
less_left true false false e = refl
less_left false t u e = refl

pub one_left : (start p : Player) (q after : Queued) (passed : List Bool) (k : ℕ) (id : CmdId) → ((b : Booked) → booking_of id p.book ≡ Some b → queue_of b ≡ Some k → ⊥) → IsGone q after k id
    → IsUnderWay start q passed p → IsUnderWay start after passed p
one_left start p q after passed k id apart gone u = record {
  began = u.began;
  going = u.going;
  many = u.many;
  leads = sym (ap (λ l. for_each put l p) (same_filter (is_left q passed) (is_left after passed) (by_attempt start.book)
      (all_get (λ e. is_left after passed e ≡ is_left q passed e) (by_attempt start.book) (λ i e at. alike e (had start u.began i e at)))))
      ∙ u.leads;
  left = λ e at is. u.left e at (sym (alike e at) ∙ is);
  unchanged = u.unchanged;
} where
  alike : (e : Entry) → booking_of e.0 start.book ≡ Some e.1 → is_left after passed e ≡ is_left q passed e
  alike e at = by_id (same_id e.0 id) refl where
    by_queue : (key : e.0 ≡ id) → (j : ℕ) → queue_of e.1 ≡ Some j → (t : Bool) → (j == k) ≡ t → (s : Bool) → is_left q passed e ≡ s → is_left after passed e ≡ s
    by_queue key j queue false ne s is = left_at after passed e j queue ∙ ap (λ t. not (is_passed passed j) && t) (gone_elsewhere q after k id gone j e.0 ne) ∙ sym (left_at q passed e j queue) ∙ is
    by_queue key j queue true one true is =
        absurd (apart e.1 (sym (ap (λ x. booking_of x p.book) key) ∙ u.left e at is) (queue ∙ ap Some (eqb-true j k one)))
    by_queue key j queue true one false is =
        left_at after passed e j queue ∙ ap (λ t. not (is_passed passed j) && t) (gone j e.0)
        ∙ less_left (not (is_passed passed j)) (holds q j e.0) (not (j == k && same_id e.0 id)) (sym (left_at q passed e j queue) ∙ is)

    in_queue : (key : e.0 ≡ id) → (o : Option ℕ) → queue_of e.1 ≡ o → is_left after passed e ≡ is_left q passed e
    in_queue key None queue =
        ap (λ o. option_map_or (λ j. not (is_passed passed j) && holds after j e.0) o false) queue
        ∙ sym (ap (λ o. option_map_or (λ j. not (is_passed passed j) && holds q j e.0) o false) queue)
    in_queue key (Some j) queue = by_queue key j queue (j == k) refl (is_left q passed e) refl

    by_id : (t : Bool) → same_id e.0 id ≡ t → is_left after passed e ≡ is_left q passed e
    by_id true one = in_queue (same_is e.0 id one) (queue_of e.1) refl
    by_id false ne = left_other q after passed k id gone e ne

-- a queue whose buffer is full is passed over
one_buffer : (node range n r : ℕ) → 1 ≤ node → 1 ≤ n → range ≤ 7 → r ≤ 7 → (node - 1) * 8 + range ≡ (n - 1) * 8 + r → (node ≡ n) × (range ≡ r)
one_buffer node range n r a c d f e = (omega (arith, a, c, d, f, e), omega (arith, a, c, d, f, e))

put_full : (e : Entry) (p : Player) → e.1.draw ≡ Undrawn → can_draw (buffer_at p e.1.node e.1.range) ≡ false → put e p ≡ Ok p
unfolding put
put_full e p undrawn full =
    ap (λ draw. puts e.0 e.1 draw p) undrawn
    ∙ ap (λ t. cond t (draws_and_publishes 0 e.0 e.1 p) (Ok p)) (and_last (is_latest p e.0) (is_waiting p.world.nodes e.0 e.1) (can_draw (buffer_at p e.1.node e.1.range)) full) where
      and_last : (a b c : Bool) → c ≡ false → (a && b && c) ≡ false
      and_last true true c h = h
      and_last true false c h = refl
      and_last false b c h = refl

passed_more : (passed : List Bool) (k j : ℕ) → is_passed (slice_set passed k true) j ≡ false → is_passed passed j ≡ false
passed_more [] k j e = e
passed_more (x ∷ passed) zero zero e = absurd cc
passed_more (x ∷ passed) zero (suc j) e = e
passed_more (x ∷ passed) (suc k) zero e = e
passed_more (x ∷ passed) (suc k) (suc j) e = passed_more passed k j e

passed_other : (passed : List Bool) (k j : ℕ) → (j ≡ k → ⊥) → is_passed (slice_set passed k true) j ≡ is_passed passed j
passed_other [] k j ne = refl
passed_other (x ∷ passed) zero zero ne = absurd (ne refl)
passed_other (x ∷ passed) zero (suc j) ne = refl
passed_other (x ∷ passed) (suc k) zero ne = refl
passed_other (x ∷ passed) (suc k) (suc j) ne = passed_other passed k j (λ e. ne (ap (λ n. suc n) e))

pub one_full : (start p : Player) (q : Queued) (passed : List Bool) (k : ℕ) (id : CmdId) (b : Booked) → booking_of id p.book ≡ Some b → queue_of b ≡ Some k → k < drawn_queue → b.draw ≡ Undrawn → can_draw (buffer_at p b.node b.range) ≡ false
    → IsUnderWay start q passed p → IsUnderWay start q (slice_set passed k true) p
one_full start p q passed k id b has here below undrawn full u = record {
  began = u.began;
  going = u.going;
  many = u.many;
  leads = sym (skips (IsFullIn b.node b.range) (full_kept b.node b.range) (is_left q passed) (is_left q (slice_set passed k true)) less (by_attempt start.book)
      (all_get (ChangesNothing (IsFullIn b.node b.range) (is_left q passed) (is_left q (slice_set passed k true))) (by_attempt start.book) (λ i e at. nothing e (had start u.began i e at))) p full)
      ∙ u.leads;
  left = λ e at is. u.left e at (less e is);
  unchanged = u.unchanged;
} where
  less : (e : Entry) → is_left q (slice_set passed k true) e ≡ true → is_left q passed e ≡ true
  less e is = let parts = left_in q (slice_set passed k true) e is in left_from q passed e parts.0 parts.1 (passed_more passed k parts.0 parts.2) parts.3

  started : booking_of id start.book ≡ Some b
  started = u.unchanged id b k has here

  nothing : (e : Entry) → booking_of e.0 start.book ≡ Some e.1 → is_left q passed e ≡ true → is_left q (slice_set passed k true) e ≡ false → (p' : Player) → IsFullIn b.node b.range p'.world → put e p' ≡ Ok p'
  nothing e at is out p' full' = in_queue (left_in q passed e is) where
    mine : IsSoundBooking u.began.lines start id b
    mine = u.began.sound.book.booked id b started

    its : IsSoundBooking u.began.lines start e.0 e.1
    its = u.began.sound.book.booked e.0 e.1 at

    by_draw : (draw : Draw) → e.1.draw ≡ draw → queue_of e.1 ≡ Some k → put e p' ≡ Ok p'
    by_draw Undrawn drawn queue =
        let slot : (e.1.node - 1) * 8 + e.1.range ≡ k = some_same ((e.1.node - 1) * 8 + e.1.range) k (sym (ap (λ draw. queue_of (record e.1 { draw = draw })) drawn) ∙ queue) in
        let own : (b.node - 1) * 8 + b.range ≡ k = some_same ((b.node - 1) * 8 + b.range) k (sym (ap (λ draw. queue_of (record b { draw = draw })) undrawn) ∙ here) in
        let same = one_buffer e.1.node e.1.range b.node b.range its.node.0 mine.node.0 its.range mine.range (slot ∙ sym own) in
        put_full e p' drawn (ap (λ n. can_draw (buffer_at p' n e.1.range)) same.0 ∙ ap (λ r. can_draw (buffer_at p' b.node r)) same.1 ∙ full')
    by_draw (Drawn place) drawn queue =
        absurd (let last : drawn_queue ≡ k = some_same drawn_queue k (sym (ap (λ draw. queue_of (record e.1 { draw = draw })) drawn) ∙ queue) in omega (arith, last, below))
    by_draw Published drawn queue = none_some k (sym (ap (λ draw. queue_of (record e.1 { draw = draw })) drawn) ∙ queue)

    in_queue : (j : ℕ) × (queue_of e.1 ≡ Some j) × (is_passed passed j ≡ false) × (holds q j e.0 ≡ true) → put e p' ≡ Ok p'
    in_queue parts = go (eqb parts.0 k) refl where
      go : (t : Bool) → eqb parts.0 k ≡ t → put e p' ≡ Ok p'
      go true one = by_draw e.1.draw refl (parts.1 ∙ ap Some (eqb-true parts.0 k one))
      go false ne = not_both (is_left q (slice_set passed k true) e)
          (left_from q (slice_set passed k true) e parts.0 parts.1 (passed_other passed k parts.0 (eqb-false parts.0 k ne) ∙ parts.2) parts.3) out

-- how it begins
each_is_all : (start : Player) → for_each put (by_attempt start.book) start ≡ puts_all start
unfolding put
each_is_all start = refl

none_passed : (n k : ℕ) → is_passed (replicate n false) k ≡ false
none_passed zero k = refl
none_passed (suc n) zero = refl
none_passed (suc n) (suc k) = none_passed n k

put_not : (e : Entry) (p : Player) → e.1.draw ≡ Undrawn → is_waiting p.world.nodes e.0 e.1 ≡ false → put e p ≡ Ok p
unfolding put
put_not e p undrawn still =
    ap (λ draw. puts e.0 e.1 draw p) undrawn
    ∙ ap (λ t. cond t (draws_and_publishes 0 e.0 e.1 p) (Ok p)) (and_middle (is_latest p e.0) (is_waiting p.world.nodes e.0 e.1) (can_draw (buffer_at p e.1.node e.1.range)) still) where
      and_middle : (a b c : Bool) → b ≡ false → (a && b && c) ≡ false
      and_middle true true c h = absurd cc
      and_middle true false c h = refl
      and_middle false b c h = refl

put_published : (e : Entry) (p : Player) → e.1.draw ≡ Published → put e p ≡ Ok p
unfolding put
put_published e p published = ap (λ draw. puts e.0 e.1 draw p) published

drawn_apart : {goal : Type 0} (place : ℕ) → ◌≡◌ {A = Draw} (Drawn place) Undrawn → goal
drawn_apart place e = absurd cc

pub begins : (start : Player) (q : Queued) (passed : List Bool) → passed ≡ replicate queue_count false → Going start → AllGo start q → IsUnderWay start q passed start
begins start q passed is g all = record {
  began = g;
  going = g;
  many = refl;
  leads = sym (sym (each_is_all start) ∙ ap (λ es. for_each put es start) (sym (whole_filter (by_attempt start.book)))
      ∙ skips (λ b. b.nodes ≡ start.world.nodes) (nodes_kept start.world.nodes) (λ e. true) (is_left q passed) (λ e h. refl) (by_attempt start.book)
      (all_get (ChangesNothing (λ b. b.nodes ≡ start.world.nodes) (λ e. true) (is_left q passed)) (by_attempt start.book) (λ i e at. nothing e (had start g i e at))) start refl);
  left = λ e at h. at;
  unchanged = λ id b k at queue. at;
} where
  open_passed : (k : ℕ) → is_passed passed k ≡ false
  open_passed k = ap (λ l. is_passed l k) is ∙ none_passed queue_count k

  nothing : (e : Entry) → booking_of e.0 start.book ≡ Some e.1 → true ≡ true → is_left q passed e ≡ false → (p : Player) → p.world.nodes ≡ start.world.nodes → put e p ≡ Ok p
  nothing e at yes_it out p nodes = by_draw e.1.draw refl where
    stands : (k : ℕ) → queue_of e.1 ≡ Some k → (e.1.draw ≡ Undrawn → outcome_of start.world.nodes e.0 ≡ Some Pending) → {goal : Type 0} → goal
    stands k queue pends = not_both (is_left q passed e) (left_from q passed e k queue (open_passed k) (all e.0 e.1 k at queue pends)) out

    by_draw : (draw : Draw) → e.1.draw ≡ draw → put e p ≡ Ok p
    by_draw Undrawn drawn = waits (is_waiting start.world.nodes e.0 e.1) refl where
      waits : (t : Bool) → is_waiting start.world.nodes e.0 e.1 ≡ t → put e p ≡ Ok p
      waits true waiting =
          stands ((e.1.node - 1) * 8 + e.1.range) (ap (λ draw. queue_of (record e.1 { draw = draw })) drawn)
          (λ u. waits_told (length start.world.nodes) start.world.nodes g.sound.reached e.0 e.1 waiting)
      waits false still = put_not e p drawn (ap (λ w. is_waiting w e.0 e.1) nodes ∙ still)
    by_draw (Drawn place) drawn = stands drawn_queue (ap (λ draw. queue_of (record e.1 { draw = draw })) drawn) (λ u. drawn_apart place (sym drawn ∙ u))
    by_draw Published drawn = put_published e p drawn

-- how it ends
pub ends : (start p : Player) (q : Queued) (passed : List Bool) → length q ≡ queue_count → IsFirst q passed queue_count None → IsUnderWay start q passed p → puts_all start ≡ Ok p
ends start p q passed many none u =
    sym u.leads ∙ ap (λ es. for_each put es p) (no_filter (is_left q passed) nobody (by_attempt start.book)) where
      nobody : (e : Entry) → is_left q passed e ≡ false
      nobody e = go (is_left q passed e) refl where
        go : (t : Bool) → is_left q passed e ≡ t → t ≡ false
        go true is = let parts = left_in q passed e is in not_both (holds q parts.0 e.0) parts.3 (none parts.0 e.0 (within q parts.0 e.0 many parts.3) parts.2)
        go false is = refl

-- those that may still be put stand in their queues
pub still_go : (p p2 : Player) (q after : Queued) (k : ℕ) (id : CmdId) → IsGone q after k id → p2.world.nodes ≡ p.world.nodes
    → ((other : CmdId) → same_id other id ≡ false → booking_of other p2.book ≡ booking_of other p.book)
    → ((b : Booked) → booking_of id p2.book ≡ Some b → queue_of b ≡ Some k → (b.draw ≡ Undrawn → outcome_of p2.world.nodes id ≡ Some Pending) → ⊥)
    → ((b : Booked) (j : ℕ) → booking_of id p2.book ≡ Some b → queue_of b ≡ Some j → booking_of id p.book ≡ Some b)
    → AllGo p q → AllGo p2 after
still_go p p2 q after k id gone nodes others not_here mine all x b j at queue may = go (same_id x id) refl where
  was : (c : Booked) → booking_of x p.book ≡ Some c → queue_of c ≡ Some j → (c.draw ≡ Undrawn → outcome_of p.world.nodes x ≡ Some Pending) → holds q j x ≡ true
  was c at' queue' may' = all x c j at' queue' may'

  told : (b.draw ≡ Undrawn → outcome_of p.world.nodes x ≡ Some Pending)
  told u = sym (ap (λ w. outcome_of w x) nodes) ∙ may u

  go : (t : Bool) → same_id x id ≡ t → holds after j x ≡ true
  go true one = by_queue (j == k) refl where
    key : x ≡ id
    key = same_is x id one

    at_id : booking_of id p2.book ≡ Some b
    at_id = sym (ap (λ y. booking_of y p2.book) key) ∙ at

    by_queue : (t : Bool) → (j == k) ≡ t → holds after j x ≡ true
    by_queue true here = absurd (not_here b at_id (queue ∙ ap Some (eqb-true j k here)) (λ u. sym (ap (λ y. outcome_of p2.world.nodes y) key) ∙ may u))
    by_queue false elsewhere = gone_elsewhere q after k id gone j x elsewhere ∙ was b (ap (λ y. booking_of y p.book) key ∙ mine b j at_id queue) queue told
  go false ne = gone_other q after k id gone j x ne ∙ was b (sym (others x ne) ∙ at) queue told

-- there are fewer turns
pub passed_fewer : (passed : List Bool) (k : ℕ) → k < length passed → is_passed passed k ≡ false → count_by (λ was. not was) (slice_set passed k true) + 1 ≡ count_by (λ was. not was) passed
passed_fewer [] k lt is = absurd (omega (arith, lt))
passed_fewer (x ∷ passed) zero lt is =
    let new : count_by (λ was. not was) (true ∷ passed) ≡ 0 + count_by (λ was. not was) passed = count_cons (λ was. not was) true passed in
    let old : count_by (λ was. not was) (x ∷ passed) ≡ 1 + count_by (λ was. not was) passed = ap (λ t. count_by (λ was. not was) (t ∷ passed)) is ∙ count_cons (λ was. not was) false passed in
    omega (arith, new, old)
passed_fewer (x ∷ passed) (suc k) lt is =
    let ih : count_by (λ was. not was) (slice_set passed k true) + 1 ≡ count_by (λ was. not was) passed = passed_fewer passed k (omega (arith, lt)) is in
    let new : count_by (λ was. not was) (x ∷ slice_set passed k true) ≡ cond (not x) 1 0 + count_by (λ was. not was) (slice_set passed k true) = count_cons (λ was. not was) x (slice_set passed k true) in
    let old : count_by (λ was. not was) (x ∷ passed) ≡ cond (not x) 1 0 + count_by (λ was. not was) passed = count_cons (λ was. not was) x passed in
    omega (arith, ih, new, old)

-- what became of an attempt
pub went_put : (id : CmdId) (b : Booked) (place : ℕ) (p q : Player) → publishes id b place p ≡ Ok q → WentAs wents.Put id b p q
went_put id b place p q is =
    let left : q ≡ one_event_more (happened (events.Publish b.node b.range place (items.Write id)) (with_draw id b Published p)) =
    did_is (events.Publish b.node b.range place (items.Write id)) (with_draw id b Published p) q is in
    let book : q.book ≡ booked id (record b { draw = Published }) p.book = ap (λ (m : Player). m.book) left in (
      ap (λ (m : Player). m.world.nodes) left,
      λ other ne. ap (booking_of other) book ∙ booked_other id other (record b { draw = Published }) p.book ne,
      λ now at. ap queue_of (some_same now (record b { draw = Published }) (sym at ∙ ap (booking_of id) book ∙ booked_here id (record b { draw = Published }) p.book)),
    )

pub went_before : (id : CmdId) (b : Booked) (p : Player) → booking_of id p.book ≡ Some b → b.draw ≡ Published → WentAs wents.Put id b p p
went_before id b p has published =
    (refl, λ other ne. refl, λ now at. ap queue_of (some_same now b (sym at ∙ has)) ∙ ap (λ draw. queue_of (record b { draw = draw })) published)

ok_same : (p q : Player) → ◌≡◌ {A = Played} (Ok p) (Ok q) → q ≡ p
ok_same p q e = cc

full_there : (id : CmdId) (b : Booked) (p q : Player) → put (id, b) p ≡ Ok q → WentAs wents.Full id b p q → q ≡ p
full_there id b p q does went = ok_same p q (sym (put_full (id, b) p went.0 went.1) ∙ does)

still_there : (id : CmdId) (b : Booked) (p q : Player) → put (id, b) p ≡ Ok q → WentAs wents.Not id b p q → q ≡ p
unfolding put
still_there id b p q does went = ok_same p q (sym (ap (λ draw. puts id b draw p) went.0
    ∙ ap (λ t. cond t (draws_and_publishes 0 id b p) (Ok p)) (and_third (is_latest p id) (is_waiting p.world.nodes id b) (can_draw (buffer_at p b.node b.range)) went.1)) ∙ does) where
      and_third : (a b c : Bool) → (a && b) ≡ false → (a && b && c) ≡ false
      and_third true true c h = absurd cc
      and_third true false c h = refl
      and_third false b c h = refl

-- an attempt has had its turn
module _ (start p p2 : Player) (q after : Queued) (passed : List Bool) (k : ℕ) (id : CmdId) (b : Booked) where
  pub put_on : length q ≡ queue_count → IsLeast q passed queue_count k id → booking_of id p.book ≡ Some b → queue_of b ≡ Some k → IsGone q after k id → put (id, b) p ≡ Ok p2 → WentAs wents.Put id b p p2
      → Going p2 → AsMany p p2 → IsUnderWay start q passed p → IsUnderWay start after passed p2
  put_on many f has here gone does went going size_is u =
      one_went start p q passed k id b p2 after many f has here gone does went.1 (λ now j at queue. none_some j (sym (went.2 now at) ∙ queue)) going size_is u

  pub not_on : length q ≡ queue_count → IsLeast q passed queue_count k id → booking_of id p.book ≡ Some b → queue_of b ≡ Some k → IsGone q after k id → put (id, b) p ≡ Ok p2 → WentAs wents.Not id b p p2
      → Going p2 → AsMany p p2 → IsUnderWay start q passed p → IsUnderWay start after passed p2
  not_on many f has here gone does went going size_is u =
      let same : p2 ≡ p = still_there id b p p2 does went in
      one_went start p q passed k id b p2 after many f has here gone does (λ other ne. ap (λ (m : Player). booking_of other m.book) same)
      (λ now j at queue. some_same now b (sym at ∙ ap (λ (m : Player). booking_of id m.book) same ∙ has)) going size_is u

  pub full_on : booking_of id p.book ≡ Some b → queue_of b ≡ Some k → k < drawn_queue → put (id, b) p ≡ Ok p2 → WentAs wents.Full id b p p2
      → IsUnderWay start q passed p → IsUnderWay start q (slice_set passed k true) p2
  full_on has here below does went u =
      let same : p2 ≡ p = full_there id b p p2 does went in
      subst (IsUnderWay start q (slice_set passed k true)) (sym same) (one_full start p q passed k id b has here below went.0 went.1 u)

-- what may still be put stands in its queue, once an attempt has had its turn
module _ (p p2 : Player) (q after : Queued) (k : ℕ) (id : CmdId) (b : Booked) where
  pub put_whole : IsGone q after k id → WentAs wents.Put id b p p2 → AllGo p q → AllGo p2 after
  put_whole gone went all = still_go p p2 q after k id gone went.0 went.1
      (λ now at queue may. none_some k (sym (went.2 now at) ∙ queue)) (λ now j at queue. none_some j (sym (went.2 now at) ∙ queue)) all

  pub not_whole : IsGone q after k id → put (id, b) p ≡ Ok p2 → WentAs wents.Not id b p p2 → booking_of id p.book ≡ Some b → (outcome_of p2.world.nodes id ≡ Some Pending → ⊥) → AllGo p q → AllGo p2 after
  not_whole gone does went has over all =
      let same : p2 ≡ p = still_there id b p p2 does went in
      still_go p p2 q after k id gone (ap (λ (m : Player). m.world.nodes) same) (λ other ne. ap (λ (m : Player). booking_of other m.book) same)
      (λ now at queue may. over (may (ap (λ (x : Booked). x.draw) (some_same now b (sym at ∙ ap (λ (m : Player). booking_of id m.book) same ∙ has)) ∙ went.0)))
      (λ now j at queue. sym (ap (λ (m : Player). booking_of id m.book) same) ∙ at) all

  pub full_whole : put (id, b) p ≡ Ok p2 → WentAs wents.Full id b p p2 → AllGo p q → AllGo p2 q
  full_whole does went all = subst (λ m. AllGo m q) (sym (full_there id b p p2 does went)) all

pub left_whole : (p : Player) (q after : Queued) (k : ℕ) (id : CmdId) → IsGone q after k id → ((b : Booked) → booking_of id p.book ≡ Some b → queue_of b ≡ Some k → ⊥) → AllGo p q → AllGo p after
left_whole p q after k id gone apart all = still_go p p q after k id gone refl (λ other ne. refl) (λ b at queue may. apart b at queue) (λ b j at queue. at) all

pub over_by : (pends : Bool) (w : World) (id : CmdId) → not pends ≡ true → (pends ≡ false → outcome_of w id ≡ Some Pending → ⊥) → outcome_of w id ≡ Some Pending → ⊥
over_by true w id e f told = absurd cc
over_by false w id e f told = f refl told

-- an attempt is published at a place that it drew before
pub went_through : (r : Result Went PlayFault) (id : CmdId) (b : Booked) (p mid q : Player) → IfOk r (λ w. w ≡ wents.Put) → OnOk r (WentAs wents.Put id b mid q) → mid.book ≡ p.book → mid.world.nodes ≡ p.world.nodes
    → IfOk r (λ w. WentAs w id b p q)
went_through (Ok w) id b p mid q is went book nodes =
    subst (λ v. WentAs v id b p q) (sym is) (went.0 ∙ nodes, λ other ne. went.1 other ne ∙ ap (booking_of other) book, went.2)
went_through (Err fault) id b p mid q is went book nodes = tt
