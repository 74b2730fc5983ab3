-- Single events: what is lawful comes, and what is not is skipped.
use Rattle.std.proofs.Common.{◌≡◌, ℕ, zero, suc, ◌+◌, ◌-◌, ◌<◌, ◌≤◌, Bool, true, false, cond, Option, None, Some, Result, Ok, Err, List, [], ◌∷◌, ◌++◌, take, length, map, set, refl, sym, ap, subst, ◌∙◌, arith}
use Rattle.std.specs.Prelude.{is_some, not, nat_le, nat_lt, ◌&&◌, ◌==◌, IsTrue, get_or, OnOk}
use Rattle.std.specs.Option.{option_map, option_map_or}
use Rattle.std.proofs.lemmas.List.{length-map, take_more}
use Rattle.rp_base.specs.declared.ids.CmdId.{CmdId}
use Rattle.rp_base.specs.declared.items.Item.{Item}
use Rattle.rp_bufcore.specs.Buffers.{Buffer, buffer_of, given, with_buffer, after_collect}
use Rattle.rp_bufcore.proofs.Taking.{published_within}
use Rattle.rp_request.specs.Requests.{same_request}
use Rattle.rp_request.specs.declared.outcomes.Outcome.{Outcome}
use Rattle.rp_request.specs.declared.requests.Request.{Request}
use Rattle.rp_events.specs.declared.world_events.WorldEvent.{WorldEvent}
use Rattle.rp_events.specs.declared.world_events.WorldEvent.TheVariants as events
use Rattle.rp_events.specs.Nodes.{Node, is_full}
use Rattle.rp_events.specs.Worlds.{World, Scene, Happening, Admit, Ask, Transfer, Collect, Flush, Tick, Deliver, Apply, Cut, Remove, Peek, Restart, Round, node_of, happens, was_asked, outcome_of, asked_request}
use Rattle.rp_events.specs.Lawful.{HasWidths, IsReached, Lawful, happens_if, is_allowed, is_lawful, is_refusal, was_refused}
use Rattle.rp_events.specs.Buffered.{Buffered, at_node, buffered_run, buffered_step, buffers_at, changed, collected, collects, has_live}
use Rattle.rp_node.specs.Steps.{Held}
use Rattle.rp_node.specs.Several.{held_at}
use Rattle.rp_lawful.specs.Comings.{Comes, ComesBy, happening_of, node_in, scene_at, taken_at}
use Rattle.rp_lawful.proofs.Coming.{comes_as}
use Rattle.rp_told.proofs.Asks.{asked_known}
use Rattle.rp_told.proofs.Turning.{as_many, reached_by}
use Rattle.rp_world.specs.Comes.{IsNoAdmission, buffered_of}
use Rattle.rp_book.specs.declared.bookings.Booked.{Booked}
use Rattle.rp_lines.specs.Commands.{booking}
use Rattle.rp_lines.specs.Players.{Player, with_booking}
use Rattle.rp_world.specs.Plays.{admission, happened}
use Rattle.rp_world.specs.Runs.{FitsEvent, IsAtNode, has_room, is_allowed_in, is_lawful_in, ran, ran_all, was_refused_for}
use Rattle.rp_world.specs.Weighing.{HasPlaces}

-- what is seen of the node
pub room_seen : (xs : List (Held (List Buffer))) (node : ℕ) → has_room (buffered_of xs).nodes node ≡ option_map_or (λ h. not (is_full h.node)) (held_at xs node) false
room_seen xs zero = refl
room_seen [] (suc place) = refl
room_seen (x ∷ xs) (suc zero) = refl
room_seen (x ∷ xs) (suc (suc place)) = room_seen xs (suc place)

pub size_seen : (xs : List (Held (List Buffer))) → length (buffered_of xs).nodes ≡ length xs
size_seen xs = length-map xs (λ (h : Held (List Buffer)). h.node)

-- a collect gives no more than there are places
pub given_few : (b : Buffered) → HasPlaces b → (node range : ℕ) → length (given (buffer_of (buffers_at b node) range)) ≤ 16
given_few b places node range =
    let few = published_within (buffer_of (buffers_at b node) range).slots in
    let sixteen = places node range in
    omega (arith, few, sixteen)

-- lawful is what is allowed where there is room
lawful_scene : (w : World) (node : ℕ) (what : Happening) → is_lawful w (scene_at node what) ≡ (has_room w node && is_allowed w node what)
lawful_scene w node what = go (node_of w node) where
  go : (o : Option Node) → option_map_or (λ (n : Node). not (is_full n) && is_allowed w node what) o false ≡ (option_map_or (λ (n : Node). not (is_full n)) o false && is_allowed w node what)
  go None = refl
  go (Some n) = refl

and_false : (a : Bool) → (a && false) ≡ false
and_false true = refl
and_false false = refl

pub lawful_parts : (b : Buffered) (e : WorldEvent) → is_lawful_in b e ≡ (has_room b.nodes (node_in e) && is_allowed_in b e)
lawful_parts b e = go (happening_of b e) where
  go : (o : Option Happening) → option_map_or (λ what. is_lawful b.nodes (scene_at (node_in e) what)) o false ≡ (has_room b.nodes (node_in e) && option_map_or (is_allowed b.nodes (node_in e)) o false)
  go None = sym (and_false (has_room b.nodes (node_in e)))
  go (Some what) = lawful_scene b.nodes (node_in e) what

-- what a collect takes is allowed
few_taken : (b : Buffered) → ((node range : ℕ) → length (given (buffer_of (buffers_at b node) range)) ≤ 16) → (node range : ℕ) → nat_le (length (taken_at b node range)) 16 ≡ true
few_taken b few node range = go (has_live b.nodes node range) where
  le_true : (n : ℕ) → n ≤ 16 → nat_le n 16 ≡ true
  le_true n h = grind arith

  go : (v : Bool) → nat_le (length (cond v (given (buffer_of (buffers_at b node) range)) [])) 16 ≡ true
  go true = le_true _ (few node range)
  go false = refl

pub collect_allowed : (b : Buffered) → ((node range : ℕ) → length (given (buffer_of (buffers_at b node) range)) ≤ 16) → (node range : ℕ) → is_allowed_in b (events.Collect node range) ≡ true
collect_allowed b few node range = few_taken b few node range

-- the widths of what happens
abbrev FitsBy : Option Happening → Type 0
FitsBy None = Unit {0}
FitsBy (Some what) = HasWidths what

fits_by : (b : Buffered) (e : WorldEvent) → FitsEvent e → FitsBy (happening_of b e)
fits_by b (events.Admit node range id request) fits = fits
fits_by b (events.Ask node range) fits = tt
fits_by b (events.Transfer node range to) fits = tt
fits_by b (events.Collect node range) fits = tt
fits_by b (events.Flush node range) fits = tt
fits_by b (events.Tick node) fits = tt
fits_by b (events.Deliver node from number) fits = tt
fits_by b (events.Apply node range) fits = tt
fits_by b (events.Cut node range) fits = tt
fits_by b (events.Remove node range) fits = tt
fits_by b (events.Peek node range key) fits = tt
fits_by b (events.Restart node) fits = tt
fits_by b (events.Round node) fits = tt
fits_by b (events.Draw node range) fits = tt
fits_by b (events.Publish node range place item) fits = tt

-- what is lawful comes
pub lawful_comes : (k : ℕ) (b : Buffered) (e : WorldEvent) → IsReached k b.nodes → is_lawful_in b e ≡ true → FitsEvent e → Comes b e
lawful_comes k b e reached lawful fits = record { comes = go (happening_of b e) (fits_by b e fits) lawful } where
  go : (o : Option Happening) → FitsBy o → option_map_or (λ what. is_lawful b.nodes (scene_at (node_in e) what)) o false ≡ true → ComesBy b (node_in e) o
  go None f l = absurd cc
  go (Some what) f l = comes_as k b reached (node_in e) what (record { lawful = l; widths = f })

-- what is not lawful is skipped
at_still : (b : Buffered) (node : ℕ) (what : Happening) → is_lawful b.nodes (scene_at node what) ≡ false → at_node b node what ≡ b
at_still b node what out = ap (λ (v : Bool). record b { nodes = happens_if v b.nodes (scene_at node what) }) out

collect_still : (b : Buffered) (node range : ℕ) → is_lawful b.nodes (scene_at node (Collect range (taken_at b node range))) ≡ false → collected b node range ≡ b
collect_still b node range out = go (has_live b.nodes node range) out where
  items : List Item
  items = given (buffer_of (buffers_at b node) range)

  go : (v : Bool) → is_lawful b.nodes (scene_at node (Collect range (cond v items []))) ≡ false → cond v (collects b node range items) (at_node b node (Collect range [])) ≡ b
  go true l = ap (λ v. cond v (changed (at_node b node (Collect range items)) node range after_collect) b) l
  go false l = at_still b node (Collect range []) l

pub unlawful_still : (b : Buffered) (e : WorldEvent) → IsAtNode e → is_lawful_in b e ≡ false → buffered_step b e ≡ b
unlawful_still b (events.Admit node range id request) at out = at_still b node (Admit range id request) out
unlawful_still b (events.Ask node range) at out = at_still b node (Ask range) out
unlawful_still b (events.Transfer node range to) at out = at_still b node (Transfer range to) out
unlawful_still b (events.Collect node range) at out = collect_still b node range out
unlawful_still b (events.Flush node range) at out = at_still b node (Flush range) out
unlawful_still b (events.Tick node) at out = at_still b node Tick out
unlawful_still b (events.Deliver node from number) at out = at_still b node (Deliver from number) out
unlawful_still b (events.Apply node range) at out = at_still b node (Apply range) out
unlawful_still b (events.Cut node range) at out = at_still b node (Cut range) out
unlawful_still b (events.Remove node range) at out = at_still b node (Remove range) out
unlawful_still b (events.Peek node range key) at out = at_still b node (Peek range key) out
unlawful_still b (events.Restart node) at out = at_still b node Restart out
unlawful_still b (events.Round node) at out = at_still b node Round out
unlawful_still b (events.Draw node range) at out = absurd at
unlawful_still b (events.Publish node range place item) at out = absurd at

pub unlawful_ran : (p : Player) (e : WorldEvent) → IsAtNode e → is_lawful_in p.world e ≡ false → ran e p ≡ p
unlawful_ran p (events.Admit node range id request) at out =
    let e : WorldEvent = events.Admit node range id request in
    ap (λ v. happened e (cond v (with_booking id (booking request node range) p) p)) out ∙ ap (λ w. record p { world = w }) (unlawful_still p.world e at out)
unlawful_ran p (events.Ask node range) at out = ap (λ w. record p { world = w }) (unlawful_still p.world (events.Ask node range) at out)
unlawful_ran p (events.Transfer node range to) at out = ap (λ w. record p { world = w }) (unlawful_still p.world (events.Transfer node range to) at out)
unlawful_ran p (events.Collect node range) at out = ap (λ w. record p { world = w }) (unlawful_still p.world (events.Collect node range) at out)
unlawful_ran p (events.Flush node range) at out = ap (λ w. record p { world = w }) (unlawful_still p.world (events.Flush node range) at out)
unlawful_ran p (events.Tick node) at out = ap (λ w. record p { world = w }) (unlawful_still p.world (events.Tick node) at out)
unlawful_ran p (events.Deliver node from number) at out = ap (λ w. record p { world = w }) (unlawful_still p.world (events.Deliver node from number) at out)
unlawful_ran p (events.Apply node range) at out = ap (λ w. record p { world = w }) (unlawful_still p.world (events.Apply node range) at out)
unlawful_ran p (events.Cut node range) at out = ap (λ w. record p { world = w }) (unlawful_still p.world (events.Cut node range) at out)
unlawful_ran p (events.Remove node range) at out = ap (λ w. record p { world = w }) (unlawful_still p.world (events.Remove node range) at out)
unlawful_ran p (events.Peek node range key) at out = ap (λ w. record p { world = w }) (unlawful_still p.world (events.Peek node range key) at out)
unlawful_ran p (events.Restart node) at out = ap (λ w. record p { world = w }) (unlawful_still p.world (events.Restart node) at out)
unlawful_ran p (events.Round node) at out = ap (λ w. record p { world = w }) (unlawful_still p.world (events.Round node) at out)
unlawful_ran p (events.Draw node range) at out = absurd at
unlawful_ran p (events.Publish node range place item) at out = absurd at

-- what is lawful happens, and an admission stands in the book
pub admission_ran : (p : Player) (e : WorldEvent) (node range : ℕ) (id : CmdId) (request : Request) (b : Booked) → e ≡ events.Admit node range id request → is_lawful_in p.world e ≡ true → b ≡ booking request node range
    → happened (admission id b) (with_booking id b p) ≡ ran e p
admission_ran p e node range id request b is lawful by =
    ap (λ c. happened (admission id c) (with_booking id c p)) by
    ∙ sym (ap (λ v. happened (events.Admit node range id request) (cond v (with_booking id (booking request node range) p) p)) (ap (is_lawful_in p.world) (sym is) ∙ lawful))
    ∙ ap (λ x. ran x p) (sym is)

pub other_ran : (p : Player) (e : WorldEvent) → IsNoAdmission e → happened e p ≡ ran e p
other_ran p (events.Admit node range id request) none = absurd none
other_ran p (events.Ask node range) none = refl
other_ran p (events.Transfer node range to) none = refl
other_ran p (events.Collect node range) none = refl
other_ran p (events.Flush node range) none = refl
other_ran p (events.Tick node) none = refl
other_ran p (events.Deliver node from number) none = refl
other_ran p (events.Apply node range) none = refl
other_ran p (events.Cut node range) none = refl
other_ran p (events.Remove node range) none = refl
other_ran p (events.Peek node range key) none = refl
other_ran p (events.Restart node) none = refl
other_ran p (events.Round node) none = refl
other_ran p (events.Draw node range) none = refl
other_ran p (events.Publish node range place item) none = refl

-- what is left at success, by another name
pub ok_is : {A E : Type 0} (r : Result A E) (q x y : Player) → OnOk r (q ≡ x) → x ≡ y → OnOk r (q ≡ y)
ok_is (Ok a) q x y is same = is ∙ same
ok_is (Err e) q x y is same = tt

-- of the nodes and the buffers they leave what the events make of them
ran_world : (e : WorldEvent) (p : Player) → (ran e p).world ≡ buffered_step p.world e
ran_world (events.Admit node range id request) p = go (is_lawful_in p.world (events.Admit node range id request)) where
  go : (v : Bool) → (happened (events.Admit node range id request) (cond v (with_booking id (booking request node range) p) p)).world ≡ buffered_step p.world (events.Admit node range id request)
  go true = refl
  go false = refl
ran_world (events.Ask node range) p = refl
ran_world (events.Transfer node range to) p = refl
ran_world (events.Collect node range) p = refl
ran_world (events.Flush node range) p = refl
ran_world (events.Tick node) p = refl
ran_world (events.Deliver node from number) p = refl
ran_world (events.Apply node range) p = refl
ran_world (events.Cut node range) p = refl
ran_world (events.Remove node range) p = refl
ran_world (events.Peek node range key) p = refl
ran_world (events.Restart node) p = refl
ran_world (events.Round node) p = refl
ran_world (events.Draw node range) p = refl
ran_world (events.Publish node range place item) p = refl

pub ran_all_world : (es : List WorldEvent) (p : Player) → (ran_all es p).world ≡ buffered_run p.world es
ran_all_world [] p = refl
ran_all_world (e ∷ es) p = ran_all_world es (ran e p) ∙ ap (λ b. buffered_run b es) (ran_world e p)

-- buffers of a node that is not there stay
set_past : {A : Type 0} (xs : List A) (i : ℕ) (x : A) → length xs ≤ i → set xs i x ≡ xs
set_past [] i x h = refl
set_past (y ∷ xs) zero x h = absurd (omega (arith, h))
set_past (y ∷ xs) (suc i) x h = ap (λ l. y ∷ l) (set_past xs i x (omega (arith, h)))

pub changed_still : (xs : List (Held (List Buffer))) (node range : ℕ) (change : Buffer → Buffer) → length xs < node → changed (buffered_of xs) node range change ≡ buffered_of xs
changed_still xs node range change past =
    let size = length-map xs (λ (h : Held (List Buffer)). h.end) in
    ap (λ l. record { nodes = map (λ h. h.node) xs; buffers = l })
    (set_past (map (λ h. h.end) xs) (node - 1) (with_buffer (buffers_at (buffered_of xs) node) range (change (buffer_of (buffers_at (buffered_of xs) node) range))) (omega (arith, size, past)))

-- a reached world stays one
abbrev Reached : World → Type 0
Reached w = IsReached (length w) w

scene_reached : (w : World) (x : Scene) → HasWidths x.what → Reached w → Reached (happens_if (is_lawful w x) w x)
scene_reached w x widths reached = go (is_lawful w x) refl where
  go : (v : Bool) → is_lawful w x ≡ v → Reached (happens_if v w x)
  go true l = subst (λ n. IsReached n (happens w x)) (sym (as_many w x)) (reached_by (length w) w reached x (record { lawful = l; widths = widths }))
  go false l = reached

collect_reached : (b : Buffered) (node range : ℕ) → Reached b.nodes → Reached (collected b node range).nodes
collect_reached b node range reached = go (has_live b.nodes node range) where
  items : List Item
  items = given (buffer_of (buffers_at b node) range)

  inner : (v : Bool) → Reached (cond v (changed (at_node b node (Collect range items)) node range after_collect) b).nodes
  inner true = scene_reached b.nodes (scene_at node (Collect range items)) tt reached
  inner false = reached

  go : (v : Bool) → Reached (cond v (collects b node range items) (at_node b node (Collect range []))).nodes
  go true = inner (is_lawful b.nodes (scene_at node (Collect range items)))
  go false = scene_reached b.nodes (scene_at node (Collect range [])) tt reached

pub step_reached : (b : Buffered) (e : WorldEvent) → FitsEvent e → Reached b.nodes → Reached (buffered_step b e).nodes
step_reached b (events.Admit node range id request) fits reached = scene_reached b.nodes (scene_at node (Admit range id request)) fits reached
step_reached b (events.Ask node range) fits reached = scene_reached b.nodes (scene_at node (Ask range)) tt reached
step_reached b (events.Transfer node range to) fits reached = scene_reached b.nodes (scene_at node (Transfer range to)) tt reached
step_reached b (events.Collect node range) fits reached = collect_reached b node range reached
step_reached b (events.Flush node range) fits reached = scene_reached b.nodes (scene_at node (Flush range)) tt reached
step_reached b (events.Tick node) fits reached = scene_reached b.nodes (scene_at node Tick) tt reached
step_reached b (events.Deliver node from number) fits reached = scene_reached b.nodes (scene_at node (Deliver from number)) tt reached
step_reached b (events.Apply node range) fits reached = scene_reached b.nodes (scene_at node (Apply range)) tt reached
step_reached b (events.Cut node range) fits reached = scene_reached b.nodes (scene_at node (Cut range)) tt reached
step_reached b (events.Remove node range) fits reached = scene_reached b.nodes (scene_at node (Remove range)) tt reached
step_reached b (events.Peek node range key) fits reached = scene_reached b.nodes (scene_at node (Peek range key)) tt reached
step_reached b (events.Restart node) fits reached = scene_reached b.nodes (scene_at node Restart) tt reached
step_reached b (events.Round node) fits reached = scene_reached b.nodes (scene_at node Round) tt reached
step_reached b (events.Draw node range) fits reached = reached
step_reached b (events.Publish node range place item) fits reached = reached

take_whole : {A : Type 0} (xs : List A) (i : ℕ) → length xs ≤ i → take i xs ≡ xs
take_whole [] zero h = refl
take_whole [] (suc i) h = refl
take_whole (x ∷ xs) zero h = absurd (omega (arith, h))
take_whole (x ∷ xs) (suc i) h = ap (λ l. x ∷ l) (take_whole xs i (omega (arith, h)))

pub all_ran_world : (p q : Player) (es : List WorldEvent) (i : ℕ) → length es ≤ i → q ≡ ran_all (take i es) p → q.world ≡ buffered_run p.world es
all_ran_world p q es i past is =
    ap (λ (m : Player). m.world) (is ∙ ap (λ l. ran_all l p) (take_whole es i past)) ∙ ran_all_world es p

pub ran_reached : (p : Player) (e : WorldEvent) → FitsEvent e → IsReached (length p.world.nodes) p.world.nodes → IsReached (length (ran e p).world.nodes) (ran e p).world.nodes
ran_reached p e fits reached = subst (λ (b : Buffered). IsReached (length b.nodes) b.nodes) (sym (ran_world e p)) (step_reached p.world e fits reached)

-- one event more
run_further : (p : Player) (es : List WorldEvent) (e : WorldEvent) → ran_all (es ++ e ∷ []) p ≡ ran e (ran_all es p)
run_further p [] e = refl
run_further p (x ∷ es) e = run_further (ran x p) es e

pub run_on : (p before : Player) (es : List WorldEvent) (i : ℕ) (e : WorldEvent) → i < length es → e ≡ get_or es i e → before ≡ ran_all (take i es) p
    → ran e before ≡ ran_all (take (i + 1) es) p
run_on p before es i e within is so_far =
    ap (ran e) so_far ∙ sym (run_further p (take i es) e)
    ∙ ap (λ l. ran_all l p) (ap (λ x. take i es ++ x ∷ []) is ∙ sym (take_more es i e within))

-- an event that is no admission
pub no_admission : (e : WorldEvent) → ((node range : ℕ) (id : CmdId) (request : Request) → e ≡ events.Admit node range id request → ⊥) → IsNoAdmission e
no_admission (events.Admit node range id request) none = none node range id request refl
no_admission (events.Ask node range) none = tt
no_admission (events.Transfer node range to) none = tt
no_admission (events.Collect node range) none = tt
no_admission (events.Flush node range) none = tt
no_admission (events.Tick node) none = tt
no_admission (events.Deliver node from number) none = tt
no_admission (events.Apply node range) none = tt
no_admission (events.Cut node range) none = tt
no_admission (events.Remove node range) none = tt
no_admission (events.Peek node range key) none = tt
no_admission (events.Restart node) none = tt
no_admission (events.Round node) none = tt
no_admission (events.Draw node range) none = tt
no_admission (events.Publish node range place item) none = tt

-- the attempt that the book has was refused, and what it asked for
pub refused_for : (w : World) (id : CmdId) (request asked : Request) → was_refused w id ≡ true → asked_request w id ≡ Some asked → same_request request asked ≡ was_refused_for w id request
refused_for w id request asked refused is =
    sym (ap (λ v. v && option_map_or (same_request request) (asked_request w id) false) refused
    ∙ ap (λ o. option_map_or (same_request request) o false) is)

-- what was not asked was not refused
pub refused_none : (w : World) (id : CmdId) (request : Request) → was_asked w id ≡ false → false ≡ was_refused_for w id request
refused_none w id request none = sym (ap (λ v. v && option_map_or (same_request request) (asked_request w id) false) (go (outcome_of w id) (asked_known w id ∙ none))) where
  go : (o : Option Outcome) → is_some o ≡ false → option_map_or is_refusal o false ≡ false
  go None h = refl
  go (Some o) h = absurd cc
