-- The nodes with their buffers, and what is kept beside them, along events.
use Rattle.std.specs.Prelude.{not, ◌&&◌, ◌||◌, ◌==◌, nat_lt, is_some}
use Rattle.std.specs.Option.{option_map, option_map_or}
use Rattle.std.proofs.Common.{◌≡◌, ℕ, ◌+◌, ◌-◌, ◌<◌, ◌≤◌, min, Bool, true, false, cond, Option, None, Some, List, [], drop, length, map, refl, sym, ap, subst, ◌∙◌, arith}
use Rattle.std.proofs.lemmas.List.{length-map}
use Rattle.rp_bufcore.specs.Buffers.{Buffer, buffer_of, fresh, with_buffer}
use Rattle.rp_base.specs.Ids.{same_id}
use Rattle.rp_base.specs.declared.ids.CmdId.{CmdId}
use Rattle.rp_request.specs.Attempts.{previous}
use Rattle.rp_request.specs.Requests.{same_request}
use Rattle.rp_request.specs.declared.outcomes.Outcome.{Outcome}
use Rattle.rp_request.specs.declared.outcomes.Outcome.TheVariants as outcomes
use Rattle.rp_request.specs.declared.requests.Request.{Request}
use Rattle.rp_book.specs.declared.bookings.Booked.{Booked}
use Rattle.rp_events.specs.declared.answers.EventAnswer.TheVariants as answers_are
use Rattle.rp_events.specs.Nodes.{Node, is_full}
use Rattle.rp_told.specs.Outcomes.{first_outcome}
use Rattle.rp_told.specs.Turns.{answer_of}
use Rattle.rp_request.specs.Applied.{AppliedState}
use Rattle.rp_script.specs.Bounds.{IsNode}
use Rattle.rp_events.specs.declared.answers.Ended.{Ended}
use Rattle.rp_events.specs.declared.answers.EventAnswer.{EventAnswer}
use Rattle.rp_events.specs.declared.parcels.Parcel.{Parcel}
use Rattle.rp_events.specs.Lawful.{IsReached, is_allowed, was_refused}
use Rattle.rp_book.specs.Books.{BookState, booked, booking_of, told_of}
use Rattle.rp_events.specs.declared.world_events.WorldEvent.{WorldEvent}
use Rattle.rp_events.specs.Worlds.{World, Scene, Admit, asked_request, happens, node_of, sent_by, was_asked}
use Rattle.rp_events.specs.Buffered.{Buffered, buffered_step, buffers_at, changed}
use Rattle.rp_lawful.specs.Comings.{Comes, node_in, scene_at}
use Rattle.rp_lines.specs.Players.{Player, weight, most_count}
use Rattle.rp_node.specs.Steps.{Held}
use Rattle.rp_node.specs.Several.{end_at, with_end_at}
use Rattle.rp_world.specs.Comes.{Happens, IsNoAdmission, answer_in, buffered_of, ended_by}
use Rattle.rp_world.specs.Keeping.{IsBookOf, IsKept, told_after}
use Rattle.rp_world.specs.Plays.{admission}
use Rattle.rp_world.proofs.Below.{step_nodes, turns_there}
use Rattle.rp_world.proofs.Telling.{new_book}
use Rattle.rp_world.specs.Weighing.{HasPlaces, IsWeighed, capped, load}
use Rattle.rp_world.proofs.Happening.{ended_within, happened_book, happened_weight, sent_within}
use Rattle.rp_world.proofs.Sixteen.{places_step}
use Rattle.rp_world.proofs.Stepping.{end_changed, end_here}

abbrev Ends : Type 0
Ends = List (Held (List Buffer))

held_there : (old : Ends) (b : Buffered) (node : ℕ) → buffered_of old ≡ b → IsNode (length b.nodes) node → IsNode (length old) node
held_there old b node view at =
    let many : length b.nodes ≡ length old = ap (λ (x : Buffered). length x.nodes) (sym view) ∙ length-map old (λ h. h.node) in
    (at.0, omega (arith, at.1, many))

-- a buffer end changes
pub staged : (old new : Ends) (b : Buffered) (node range : ℕ) (change : Buffer → Buffer) → buffered_of old ≡ b → IsNode (length b.nodes) node
    → new ≡ with_end_at (λ end. with_buffer end range (change (buffer_of end range))) old node → buffered_of new ≡ changed b node range change
staged old new b node range change view at is =
    ap buffered_of is ∙ end_changed old node range change (held_there old b node view at) ∙ ap (λ x. changed x node range change) view

pub ended_at : (old : Ends) (b : Buffered) (node : ℕ) → buffered_of old ≡ b → IsNode (length b.nodes) node → end_at fresh old node ≡ buffers_at b node
ended_at old b node view at = end_here old node (held_there old b node view at) ∙ ap (λ x. buffers_at x node) view

-- an event that leaves the nodes leaves the weight
pub weighed_stays : (old new : Ends) (counted : ℕ) (e : WorldEvent) → buffered_of new ≡ buffered_step (buffered_of old) e → (buffered_step (buffered_of old) e).nodes ≡ (buffered_of old).nodes
    → IsWeighed old counted → IsWeighed new counted
weighed_stays old new counted e is nodes w = record {
  weighs = w.weighs ∙ ap (λ v. capped (weight v)) (sym (ap (λ (x : Buffered). x.nodes) is ∙ nodes));
  places = subst HasPlaces (sym is) (places_step (buffered_of old) e w.places);
}

-- an event of a node adds what is new
pub weighed_more : (old new : Ends) (counted more : ℕ) (e : WorldEvent) → Comes (buffered_of old) e → buffered_of new ≡ buffered_step (buffered_of old) e
    → more ≡ capped (load (drop (length (sent_by (buffered_of old).nodes (node_in e))) (sent_by (buffered_of new).nodes (node_in e))))
    → IsWeighed old counted → IsWeighed new (min (counted + more) most_count)
weighed_more old new counted more e c is adds w = record {
  weighs = happened_weight (buffered_of old) e c (buffered_of new).nodes (ap (λ (x : Buffered). x.nodes) is) counted more w.weighs adds;
  places = subst HasPlaces (sym is) (places_step (buffered_of old) e w.places);
}

-- an event of a node, by what is read before it and after it
pub step_within : (old new : Ends) (b : Buffered) (e : WorldEvent) (answer : EventAnswer) (node : ℕ) (xs ys : List (Parcel AppliedState)) → buffered_of old ≡ b → Comes b e → Happens old e new answer → node ≡ node_in e
    → xs ≡ sent_by (buffered_of old).nodes node → ys ≡ sent_by (buffered_of new).nodes node → length xs ≤ length ys
step_within old new b e answer node xs ys view c h at was now =
    let within = sent_within (buffered_of old) e (subst (λ x. Comes x e) (sym view) c) (buffered_of new).nodes (ap (λ (x : Buffered). x.nodes) h.left) in
    omega (arith, within, ap length (was ∙ ap (sent_by (buffered_of old).nodes) at), ap length (now ∙ ap (sent_by (buffered_of new).nodes) at))

pub step_weighed : (old new : Ends) (b : Buffered) (e : WorldEvent) (answer : EventAnswer) (node : ℕ) (xs ys : List (Parcel AppliedState)) (counted more sum : ℕ) → buffered_of old ≡ b → Comes b e → Happens old e new answer → node ≡ node_in e
    → xs ≡ sent_by (buffered_of old).nodes node → ys ≡ sent_by (buffered_of new).nodes node → more ≡ capped (load (drop (length xs) ys)) → sum ≡ min (counted + more) most_count → IsWeighed old counted → IsWeighed new sum
step_weighed old new b e answer node xs ys counted more sum view c h at was now adds is w =
    subst (IsWeighed new) (sym is)
    (weighed_more old new counted more e (subst (λ x. Comes x e) (sym view) c) h.left
    (adds ∙ ap (λ l. capped (load (drop (length l) ys))) (was ∙ ap (sent_by (buffered_of old).nodes) at)
    ∙ ap (λ l. capped (load (drop (length (sent_by (buffered_of old).nodes (node_in e))) l))) (now ∙ ap (sent_by (buffered_of new).nodes) at)) w)

-- the same of what ended
pub ended_more : (b new : Buffered) (p : Player) (e : WorldEvent) (node : ℕ) (xs ys : List Ended) → b ≡ p.world → Comes p.world e → new ≡ buffered_step b e → node ≡ node_in e
    → xs ≡ ended_by b.nodes node → ys ≡ ended_by new.nodes node → length xs ≤ length ys
ended_more b new p e node xs ys view c is at was now =
    let within = ended_within b e (subst (λ x. Comes x e) (sym view) c) new.nodes (ap (λ (x : Buffered). x.nodes) is) in
    omega (arith, within, ap length (was ∙ ap (ended_by b.nodes) at), ap length (now ∙ ap (ended_by new.nodes) at))

pub happen_kept : (b new : Buffered) (p : Player) (e : WorldEvent) (node : ℕ) (xs ys : List Ended) (s t : BookState) (events : ℕ) → b ≡ p.world → IsReached (length p.world.nodes) p.world.nodes → Comes p.world e → IsNoAdmission e
    → new ≡ buffered_step b e → node ≡ node_in e → xs ≡ ended_by b.nodes node → ys ≡ ended_by new.nodes node → t.entries ≡ s.entries
    → ((id : CmdId) → told_of id t.told ≡ told_after (drop (length xs) ys) id (told_of id s.told)) → IsKept b.nodes s events → IsKept new.nodes t events
happen_kept b new p e node xs ys s t events view reached c no_admission is at was now entries told kept = record {
  book = happened_book (length b.nodes) b e (subst (λ (x : Buffered). IsReached (length x.nodes) x.nodes) (sym view) reached) (subst (λ x. Comes x e) (sym view) c) no_admission
      new.nodes (ap (λ (x : Buffered). x.nodes) is) s t entries
      (λ id. told id ∙ ap (λ l. told_after (drop (length l) ys) id (told_of id s.told)) (was ∙ ap (ended_by b.nodes) at)
      ∙ ap (λ l. told_after (drop (length (ended_by b.nodes (node_in e))) l) id (told_of id s.told)) (now ∙ ap (ended_by new.nodes) at)) kept.book;
  few = kept.few;
}

-- the same of an admission
first_told : (id other : CmdId) (first : Outcome) (s r t u : BookState) → ((o : CmdId) → told_of o r.told ≡ told_of o s.told)
    → ((o : CmdId) → told_of o t.told ≡ cond (same_id o id) (Some outcomes.Pending) (told_of o r.told))
    → ((o : CmdId) → told_of o u.told ≡ cond (same_id o id) (option_map (λ _. first) (told_of o t.told)) (told_of o t.told))
    → told_of other u.told ≡ cond (same_id other id) (Some first) (told_of other s.told)
first_told id other first s r t u made put told = go (same_id other id) refl where
  go : (c : Bool) → same_id other id ≡ c → told_of other u.told ≡ cond (same_id other id) (Some first) (told_of other s.told)
  go true same =
      told other ∙ ap (λ b. cond b (option_map (λ (_ : Outcome). first) (told_of other t.told)) (told_of other t.told)) same
      ∙ ap (option_map (λ (_ : Outcome). first)) (put other ∙ ap (λ b. cond b (Some outcomes.Pending) (told_of other r.told)) same)
      ∙ sym (ap (λ b. cond b (Some first) (told_of other s.told)) same)
  go false same =
      told other ∙ ap (λ b. cond b (option_map (λ (_ : Outcome). first) (told_of other t.told)) (told_of other t.told)) same
      ∙ put other ∙ ap (λ b. cond b (Some outcomes.Pending) (told_of other r.told)) same ∙ made other
      ∙ sym (ap (λ b. cond b (Some first) (told_of other s.told)) same)

admit_book : (b new : Buffered) (id : CmdId) (bk : Booked) (answer : EventAnswer) (s u : BookState) → IsReached (length b.nodes) b.nodes → Comes b (admission id bk) → new ≡ buffered_step b (admission id bk)
    → answer ≡ answer_in new.nodes bk.node → u.entries ≡ booked id bk s.entries
    → ((other : CmdId) → told_of other u.told ≡ cond (same_id other id) (Some (first_outcome answer)) (told_of other s.told)) → IsBookOf b.nodes s → IsBookOf new.nodes u
admit_book b new id bk answer s u reached c is answers entries told book =
    let x : Scene = scene_at bk.node (Admit bk.range id bk.request) in
    let t = turns_there b.nodes x c.comes.lawful in
    let left : new.nodes ≡ happens b.nodes x = ap (λ (z : Buffered). z.nodes) is ∙ step_nodes b (admission id bk) c (Admit bk.range id bk.request) refl in
    let same : answer ≡ answer_of t.1 = answers ∙ ap (λ w. answer_in w bk.node) left ∙ ap (λ o. option_map_or answer_of o answers_are.Done) t.2.left in
    subst (λ w. IsBookOf w u) (sym left)
    (new_book (length b.nodes) b.nodes bk.node bk.range id bk.request t.0 t.1 reached t.2 s u bk refl entries
    (λ other. told other ∙ ap (λ a. cond (same_id other id) (Some (first_outcome a)) (told_of other s.told)) same) book)

pub admit_kept : (b new : Buffered) (p : Player) (id : CmdId) (bk : Booked) (answer : EventAnswer) (s r t u : BookState) (first : Outcome) (events : ℕ) → b ≡ p.world → IsReached (length p.world.nodes) p.world.nodes
    → Comes p.world (admission id bk) → new ≡ buffered_step b (admission id bk) → answer ≡ answer_in new.nodes bk.node → first ≡ first_outcome answer
    → r.entries ≡ s.entries → ((o : CmdId) → told_of o r.told ≡ told_of o s.told)
    → t.entries ≡ booked id bk r.entries → ((o : CmdId) → told_of o t.told ≡ cond (same_id o id) (Some outcomes.Pending) (told_of o r.told))
    → u.entries ≡ t.entries → ((o : CmdId) → told_of o u.told ≡ cond (same_id o id) (option_map (λ _. first) (told_of o t.told)) (told_of o t.told))
    → IsKept b.nodes s events → IsKept new.nodes u events
admit_kept b new p id bk answer s r t u first events view reached c is answers firsts made_entries made put_entries put told_entries told kept = record {
  book = admit_book b new id bk answer s u (subst (λ (x : Buffered). IsReached (length x.nodes) x.nodes) (sym view) reached) (subst (λ x. Comes x (admission id bk)) (sym view) c) is answers
      (told_entries ∙ put_entries ∙ ap (booked id bk) made_entries)
      (λ other. first_told id other first s r t u made put told ∙ ap (λ f. cond (same_id other id) (Some f) (told_of other s.told)) firsts) kept.book;
  few = kept.few;
}

-- an attempt that may ask was not asked
lawful_asks : (full asked more : Bool) → (not full && (not asked && more)) ≡ true → asked ≡ false
lawful_asks true asked more h = absurd cc
lawful_asks false true more h = absurd cc
lawful_asks false false more h = refl

not_asked : (w : World) (node range : ℕ) (id : CmdId) (request : Request) (o : Option Node)
    → option_map_or (λ (n : Node). not (is_full n) && is_allowed w node (Admit range id request)) o false ≡ true → was_asked w id ≡ false
not_asked w node range id request None h = absurd cc
not_asked w node range id request (Some n) h =
    lawful_asks (is_full n) (was_asked w id)
    (id.attempt == 1 || (nat_lt 1 id.attempt && was_refused w (previous id) && option_map_or (same_request request) (asked_request w (previous id)) false)) h

none_of : (o : Option Booked) → is_some o ≡ false → o ≡ None
none_of None h = refl
none_of (Some b) h = absurd cc

-- so it stands in no book
pub unbooked : (b : Buffered) (p : Player) (id : CmdId) (bk : Booked) (s r : BookState) (events : ℕ) → b ≡ p.world → Comes p.world (admission id bk) → r.entries ≡ s.entries → IsKept b.nodes s events
    → booking_of id r.entries ≡ None
unbooked b p id bk s r events view c made kept =
    ap (booking_of id) made
    ∙ none_of (booking_of id s.entries) (kept.book.asked id ∙ ap (λ (x : Buffered). was_asked x.nodes id) view
    ∙ not_asked p.world.nodes bk.node bk.range id bk.request (node_of p.world.nodes bk.node) c.comes.lawful.lawful)
