-- An event at one of the nodes is the event of the world with buffers.
use Rattle.std.proofs.Common.{◌≡◌, ℕ, zero, suc, ◌+◌, ◌-◌, Bool, true, false, Option, None, Some, List, [], ◌∷◌, ◌++◌, map, set, length, refl, sym, ap, subst, ◌∙◌, arith, slice_get, slice_index_or, cond, IsTrue, Result, Ok, Err, IfOk, ◌<◌, ◌≤◌}
use Rattle.std.specs.Option.{option_map, option_map_or}
use Rattle.std.proofs.lemmas.List.{length-append, map-set}
use Rattle.rp_base.specs.declared.items.Item.{Item}
use Rattle.rp_bufcore.specs.Buffers.{Buffer, Collects, buffer_of, with_buffer, fresh, given, after_collect}
use Rattle.rp_request.specs.Applied.{AppliedState}
use Rattle.rp_events.specs.declared.answers.EventAnswer.{EventAnswer}
use Rattle.rp_events.specs.declared.answers.EventAnswer.TheVariants as answers
use Rattle.rp_events.specs.declared.parcels.Parcel.{Parcel}
use Rattle.rp_events.specs.declared.node_events.Event.{Event}
use Rattle.rp_events.specs.declared.node_events.Event.TheVariants as node_events
use Rattle.rp_events.specs.declared.world_events.WorldEvent.{WorldEvent}
use Rattle.rp_events.specs.declared.world_events.WorldEvent.TheVariants as events
use Rattle.rp_events.specs.Nodes.{Node, NodeDone, Status, Absent, Live, Removed, seat, parcel_of}
use Rattle.rp_events.specs.declared.journals.JournalEntry.{JournalEntry}
use Rattle.rp_events.specs.NodeEvents.{acted, past_of, step}
use Rattle.rp_events.specs.Worlds.{World, Scene, node_of, with_node, sent_by, delivery, event_of, taken_in, after_step, happens_at, happens, Happening, Admit, Ask, Transfer, Collect, Flush, Tick, Deliver, Apply, Cut, Remove, Peek, Restart, Round}
use Rattle.rp_events.specs.Lawful.{is_lawful, happens_if}
use Rattle.rp_events.specs.Buffered.{Buffered, at_node, buffered_step, buffers_at, changed, collected, collects, has_live, is_live}
use Rattle.rp_book.specs.Books.{last_of}
use Rattle.rp_journals.proofs.Growing.{with_same}
use Rattle.rp_journals.proofs.Lists.{get_end}
use Rattle.rp_node.specs.Steps.{Held, IsLeft, Collected, Taken, Steps}
use Rattle.rp_node.specs.Several.{HasThatMay, StepsAt, end_at, held_at, with_end_at}
use Rattle.rp_base.specs.declared.memory.NoMemory.{NoMemory}
use Rattle.rp_events.specs.MaySteps.{MayStep}
use Rattle.rp_script.specs.Bounds.{IsNode}
use Rattle.std.specs.Prelude.{option_and_then}
use Rattle.rp_lawful.specs.Comings.{Comes, ComesAs, ComesBy, happening_of, node_in, scene_at, taken_at}
use Rattle.rp_world.specs.Comes.{Happens, answer_in, buffered_of, is_peek, is_value, node_event}
use Rattle.rp_world.proofs.Answering.{reads_key, step_tells_none}
use Rattle.rp_world.proofs.Places.{get_map, index_of, set_stays}

abbrev Ends : Type 0
Ends = List (Held (List Buffer))

-- the node that is held
pub held_node : (old : Ends) (node : ℕ) (h : Held (List Buffer)) → held_at old node ≡ Some h
    → node_of (buffered_of old).nodes node ≡ Some h.node
held_node old zero h e = absurd (nothing e) where
  nothing : ◌≡◌ {A = Option (Held (List Buffer))} None (Some h) → ⊥
  nothing e = cc
held_node old (suc place) h e = get_map (λ k. k.node) old place h e

-- its buffers
pub held_end : (old : Ends) (node : ℕ) (h : Held (List Buffer)) → held_at old node ≡ Some h
    → buffers_at (buffered_of old) node ≡ h.end
held_end old zero h e = absurd (nothing e) where
  nothing : ◌≡◌ {A = Option (Held (List Buffer))} None (Some h) → ⊥
  nothing e = cc
held_end old (suc place) h e =
    let i : suc place - 1 ≡ place = omega arith in
    ap (λ k. slice_index_or (map (λ n. n.end) old) k fresh) i
    ∙ index_of (map (λ n. n.end) old) place h.end fresh (get_map (λ k. k.end) old place h e)

-- a changed node among them
pub with_held : (old : Ends) (node : ℕ) (h after : Held (List Buffer)) → held_at old node ≡ Some h
    → (buffered_of (set old (node - 1) after)).nodes ≡ with_node (buffered_of old).nodes node after.node
with_held old zero h after e = absurd (nothing e) where
  nothing : ◌≡◌ {A = Option (Held (List Buffer))} None (Some h) → ⊥
  nothing e = cc
with_held old (suc place) h after e =
    let i : suc place - 1 ≡ place = omega arith in
    ap (λ k. map (λ n. n.node) (set old k after)) i ∙ map-set (λ n. n.node) old place after

-- its buffers among all
pub with_ends : (old : Ends) (node : ℕ) (h after : Held (List Buffer))
    → (buffered_of (set old (node - 1) after)).buffers ≡ set (buffered_of old).buffers (node - 1) after.end
with_ends old node h after = map-set (λ n. n.end) old (node - 1) after

-- the buffers stay where its own do
pub same_ends : (old : Ends) (node : ℕ) (h after : Held (List Buffer)) → held_at old node ≡ Some h → after.end ≡ h.end
    → (buffered_of (set old (node - 1) after)).buffers ≡ (buffered_of old).buffers
same_ends old zero h after e same = absurd (nothing e) where
  nothing : ◌≡◌ {A = Option (Held (List Buffer))} None (Some h) → ⊥
  nothing e = cc
same_ends old (suc place) h after e same =
    let i : suc place - 1 ≡ place = omega arith in
    ap (λ k. map (λ n. n.end) (set old k after)) i ∙ map-set (λ n. n.end) old place after
    ∙ ap (λ b. set (map (λ n. n.end) old) place b) same
    ∙ set_stays (map (λ n. n.end) old) place h.end (get_map (λ k. k.end) old place h e)

-- a lawful scene is the step of its node
happens_step : (w : World) (node : ℕ) (what : Happening) (n : Node) (e : Event AppliedState) → IsTrue (is_lawful w (record { node = node; what = what }))
    → node_of w node ≡ Some n → event_of w what ≡ Some e
    → happens_if (is_lawful w (record { node = node; what = what })) w (record { node = node; what = what }) ≡ with_node w node (step n e (taken_in what)).node
happens_step w node what n e lawful has is =
    ap (λ b. happens_if b w (record { node = node; what = what })) lawful
    ∙ ap (λ o. option_map_or (happens_at w (record { node = node; what = what })) o w) has
    ∙ ap (λ o. option_map_or (after_step w node n (taken_in what)) o w) is

-- the last of a list
last_push : {A : Type 0} (xs : List A) (y : A) → last_of (xs ++ y ∷ []) ≡ Some y
last_push xs y =
    let n : length (xs ++ y ∷ []) - 1 ≡ length xs = simp length-append (omega arith) in
    ap (λ k. slice_get (xs ++ y ∷ []) k) n ∙ get_end xs y []

-- the journal's last answer is that of the step
step_answer : (n : Node) (e : Event AppliedState) (taken : List Item)
    → option_map_or (λ (x : JournalEntry). x.answer) (last_of (step n e taken).node.journal) answers.Done ≡ (step n e taken).answer
step_answer n e taken =
    ap (λ o. option_map_or (λ (x : JournalEntry). x.answer) o answers.Done)
    (last_push (acted n e taken).node.journal (record { event = past_of n e taken; answer = (acted n e taken).answer }))

-- what is had of an event at one of the nodes
pub record Came (old : Ends) (node : ℕ) (what : Happening) (reads : Bool) (new : Ends) (answer : EventAnswer) : Type 0 where
  pub nodes : (buffered_of new).nodes
      ≡ happens_if (is_lawful (buffered_of old).nodes (record { node = node; what = what })) (buffered_of old).nodes (record { node = node; what = what })
  pub answer_is : answer ≡ answer_in (buffered_of new).nodes node
  pub value : reads ≡ false → is_value answer ≡ false

pub came : (old : Ends) (node : ℕ) (what : Happening) (ev : Event AppliedState) (taken : List Item) (new : Ends) (answer : EventAnswer) (before after : Held (List Buffer))
    → IsTrue (is_lawful (buffered_of old).nodes (record { node = node; what = what })) → event_of (buffered_of old).nodes what ≡ Some ev
    → held_at old node ≡ Some before → new ≡ set old (node - 1) after → taken_in what ≡ taken
    → step before.node ev taken ≡ record { node = after.node; answer = answer }
    → Came old node what (reads_key ev) new answer
came old node what ev taken new answer before after lawful is has leaves takes does =
    let left : (step before.node ev (taken_in what)).node ≡ after.node = ap (λ t. (step before.node ev t).node) takes ∙ ap (λ d. d.node) does in
    let told : (step before.node ev taken).answer ≡ answer = ap (λ d. d.answer) does in
    let here : node_of (buffered_of old).nodes node ≡ Some before.node = held_node old node before has in
    let now : (buffered_of new).nodes ≡ with_node (buffered_of old).nodes node after.node = ap (λ l. (buffered_of l).nodes) leaves ∙ with_held old node before after has in
    let found : node_of (buffered_of new).nodes node ≡ Some after.node = ap (λ w. node_of w node) now ∙ with_same (buffered_of old).nodes node before.node after.node here in
    record {
      nodes = now
          ∙ ap (λ n. with_node (buffered_of old).nodes node n) (sym left)
          ∙ sym (happens_step (buffered_of old).nodes node what before.node ev lawful here is);
      answer_is = sym told
          ∙ sym (step_answer before.node ev taken)
          ∙ ap (λ (n : Node). option_map_or (λ (x : JournalEntry). x.answer) (last_of n.journal) answers.Done) (ap (λ d. d.node) does)
          ∙ sym (ap (λ o. option_map_or (λ (n : Node). option_map_or (λ (x : JournalEntry). x.answer) (last_of n.journal) answers.Done) o answers.Done) found);
      value = λ h. ap is_value (sym told) ∙ step_tells_none before.node ev taken h;
    }

same_buffered : (a b : Buffered) → a.nodes ≡ b.nodes → a.buffers ≡ b.buffers → a ≡ b
same_buffered a b n e = ap (λ w. record { nodes = w; buffers = a.buffers }) n ∙ ap (λ l. record { nodes = b.nodes; buffers = l }) e

-- what is left of the nodes and the buffers, and what was answered
pub record Left (old : Ends) (node : ℕ) (left_as : Buffered) (reads : Bool) (new : Ends) (answer : EventAnswer) : Type 0 where
  pub left : buffered_of new ≡ left_as
  pub told : answer ≡ answer_in (buffered_of new).nodes node
  pub value : reads ≡ false → is_value answer ≡ false

-- an event that asks no buffer
plain : (old : Ends) (node : ℕ) (what : Happening) (ev : Event AppliedState) (new : Ends) (answer : EventAnswer) → ComesAs (buffered_of old) node what
    → event_of (buffered_of old).nodes what ≡ Some ev → taken_in what ≡ []
    → (s : StepsAt Collects old node ev new answer) → IsLeft s.before.end s.steps.taken s.after.end
    → Left old node (at_node (buffered_of old) node what) (reads_key ev) new answer
plain old node what ev new answer may is none_taken s gave =
    let c : Came old node what (reads_key ev) new answer =
    came old node what ev s.steps.taken new answer s.before s.after may.lawful.lawful is s.has s.leaves (none_taken ∙ sym gave.nothing) s.steps.does in
    record {
      left = same_buffered (buffered_of new) (at_node (buffered_of old) node what) c.nodes
          (ap (λ l. (buffered_of l).buffers) s.leaves ∙ same_ends old node s.before s.after s.has gave.same);
      told = c.answer_is;
      value = λ h. c.value h;
    }

-- a collect at a live replica
collect_live : (old : Ends) (node range : ℕ) (new : Ends) (answer : EventAnswer) → ComesAs (buffered_of old) node (Collect range (taken_at (buffered_of old) node range))
    → has_live (buffered_of old).nodes node range ≡ true
    → (s : StepsAt Collects old node (node_events.Collect range) new answer) → Collects s.before.end range s.steps.taken s.after.end
    → Left old node (collected (buffered_of old) node range) false new answer
collect_live old node range new answer may live s gave =
    let b : Buffered = buffered_of old in
    let g : List Item = given (buffer_of (buffers_at b node) range) in
    let end : buffers_at b node ≡ s.before.end = held_end old node s.before s.has in
    let takes : taken_at b node range ≡ g = ap (λ t. cond t g []) live in
    let lawful : IsTrue (is_lawful b.nodes (record { node = node; what = Collect range g })) =
    subst (λ t. IsTrue (is_lawful b.nodes (record { node = node; what = Collect range t }))) takes may.lawful.lawful in
    let c : Came old node (Collect range g) false new answer =
    came old node (Collect range g) (node_events.Collect range) s.steps.taken new answer s.before s.after lawful refl s.has s.leaves
    (ap (λ l. given (buffer_of l range)) end ∙ sym gave.items_are) s.steps.does in
    let left : collected b node range ≡ changed (at_node b node (Collect range g)) node range after_collect =
    ap (λ t. cond t (collects b node range g) (at_node b node (Collect range []))) live
    ∙ ap (λ t. cond t (changed (at_node b node (Collect range g)) node range after_collect) b) lawful in
    record {
      left = same_buffered (buffered_of new) (changed (at_node b node (Collect range g)) node range after_collect) c.nodes
          (ap (λ l. (buffered_of l).buffers) s.leaves
          ∙ with_ends old node s.before s.after
          ∙ ap (λ l. set b.buffers (node - 1) l) (gave.buffers_are ∙ ap (λ l. with_buffer l range (after_collect (buffer_of l range))) (sym end)))
          ∙ sym left;
      told = c.answer_is;
      value = λ h. c.value h;
    }

-- a collect where there is none
collect_none : (old : Ends) (node range : ℕ) (new : Ends) (answer : EventAnswer) → ComesAs (buffered_of old) node (Collect range (taken_at (buffered_of old) node range))
    → has_live (buffered_of old).nodes node range ≡ false
    → (s : StepsAt Collects old node (node_events.Collect range) new answer) → IsLeft s.before.end s.steps.taken s.after.end
    → Left old node (collected (buffered_of old) node range) false new answer
collect_none old node range new answer may live s gave =
    let b : Buffered = buffered_of old in
    let g : List Item = given (buffer_of (buffers_at b node) range) in
    let takes : taken_at b node range ≡ [] = ap (λ t. cond t g []) live in
    let left : collected b node range ≡ at_node b node (Collect range []) =
    ap (λ t. cond t (collects b node range g) (at_node b node (Collect range []))) live in
    subst (λ l. Left old node l false new answer) (sym left)
    (plain old node (Collect range []) (node_events.Collect range) new answer (subst (λ t. ComesAs b node (Collect range t)) takes may) refl refl s gave)

collect_at : (old : Ends) (node range : ℕ) (new : Ends) (answer : EventAnswer) → ComesAs (buffered_of old) node (Collect range (taken_at (buffered_of old) node range))
    → (s : StepsAt Collects old node (node_events.Collect range) new answer)
    → Left old node (collected (buffered_of old) node range) false new answer
collect_at old node range new answer may s = go (seat s.before.node range) refl s.steps.gave where
  live_is : (status : Status) → seat s.before.node range ≡ status → has_live (buffered_of old).nodes node range ≡ is_live status
  live_is status e =
      ap (λ o. option_map_or (λ (n : Node). is_live (seat n range)) o false) (held_node old node s.before s.has) ∙ ap is_live e

  go : (status : Status) → seat s.before.node range ≡ status → Collected Collects status s.before.end range s.steps.taken s.after.end
      → Left old node (collected (buffered_of old) node range) false new answer
  go Absent e gave = collect_none old node range new answer may (live_is Absent e) s gave
  go (Live r) e gave = collect_live old node range new answer may (live_is (Live r) e) s gave
  go (Removed applied) e gave = collect_none old node range new answer may (live_is (Removed applied) e) s gave

-- the event that comes is the one that is meant
moved : (old : Ends) (node : ℕ) (a b : Event AppliedState) (new : Ends) (answer : EventAnswer) → ◌≡◌ {A = Option (Event AppliedState)} (Some a) (Some b)
    → StepsAt Collects old node b new answer → StepsAt Collects old node a new answer
moved old node a b new answer e s = subst (λ k. StepsAt Collects old node k new answer) (sym (some_event a b e)) s where
  some_event : (a b : Event AppliedState) → ◌≡◌ {A = Option (Event AppliedState)} (Some a) (Some b) → a ≡ b
  some_event a b e = cc

deliver_at : (old : Ends) (node from number : ℕ) (ev : Event AppliedState) (new : Ends) (answer : EventAnswer) → ComesAs (buffered_of old) node (Deliver from number)
    → (o : Option (Parcel AppliedState)) → parcel_of (sent_by (buffered_of old).nodes from) number ≡ o → option_map (delivery from number) o ≡ Some ev
    → StepsAt Collects old node ev new answer → Left old node (at_node (buffered_of old) node (Deliver from number)) false new answer
deliver_at old node from number ev new answer may None sent is s = absurd (nothing is) where
  nothing : ◌≡◌ {A = Option (Event AppliedState)} None (Some ev) → ⊥
  nothing e = cc
deliver_at old node from number ev new answer may (Some p) sent is s =
    let m : StepsAt Collects old node (delivery from number p) new answer = moved old node (delivery from number p) ev new answer is s in
    plain old node (Deliver from number) (delivery from number p) new answer may (ap (option_map (delivery from number)) sent) refl m m.steps.gave

-- an event at one of the nodes is the event of the world
step_left : (old : Ends) (e : WorldEvent) (ev : Event AppliedState) (new : Ends) (answer : EventAnswer) → Comes (buffered_of old) e → node_event (buffered_of old) e ≡ Some ev
    → StepsAt Collects old (node_in e) ev new answer → Left old (node_in e) (buffered_step (buffered_of old) e) (is_peek e) new answer
step_left old (events.Admit node range id request) ev new answer c is s =
    let m : StepsAt Collects old node (node_events.Admit range id request) new answer = moved old node (node_events.Admit range id request) ev new answer is s in
    plain old node (Admit range id request) (node_events.Admit range id request) new answer c.comes refl refl m m.steps.gave
step_left old (events.Ask node range) ev new answer c is s =
    let m : StepsAt Collects old node (node_events.Ask range) new answer = moved old node (node_events.Ask range) ev new answer is s in
    plain old node (Ask range) (node_events.Ask range) new answer c.comes refl refl m m.steps.gave
step_left old (events.Transfer node range to) ev new answer c is s =
    let m : StepsAt Collects old node (node_events.Transfer range to) new answer = moved old node (node_events.Transfer range to) ev new answer is s in
    plain old node (Transfer range to) (node_events.Transfer range to) new answer c.comes refl refl m m.steps.gave
step_left old (events.Collect node range) ev new answer c is s =
    let m : StepsAt Collects old node (node_events.Collect range) new answer = moved old node (node_events.Collect range) ev new answer is s in
    collect_at old node range new answer c.comes m
step_left old (events.Flush node range) ev new answer c is s =
    let m : StepsAt Collects old node (node_events.Flush range) new answer = moved old node (node_events.Flush range) ev new answer is s in
    plain old node (Flush range) (node_events.Flush range) new answer c.comes refl refl m m.steps.gave
step_left old (events.Tick node) ev new answer c is s =
    let m : StepsAt Collects old node (node_events.Tick) new answer = moved old node (node_events.Tick) ev new answer is s in
    plain old node (Tick) (node_events.Tick) new answer c.comes refl refl m m.steps.gave
step_left old (events.Deliver node from number) ev new answer c is s =
    deliver_at old node from number ev new answer c.comes (parcel_of (sent_by (buffered_of old).nodes from) number) refl is s
step_left old (events.Apply node range) ev new answer c is s =
    let m : StepsAt Collects old node (node_events.Apply range) new answer = moved old node (node_events.Apply range) ev new answer is s in
    plain old node (Apply range) (node_events.Apply range) new answer c.comes refl refl m m.steps.gave
step_left old (events.Cut node range) ev new answer c is s =
    let m : StepsAt Collects old node (node_events.Cut range) new answer = moved old node (node_events.Cut range) ev new answer is s in
    plain old node (Cut range) (node_events.Cut range) new answer c.comes refl refl m m.steps.gave
step_left old (events.Remove node range) ev new answer c is s =
    let m : StepsAt Collects old node (node_events.Remove range) new answer = moved old node (node_events.Remove range) ev new answer is s in
    plain old node (Remove range) (node_events.Remove range) new answer c.comes refl refl m m.steps.gave
step_left old (events.Peek node range key) ev new answer c is s =
    let m : StepsAt Collects old node (node_events.Peek range key) new answer = moved old node (node_events.Peek range key) ev new answer is s in
    plain old node (Peek range key) (node_events.Peek range key) new answer c.comes refl refl m m.steps.gave
step_left old (events.Restart node) ev new answer c is s =
    let m : StepsAt Collects old node (node_events.Restart) new answer = moved old node (node_events.Restart) ev new answer is s in
    plain old node (Restart) (node_events.Restart) new answer c.comes refl refl m m.steps.gave
step_left old (events.Round node) ev new answer c is s =
    let m : StepsAt Collects old node (node_events.Round) new answer = moved old node (node_events.Round) ev new answer is s in
    plain old node (Round) (node_events.Round) new answer c.comes refl refl m m.steps.gave
step_left old (events.Draw node range) ev new answer c is s = absurd c.comes
step_left old (events.Publish node range place item) ev new answer c is s = absurd c.comes

pub stepped : (old : Ends) (e : WorldEvent) (ev : Event AppliedState) (new : Ends) (answer : EventAnswer) → Comes (buffered_of old) e → node_event (buffered_of old) e ≡ Some ev
    → StepsAt Collects old (node_in e) ev new answer → Happens old e new answer
stepped old e ev new answer c is s =
    let l : Left old (node_in e) (buffered_step (buffered_of old) e) (is_peek e) new answer = step_left old e ev new answer c is s in
    record { left = l.left; told = l.told; value = l.value }

-- a node of the world is one that is held
get_unmap : {A B : Type 0} (f : A → B) (xs : List A) (i : ℕ) (y : B) → slice_get (map f xs) i ≡ Some y → (x : A) × (slice_get xs i ≡ Some x) × (f x ≡ y)
get_unmap f [] i y e = absurd cc
get_unmap {A} {B} f (x ∷ xs) zero y e = (x, refl, same (f x) y e) where
  same : (a c : B) → ◌≡◌ {A = Option B} (Some a) (Some c) → a ≡ c
  same a c e = cc
get_unmap f (x ∷ xs) (suc i) y e = get_unmap f xs i y e

held_from : (old : Ends) (node : ℕ) (n : Node) → node_of (buffered_of old).nodes node ≡ Some n → (h : Held (List Buffer)) × (held_at old node ≡ Some h) × (h.node ≡ n)
held_from old zero n e = absurd (nothing e) where
  nothing : ◌≡◌ {A = Option Node} None (Some n) → ⊥
  nothing e = cc
held_from old (suc place) n e = get_unmap (λ h. h.node) old place n e

-- it may take the event
pub may_step : (old : Ends) (e : WorldEvent) (ev : Event AppliedState) → Comes (buffered_of old) e → node_event (buffered_of old) e ≡ Some ev → HasThatMay old (node_in e) ev
may_step old e ev c is = go (happening_of (buffered_of old) e) refl c.comes where
  some_event : (a b : Event AppliedState) → ◌≡◌ {A = Option (Event AppliedState)} (Some a) (Some b) → a ≡ b
  some_event a b e = cc

  go : (o : Option Happening) → happening_of (buffered_of old) e ≡ o → ComesBy (buffered_of old) (node_in e) o → HasThatMay old (node_in e) ev
  go None at comes = absurd comes
  go (Some what) at comes =
      let h = held_from old (node_in e) comes.at comes.has in
      let same : comes.event ≡ ev = some_event comes.event ev (sym comes.is ∙ sym (ap (option_and_then (event_of (buffered_of old).nodes)) at) ∙ is) in
      record {
        held = h.0;
        has = h.1;
        may = subst (λ n. MayStep n ev) (sym h.2) (subst (MayStep comes.at) same comes.may);
      }

pub stepped_ok : (old : Ends) (e : WorldEvent) (ev : Event AppliedState) (new : Ends) (node : ℕ) (r : Result EventAnswer NoMemory) → Comes (buffered_of old) e
    → node_event (buffered_of old) e ≡ Some ev → node ≡ node_in e → IfOk r (λ answer. StepsAt Collects old node ev new answer) → IfOk r (λ answer. Happens old e new answer)
stepped_ok old e ev new node (Ok answer) c is at s = stepped old e ev new answer c is (subst (λ k. StepsAt Collects old k ev new answer) at s)
stepped_ok old e ev new node (Err no_memory) c is at s = tt

-- the world has each of its nodes
none_at : {A : Type 0} (xs : List A) (i : ℕ) → i < length xs → slice_get xs i ≡ None → ⊥
none_at [] i h e = omega (arith, h)
none_at {A} (x ∷ xs) zero h e = clash x e where
  clash : (x : A) → ◌≡◌ {A = Option A} (Some x) None → ⊥
  clash x e = cc
none_at (x ∷ xs) (suc i) h e = none_at xs i (omega (arith, h)) e

none_held : (old : Ends) (node : ℕ) → IsNode (length old) node → held_at old node ≡ None → ⊥
none_held old zero at e = omega (arith, at.0)
none_held old (suc place) at e = none_at old place (omega (arith, at.1)) e

node_stays : (w : World) (node : ℕ) (n : Node) → node_of w node ≡ Some n → with_node w node n ≡ w
node_stays w zero n e = refl
node_stays w (suc place) n e = set_stays w place n e

-- a change of a buffer end is that of the world's buffer
pub end_changed : (old : Ends) (node range : ℕ) (change : Buffer → Buffer) → IsNode (length old) node
    → buffered_of (with_end_at (λ end. with_buffer end range (change (buffer_of end range))) old node) ≡ changed (buffered_of old) node range change
end_changed old node range change at = go (held_at old node) refl where
  go : (o : Option (Held (List Buffer))) → held_at old node ≡ o
      → buffered_of (option_map_or (λ (h : Held (List Buffer)). set old (node - 1) (record h { end = with_buffer h.end range (change (buffer_of h.end range)) })) o old) ≡ changed (buffered_of old) node range change
  go None has = absurd (none_held old node at has)
  go (Some h) has =
      let end : buffers_at (buffered_of old) node ≡ h.end = held_end old node h has in
      same_buffered (buffered_of (set old (node - 1) (record h { end = with_buffer h.end range (change (buffer_of h.end range)) }))) (changed (buffered_of old) node range change)
      (with_held old node h (record h { end = with_buffer h.end range (change (buffer_of h.end range)) }) has ∙ node_stays (buffered_of old).nodes node h.node (held_node old node h has))
      (with_ends old node h (record h { end = with_buffer h.end range (change (buffer_of h.end range)) })
      ∙ ap (λ l. set (buffered_of old).buffers (node - 1) (with_buffer l range (change (buffer_of l range)))) (sym end))

pub end_here : (old : Ends) (node : ℕ) → IsNode (length old) node → end_at fresh old node ≡ buffers_at (buffered_of old) node
end_here old node at = go (held_at old node) refl where
  go : (o : Option (Held (List Buffer))) → held_at old node ≡ o → option_map_or (λ (h : Held (List Buffer)). h.end) o fresh ≡ buffers_at (buffered_of old) node
  go None has = absurd (none_held old node at has)
  go (Some h) has = sym (held_end old node h has)
