-- The inside of a round goes on by an event that may come.
use Rattle.std.proofs.Common.{◌≡◌, ℕ, eq-eqb, ◌+◌, ◌≤◌, Bool, true, false, cond, Option, None, Some, List, [], ◌∷◌, ◌++◌, append-nil, length, refl, sym, ap, subst, ◌∙◌, arith}
use Rattle.std.specs.Prelude.{not, ◌&&◌, ◌==◌, nat_le, nat_lt, option_to_list}
use Rattle.std.specs.Option.{option_map, option_map_or}
use Rattle.std.proofs.lemmas.Bool.{and_from, le-leb, eqb-true}
use Rattle.rp_base.specs.Limits.{buffer_capacity}
use Rattle.rp_base.specs.declared.items.Item.{Item}
use Rattle.rp_request.specs.Applied.{AppliedState}
use Rattle.rp_events.specs.declared.answers.EventAnswer.{EventAnswer}
use Rattle.rp_events.specs.declared.node_events.Event.{Event}
use Rattle.rp_events.specs.declared.node_events.Event.TheVariants as events
use Rattle.rp_events.specs.declared.parcels.Parcel.{Parcel}
use Rattle.rp_events.specs.Lawful.{Lawful, HasWidths, IsReached, is_allowed}
use Rattle.rp_events.specs.Nodes.{Node, NodeDone, is_full, parcel_of}
use Rattle.rp_events.specs.NodeEvents.{past_of, step}
use Rattle.rp_events.specs.Worlds as worlds
use Rattle.rp_events.specs.Worlds.{World, Happening, node_of, sent_by, delivery, event_of, taken_in, run}
use Rattle.rp_journals.specs.Asked.{all_at}
use Rattle.rp_journals.specs.Entries.{at_node}
use Rattle.rp_journals.specs.Growth.{Begins, WorldGrows}
use Rattle.rp_journals.proofs.Growing.{run_grows, later_grows, world_trans}
use Rattle.rp_journals.proofs.Reading.{step_journal}
use Rattle.rp_journals.proofs.Staying.{parcels_stay}
use Rattle.rp_race.specs.declared.rules.RaceRules.{RaceRules}
use Rattle.rp_race.specs.Rounds.{may_come}
use Rattle.rp_race.specs.Owed.{number_from, heard_from, carried}
use Rattle.rp_race.specs.Gives.{kept_as, is_within_round, AllSeen, WasSeen, HeardSome, IsPart, IsSoFar}
use Rattle.rp_race.proofs.Going.{so_far_further, so_far_reached, heard_by}
use Rattle.rp_race.proofs.Keeping.{reached_size}
use Rattle.rp_serving.specs.Inside.{happening_of, IsUnderWay, IsDue, MayGoOn, WentOn}

-- a scene is lawful at a node that the world has and that is not full
pub lawful_there : (w : World) (node : ℕ) (x : Happening) (n : Node) → node_of w node ≡ Some n → is_full n ≡ false → is_allowed w node x ≡ true → HasWidths x → Lawful w (at_node node x)
lawful_there w node x n has room allowed widths = record {
  lawful = ap (λ o. option_map_or (λ (k : Node). not (is_full k) && is_allowed w node x) o false) has ∙ and_from (not (is_full n)) (is_allowed w node x) (ap not room) allowed;
  widths = widths;
}

pub so_far_of : (rules : RaceRules) (node : ℕ) (at seen : World) (what : List Happening) (n : Node) → IsPart rules node at seen what n → IsSoFar rules node at what n
so_far_of rules node at seen what n p = record { lawful = p.lawful; order = p.order; leaves = p.leaves }

-- a message that a node had sent when it was seen stands in its sent list in the world that the round has come to
pub parcel_there : (nodes : ℕ) (at seen : World) (node : ℕ) (what : List Happening) → AllSeen nodes seen at → (from number : ℕ) (m : Node) (p : Parcel AppliedState)
    → node_of seen from ≡ Some m → parcel_of m.sent number ≡ Some p → parcel_of (sent_by (run at (all_at node what)) from) number ≡ Some p
parcel_there nodes at seen node what all from number m p saw stands =
    let s : WasSeen nodes at from m = all.each from m saw in
    let grows : WorldGrows s.before (run at (all_at node what)) = world_trans s.before at (run at (all_at node what)) (later_grows s.before at s.later) (run_grows (all_at node what) at) in
    parcels_stay s.before (run at (all_at node what)) grows from number p
    (ap (λ o. parcel_of (option_map_or (λ (n : Node). n.sent) o []) number) s.has ∙ stands)

-- what happens has the event
pub event_there : (rules : RaceRules) (nodes node : ℕ) (at seen : World) (what : List Happening) (n : Node) → AllSeen nodes seen at → (e : Event AppliedState) (taken : List Item)
    → IsDue rules nodes node seen n e → event_of (run at (all_at node what)) (happening_of e taken) ≡ Some e
event_there rules nodes node at seen what n all (events.Admit range id request) taken due = refl
event_there rules nodes node at seen what n all (events.Ask range) taken due = refl
event_there rules nodes node at seen what n all (events.Transfer range to) taken due = refl
event_there rules nodes node at seen what n all (events.Collect range) taken due = refl
event_there rules nodes node at seen what n all (events.Flush range) taken due = refl
event_there rules nodes node at seen what n all events.Tick taken due = refl
event_there rules nodes node at seen what n all (events.Deliver from range number message) taken due =
    ap (option_map (delivery from number)) (parcel_there nodes at seen node what all from number due.m due.parcel due.saw due.stands)
    ∙ ap (λ k. Some (events.Deliver from k number due.parcel.message)) due.in_range ∙ ap (λ k. Some (events.Deliver from range number k)) due.carries
event_there rules nodes node at seen what n all (events.Apply range) taken due = refl
event_there rules nodes node at seen what n all (events.Cut range) taken due = refl
event_there rules nodes node at seen what n all (events.Remove range) taken due = refl
event_there rules nodes node at seen what n all (events.Peek range key) taken due = refl
event_there rules nodes node at seen what n all events.Restart taken due = refl
event_there rules nodes node at seen what n all events.Round taken due = refl

-- it may happen there
pub allowed_there : (rules : RaceRules) (nodes node : ℕ) (at seen : World) (what : List Happening) (n : Node) → AllSeen nodes seen at
    → length (run at (all_at node what)) ≡ nodes → (e : Event AppliedState) (taken : List Item) → is_within_round (happening_of e []) ≡ true
    → IsDue rules nodes node seen n e → length taken ≤ buffer_capacity → is_allowed (run at (all_at node what)) node (happening_of e taken) ≡ true
allowed_there rules nodes node at seen what n all size (events.Admit range id request) taken within due few = absurd cc
allowed_there rules nodes node at seen what n all size (events.Ask range) taken within due few = refl
allowed_there rules nodes node at seen what n all size (events.Transfer range to) taken within due few =
    and_from (nat_lt 0 to) (nat_le to (length (run at (all_at node what)))) (le-leb 1 to due.0) (le-leb to (length (run at (all_at node what))) (let high = due.1 in omega (arith, size)))
allowed_there rules nodes node at seen what n all size (events.Collect range) taken within due few = le-leb (length taken) buffer_capacity few
allowed_there rules nodes node at seen what n all size (events.Flush range) taken within due few = refl
allowed_there rules nodes node at seen what n all size events.Tick taken within due few = refl
allowed_there rules nodes node at seen what n all size (events.Deliver from range number message) taken within due few =
    ap (λ o. option_map_or (λ (p : Parcel AppliedState). p.to == node) o false) (parcel_there nodes at seen node what all from number due.m due.parcel due.saw due.stands)
    ∙ eq-eqb due.parcel.to node due.goes
allowed_there rules nodes node at seen what n all size (events.Apply range) taken within due few = refl
allowed_there rules nodes node at seen what n all size (events.Cut range) taken within due few = refl
allowed_there rules nodes node at seen what n all size (events.Remove range) taken within due few = refl
allowed_there rules nodes node at seen what n all size (events.Peek range key) taken within due few = refl
allowed_there rules nodes node at seen what n all size events.Restart taken within due few = refl
allowed_there rules nodes node at seen what n all size events.Round taken within due few = refl

pub widths_there : (e : Event AppliedState) (taken : List Item) → is_within_round (happening_of e []) ≡ true → HasWidths (happening_of e taken)
widths_there (events.Admit range id request) taken within = absurd cc
widths_there (events.Ask range) taken within = tt
widths_there (events.Transfer range to) taken within = tt
widths_there (events.Collect range) taken within = tt
widths_there (events.Flush range) taken within = tt
widths_there events.Tick taken within = tt
widths_there (events.Deliver from range number message) taken within = tt
widths_there (events.Apply range) taken within = tt
widths_there (events.Cut range) taken within = tt
widths_there (events.Remove range) taken within = tt
widths_there (events.Peek range key) taken within = tt
widths_there events.Restart taken within = tt
widths_there events.Round taken within = tt

-- what it gave is no matter to whether a collect may come
pub within_with : (e : Event AppliedState) (taken : List Item) → is_within_round (happening_of e []) ≡ true → is_within_round (happening_of e taken) ≡ true
within_with (events.Admit range id request) taken h = h
within_with (events.Ask range) taken h = h
within_with (events.Transfer range to) taken h = h
within_with (events.Collect range) taken h = h
within_with (events.Flush range) taken h = h
within_with events.Tick taken h = h
within_with (events.Deliver from range number message) taken h = h
within_with (events.Apply range) taken h = h
within_with (events.Cut range) taken h = h
within_with (events.Remove range) taken h = h
within_with (events.Peek range key) taken h = h
within_with events.Restart taken h = h
within_with events.Round taken h = h

pub may_with : (rules : RaceRules) (n : Node) (e : Event AppliedState) (taken : List Item) → may_come rules n (past_of n e []) ≡ true → may_come rules n (kept_as n (happening_of e taken)) ≡ true
may_with rules n (events.Admit range id request) taken h = h
may_with rules n (events.Ask range) taken h = h
may_with rules n (events.Transfer range to) taken h = h
may_with rules n (events.Collect range) taken h = h
may_with rules n (events.Flush range) taken h = h
may_with rules n events.Tick taken h = h
may_with rules n (events.Deliver from range number message) taken h = h
may_with rules n (events.Apply range) taken h = h
may_with rules n (events.Cut range) taken h = h
may_with rules n (events.Remove range) taken h = h
may_with rules n (events.Peek range key) taken h = h
may_with rules n events.Restart taken h = h
may_with rules n events.Round taken h = h

-- what the node has heard behind the event is still of what was sent to it
begins_more : {X : Type 0} (xs ys more : List X) → more ≡ [] → Begins xs ys → Begins (xs ++ more) ys
begins_more xs ys more none b = subst (λ l. Begins (xs ++ l) ys) (sym none) (subst (λ l. Begins l ys) (sym (append-nil xs)) b)

heard_next : (rules : RaceRules) (nodes node : ℕ) (seen : World) (n : Node) → HeardSome rules node seen n → (e : Event AppliedState) (taken : List Item) → IsDue rules nodes node seen n e
    → (from : ℕ) (m : Node) → node_of seen from ≡ Some m → (from ≡ node → ⊥)
    → Begins (heard_from from n.journal ++ option_to_list (number_from from (kept_as n (happening_of e taken)))) (carried rules from node m.sent)
heard_next rules nodes node seen n some (events.Admit range id request) taken due from m saw apart = begins_more _ _ _ refl (some from m saw apart)
heard_next rules nodes node seen n some (events.Ask range) taken due from m saw apart = begins_more _ _ _ refl (some from m saw apart)
heard_next rules nodes node seen n some (events.Transfer range to) taken due from m saw apart = begins_more _ _ _ refl (some from m saw apart)
heard_next rules nodes node seen n some (events.Collect range) taken due from m saw apart = begins_more _ _ _ refl (some from m saw apart)
heard_next rules nodes node seen n some (events.Flush range) taken due from m saw apart = begins_more _ _ _ refl (some from m saw apart)
heard_next rules nodes node seen n some events.Tick taken due from m saw apart = begins_more _ _ _ refl (some from m saw apart)
heard_next rules nodes node seen n some (events.Deliver sender range number message) taken due from m saw apart = go (sender == from) refl where
  some_node : (a b : Node) → ◌≡◌ {A = Option Node} (Some a) (Some b) → a ≡ b
  some_node a b e = cc

  go : (b : Bool) → (sender == from) ≡ b → Begins (heard_from from n.journal ++ option_to_list (cond b (Some number) None)) (carried rules from node m.sent)
  go true is =
      let same : sender ≡ from = eqb-true sender from is in
      let m_is : due.m ≡ m = some_node due.m m (sym due.saw ∙ ap (node_of seen) same ∙ saw) in
      subst (λ z. Begins (heard_from z n.journal ++ number ∷ []) (carried rules z node m.sent)) same
      (subst (λ (z : Node). Begins (heard_from sender n.journal ++ number ∷ []) (carried rules sender node z.sent)) m_is due.next)
  go false is = begins_more _ _ _ refl (some from m saw apart)
heard_next rules nodes node seen n some (events.Apply range) taken due from m saw apart = begins_more _ _ _ refl (some from m saw apart)
heard_next rules nodes node seen n some (events.Cut range) taken due from m saw apart = begins_more _ _ _ refl (some from m saw apart)
heard_next rules nodes node seen n some (events.Remove range) taken due from m saw apart = begins_more _ _ _ refl (some from m saw apart)
heard_next rules nodes node seen n some (events.Peek range key) taken due from m saw apart = begins_more _ _ _ refl (some from m saw apart)
heard_next rules nodes node seen n some events.Restart taken due from m saw apart = begins_more _ _ _ refl (some from m saw apart)
heard_next rules nodes node seen n some events.Round taken due from m saw apart = begins_more _ _ _ refl (some from m saw apart)

-- the round goes on
pub goes_on : (rules : RaceRules) (nodes node : ℕ) (at seen : World) → IsReached nodes at → AllSeen nodes seen at → (n : Node) → IsUnderWay rules node at seen n → is_full n ≡ false
    → (e : Event AppliedState) → MayGoOn rules nodes node seen n e → (taken : List Item) → taken_in (happening_of e taken) ≡ taken → length taken ≤ buffer_capacity
    → (later : Node) (answer : EventAnswer) → ◌≡◌ {A = NodeDone} (step n e taken) (record { node = later; answer = answer }) → WentOn rules node at seen n e later
goes_on rules nodes node at seen reached all n u room e may taken taken_is few later answer is =
    let so_far : IsSoFar rules node at u.what n = so_far_of rules node at seen u.what n u.part in
    let here : World = run at (all_at node u.what) in
    let there : IsReached nodes here = so_far_reached nodes rules node at u.what n reached so_far in
    let x : Happening = happening_of e taken in
    let came : event_of here x ≡ Some e = event_there rules nodes node at seen u.what n all e taken may.due in
    let lawful : Lawful here (at_node node x) =
    lawful_there here node x n so_far.leaves room
    (allowed_there rules nodes node at seen u.what n all (reached_size nodes here there) e taken may.within may.due few) (widths_there e taken may.within) in
    let next : IsSoFar rules node at (u.what ++ x ∷ []) (step n e (taken_in x)).node =
    so_far_further rules node at u.what n so_far x e lawful came (within_with e taken may.within) (may_with rules n e taken may.may) in
    let left : (step n e (taken_in x)).node ≡ later = ap (λ l. (step n e l).node) taken_is ∙ ap (λ (d : NodeDone). d.node) is in
    let written : later.journal ≡ n.journal ++ record { event = past_of n e taken; answer = (step n e taken).answer } ∷ [] =
    ap (λ (d : NodeDone). d.node.journal) (sym is) ∙ step_journal n e taken in
    record {
      room = room;
      under_way = record {
        what = u.what ++ x ∷ [];
        part = record {
          lawful = next.lawful;
          order = next.order;
          leaves = subst (λ (z : Node). node_of (run at (all_at node (u.what ++ x ∷ []))) node ≡ Some z) left next.leaves;
          heard = λ from m saw apart.
              subst (λ (z : Node). Begins (heard_from from z.journal) (carried rules from node m.sent)) left
              (subst (λ l. Begins l (carried rules from node m.sent)) (sym (heard_by here n x e came from))
              (heard_next rules nodes node seen n u.part.heard e taken may.due from m saw apart));
        };
      };
      taken = taken;
      answer = (step n e taken).answer;
      wrote = written;
    }
