-- What attempts are told: once, only where they were admitted, with a cause where it is ambiguous.
use Rattle.std.proofs.Common.{◌≡◌, ℕ, zero, suc, ◌<◌, ◌≤◌, Bool, true, false, cond, ⊎_elim, Option, None, Some, List, [], ◌∷◌, refl, sym, ap, subst, ◌∙◌, arith}
use Rattle.std.specs.Prelude.{slice_get, ◌&&◌, count_by, sum_by, option_and_then}
use Rattle.std.specs.List.{find, AllByRecursion}
use Rattle.std.specs.Option.{option_map, option_map_or}
use Rattle.std.proofs.lemmas.Bool.{and_parts}
use Rattle.std.proofs.lemmas.List.Sums.{sum_by-cons}
use Rattle.rp_base.specs.Ids.{same_id}
use Rattle.rp_base.specs.declared.ids.CmdId.{CmdId}
use Rattle.rp_base.proofs.IdLaws.{same_is}
use Rattle.rp_request.specs.declared.outcomes.Ambiguity.{Ambiguity}
use Rattle.rp_request.specs.declared.outcomes.Outcome.{Outcome}
use Rattle.rp_request.specs.declared.outcomes.Outcome.TheVariants as outcomes
use Rattle.rp_request.specs.declared.requests.Request.{Request}
use Rattle.rp_events.specs.declared.answers.Ended.{Ended}
use Rattle.rp_events.specs.declared.answers.EventAnswer.{EventAnswer}
use Rattle.rp_events.specs.declared.answers.EventAnswer.TheVariants as answers
use Rattle.rp_events.specs.declared.journals.JournalEntry.{JournalEntry}
use Rattle.rp_events.specs.declared.journals.PastEvent.{PastEvent}
use Rattle.rp_events.specs.declared.journals.PastEvent.TheVariants as past
use Rattle.rp_events.specs.Nodes.{Node}
use Rattle.rp_events.specs.NodeEvents.{step}
use Rattle.rp_events.specs.Worlds.{World, Scene, Schedule, first_world, node_of, taken_in, happens, run, is_admission_of, asked_at, ended_of, outcome_by, outcome_at, outcome_of}
use Rattle.rp_events.specs.Lawful.{AllLawful, IsReached}
use Rattle.rp_events.specs.Lists.{IsAdmitted}
use Rattle.rp_events.specs.Promises.{HasCause, times_ended}
use Rattle.rp_journals.specs.Entries.{IsRead, AllReadBack}
use Rattle.rp_journals.specs.Asked.{times_asked}
use Rattle.rp_journals.specs.Ended.{is_granted, is_grant_of, times_granted, times_told, Balanced, IsTrueEnd, AllTrueEnds}
use Rattle.rp_journals.proofs.Growing.{Happened, happened, scene_grows, reached_later}
use Rattle.rp_journals.proofs.Reading.{admitting, mapped_some, node_after, first_at, reads_back}
use Rattle.rp_journals.proofs.Writing.{later_scene, first_reached}
use Rattle.rp_journals.proofs.Asking.{times_at_most_once}
use Rattle.rp_journals.proofs.Counting.{one_if}
use Rattle.rp_journals.proofs.Balancing.{both_fewer, total_once, balanced}
use Rattle.rp_journals.proofs.Coming.{all_found, all_from}
use Rattle.rp_journals.proofs.Causing.{EndWith, AllEndWith, ends_weaker}
use Rattle.rp_journals.proofs.Ending.{cause_stays, new_ends, found_passes}

-- an end that is told, in the two forms
to_end : (w : World) (id : CmdId) (o : Outcome) → IsTrueEnd w id o → EndWith (HasCause w) id o
to_end w id (outcomes.Success reply) h = tt
to_end w id (outcomes.Refused why) h = tt
to_end w id (outcomes.Ambiguous why) h = h
to_end w id outcomes.Pending h = h

from_end : (w : World) (id : CmdId) (o : Outcome) → EndWith (HasCause w) id o → IsTrueEnd w id o
from_end w id (outcomes.Success reply) h = tt
from_end w id (outcomes.Refused why) h = tt
from_end w id (outcomes.Ambiguous why) h = h
from_end w id outcomes.Pending h = h

abbrev AllEnds : World → Type 0
AllEnds w = (node : ℕ) (n : Node) → node_of w node ≡ Some n → AllEndWith (HasCause w) n.outcomes

ends_scene : (nodes : ℕ) (w : World) (x : Scene) → IsReached nodes w → AllEnds w → AllEnds (happens w x)
ends_scene nodes w x reached h = ⊎_elim
    (λ (same : happens w x ≡ w). subst AllEnds (sym same) h)
    (λ (k : Happened w x). by_event k)
    (happened w x)
  where
    reads : AllReadBack w
    reads = reads_back nodes w reached

    abbreviated : (es : List Ended) → AllEndWith (HasCause w) es → AllEndWith (HasCause (happens w x)) es
    abbreviated es ends = ends_weaker (HasCause w) (HasCause (happens w x)) (λ id why c. cause_stays w (happens w x) reads (scene_grows w x) id why c) es ends

    by_event : Happened w x → AllEnds (happens w x)
    by_event k node n has =
        let once = total_once w (balanced nodes w reached) (times_at_most_once nodes w reached) x.node k.n k.has in
        node_after (λ other m. AllEndWith (HasCause (happens w x)) m.outcomes) w x.node k.n (step k.n k.event (taken_in x.what)).node k.has
        (new_ends w x k reads (all_from nodes w reached) once (abbreviated k.n.outcomes (h x.node k.n k.has)))
        (λ other m ne is. abbreviated m.outcomes (h other m is)) node n (subst (λ z. node_of z node ≡ Some n) k.is has)

ends_run : (nodes : ℕ) (xs : Schedule) (w : World) → IsReached nodes w → AllLawful w xs → AllEnds w → AllEnds (run w xs)
ends_run nodes [] w reached lawful h = h
ends_run nodes (x ∷ xs) w reached lawful h =
    ends_run nodes xs (happens w x) (reached_later nodes w (happens w x) reached (later_scene w x lawful.0)) lawful.1 (ends_scene nodes w x reached h)

all_ends : (nodes : ℕ) (w : World) → IsReached nodes w → AllEnds w
all_ends nodes w r = subst AllEnds r.reached (ends_run nodes r.schedule (first_world nodes) (first_reached nodes w r) r.lawful
    (λ node n has. subst (λ (z : Node). AllEndWith (HasCause (first_world nodes)) z.outcomes) (sym (first_at nodes node n has)) tt))

pub true_ends : (nodes : ℕ) (w : World) → IsReached nodes w → AllTrueEnds w
true_ends nodes w r node n has = go n.outcomes (all_ends nodes w r node n has) where
  go : (es : List Ended) → AllEndWith (HasCause w) es → AllByRecursion (λ (e : Ended). IsTrueEnd w e.id e.outcome) es
  go [] h = tt
  go (e ∷ es) h = (from_end w e.id e.outcome h.0, go es h.1)

-- sums over nodes
sum_less : (f g : Node → ℕ) (w : World) → ((place : ℕ) (n : Node) → slice_get w place ≡ Some n → f n ≤ g n) → sum_by f w ≤ sum_by g w
sum_less f g [] less = omega arith
sum_less f g (n ∷ w) less =
    let a = sum_by-cons f n w in
    let b = sum_by-cons g n w in
    let here = less 0 n refl in
    let more = sum_less f g w (λ place m is. less (suc place) m is) in
    omega (arith, a, b, here, more)

-- a sum above 0 has a term above 0
pub sum_some : {X : Type 0} (f : X → ℕ) (xs : List X) → 0 < sum_by f xs → (place : ℕ) × (x : X) × (slice_get xs place ≡ Some x) × (0 < f x)
sum_some f [] l = absurd (omega (arith, l))
sum_some {X} f (x ∷ xs) l = go (f x) refl (sum_some f xs) where
  go : (k : ℕ) → f x ≡ k → (0 < sum_by f xs → (place : ℕ) × (y : X) × (slice_get xs place ≡ Some y) × (0 < f y)) → (place : ℕ) × (y : X) × (slice_get (x ∷ xs) place ≡ Some y) × (0 < f y)
  go zero is ih =
      let a = sum_by-cons f x xs in
      let rest = ih (omega (arith, a, is, l)) in
      (suc rest.0, rest.1, rest.2, rest.3)
  go (suc k) is ih = (0, x, refl, omega (arith, is))

pub count_some : {X : Type 0} (test : X → Bool) (xs : List X) → 0 < count_by test xs → (place : ℕ) × (x : X) × (slice_get xs place ≡ Some x) × (test x ≡ true)
count_some {X} test xs l = let k = sum_some (λ x. one_if (test x)) xs l in (k.0, k.1, k.2, passes (test k.1) k.3) where
  passes : (b : Bool) → 0 < one_if b → b ≡ true
  passes true h = refl
  passes false h = absurd (omega (arith, h))

pub told_once : (nodes : ℕ) (w : World) → IsReached nodes w → (id : CmdId) → times_ended w id ≤ 1
told_once nodes w r id =
    let b : Balanced w = balanced nodes w r in
    let less : times_ended w id ≤ times_asked w id = sum_less (times_told id) (λ (n : Node). count_by (is_admission_of id) n.journal) w
    (λ place n is.
    let k = b id (suc place) n is in
    let fewer = both_fewer (is_admission_of id) (λ (e : JournalEntry). is_granted e.answer) n.journal in
    omega (arith, k, fewer)) in
    let once = times_at_most_once nodes w r id in
    omega (arith, less, once)

-- at a place of a list
all_at : {X : Type 0} (P : X → Type 0) (xs : List X) (i : ℕ) (x : X) → AllByRecursion P xs → slice_get xs i ≡ Some x → P x
all_at P [] i x h e = absurd cc
all_at {X} P (z ∷ xs) zero x h e = subst P (some_is z x e) h.0 where
  some_is : (a b : X) → ◌≡◌ {A = Option X} (Some a) (Some b) → a ≡ b
  some_is a b e' = cc
all_at P (z ∷ xs) (suc i) x h e = all_at P xs i x h.1 e

-- a granted entry
pub record GrantedEntry (id : CmdId) (e : JournalEntry) : Type 0 where
  pub range : ℕ
  pub at : ℕ
  pub is : e ≡ record { event = past.Admit range id at; answer = answers.Admitted }

no_false : (b : Bool) → (b && false) ≡ true → ⊥
no_false true e = absurd cc
no_false false e = absurd cc

granted_parts : (id : CmdId) (event : PastEvent) (answer : EventAnswer) → is_grant_of id (record { event = event; answer = answer }) ≡ true → GrantedEntry id (record { event = event; answer = answer })
granted_parts id (past.Admit range other at) answers.Admitted e = record {
  range = range;
  at = at;
  is = ap (λ i. record { event = past.Admit range i at; answer = answers.Admitted }) (same_is other id (and_parts (same_id other id) true e).0);
}
granted_parts id (past.Admit range other at) answers.Done e = absurd (no_false (same_id other id) e)
granted_parts id (past.Admit range other at) answers.Nothing e = absurd (no_false (same_id other id) e)
granted_parts id (past.Admit range other at) (answers.Asked ask) e = absurd (no_false (same_id other id) e)
granted_parts id (past.Admit range other at) (answers.Refused why) e = absurd (no_false (same_id other id) e)
granted_parts id (past.Admit range other at) (answers.LeaseHeld lease ticks) e = absurd (no_false (same_id other id) e)
granted_parts id (past.Admit range other at) (answers.Value value applied) e = absurd (no_false (same_id other id) e)
granted_parts id (past.Ask range) answer e = absurd cc
granted_parts id (past.Transfer range to) answer e = absurd cc
granted_parts id (past.Collect range taken) answer e = absurd cc
granted_parts id (past.Flush range) answer e = absurd cc
granted_parts id past.Tick answer e = absurd cc
granted_parts id (past.Deliver from number) answer e = absurd cc
granted_parts id (past.Apply range) answer e = absurd cc
granted_parts id (past.Cut range) answer e = absurd cc
granted_parts id (past.Remove range) answer e = absurd cc
granted_parts id (past.Peek range key) answer e = absurd cc
granted_parts id past.Restart answer e = absurd cc
granted_parts id (past.Round sent) answer e = absurd cc

pub grant_admitted : (w : World) → AllReadBack w → (id : CmdId) (node : ℕ) (n : Node) → node_of w node ≡ Some n → (place : ℕ) (e : JournalEntry) → slice_get n.journal place ≡ Some e → is_grant_of id e ≡ true
    → (range : ℕ) × (request : Request) × IsAdmitted w id node place range request
grant_admitted w reads id node n has place e at granted =
    let g : GrantedEntry id e = granted_parts id e.event e.answer granted in
    let here : slice_get n.journal place ≡ Some (record { event = past.Admit g.range id g.at; answer = answers.Admitted }) = at ∙ ap Some g.is in
    let read : IsRead w n.requests (past.Admit g.range id g.at) = all_at (λ (x : JournalEntry). IsRead w n.requests x.event) n.journal place _ (reads node n has).all here in
    let asked = mapped_some (admitting g.range id) (slice_get n.requests g.at) read.event read.is in
    (g.range, asked.0, record { n = n; has = has; at = g.at; here = here; asked = asked.1 })

pub known : (nodes : ℕ) (w : World) → IsReached nodes w → (id : CmdId) → 0 < times_ended w id
    → (node : ℕ) × (place : ℕ) × (range : ℕ) × (request : Request) × IsAdmitted w id node place range request
known nodes w r id l =
    let x = sum_some (times_told id) w l in
    let k = balanced nodes w r id (suc x.0) x.1 x.2 in
    let told = x.3 in
    let granted : 0 < times_granted id x.1 = omega (arith, k, told) in
    let e = count_some (is_grant_of id) x.1.journal granted in
    let a = grant_admitted w (reads_back nodes w r) id (suc x.0) x.1 x.2 e.0 e.1 e.2 e.3 in
    (suc x.0, e.0, a.0, a.1, a.2)

-- where an attempt's outcome comes from
pub record OutcomeFrom (w : World) (id : CmdId) (o : Outcome) : Type 0 where
  pub node : ℕ
  pub n : Node
  pub has : node_of w node ≡ Some n
  pub at : outcome_at id n ≡ Some o

pub found_place : {X : Type 0} (test : X → Bool) (xs : List X) (x : X) → find test xs ≡ Some x → (place : ℕ) × (slice_get xs place ≡ Some x)
found_place test [] x e = absurd cc
found_place {X} test (z ∷ xs) x e = go (found_place test xs x) (test z) e where
  go : (find test xs ≡ Some x → (place : ℕ) × (slice_get xs place ≡ Some x)) → (b : Bool) → cond b (Some z) (find test xs) ≡ Some x → (place : ℕ) × (slice_get (z ∷ xs) place ≡ Some x)
  go ih true e' = (0, e')
  go ih false e' = let k = ih e' in (suc k.0, k.1)

pub outcome_from : (w : World) (id : CmdId) (o : Outcome) → outcome_of w id ≡ Some o → OutcomeFrom w id o
outcome_from w id o e = go (find (asked_at id) w) refl e where
  go : (f : Option Node) → find (asked_at id) w ≡ f → option_and_then (outcome_at id) f ≡ Some o → OutcomeFrom w id o
  go None found e' = absurd cc
  go (Some n) found e' = let k = found_place (asked_at id) w n found in record { node = suc k.0; n = n; has = k.1; at = e' }

-- the entry that an outcome is told by
pub record ToldBy (w : World) (id : CmdId) (node : ℕ) (n : Node) (o : Outcome) : Type 0 where
  pub place : ℕ
  pub e : JournalEntry
  pub here : slice_get n.journal place ≡ Some e
  pub asks : is_admission_of id e ≡ true
  pub by : outcome_by n id e.answer ≡ o

some_outcome : (a b : Outcome) → ◌≡◌ {A = Option Outcome} (Some a) (Some b) → a ≡ b
some_outcome a b e = cc

pub told_by : (w : World) (id : CmdId) (node : ℕ) (n : Node) (o : Outcome) → outcome_at id n ≡ Some o → ToldBy w id node n o
told_by w id node n o e = go (find (is_admission_of id) n.journal) refl e where
  go : (f : Option JournalEntry) → find (is_admission_of id) n.journal ≡ f → option_map (λ (x : JournalEntry). outcome_by n id x.answer) f ≡ Some o → ToldBy w id node n o
  go None found e' = absurd cc
  go (Some x) found e' =
      let k = found_place (is_admission_of id) n.journal x found in
      record { place = k.0; e = x; here = k.1; asks = found_passes (is_admission_of id) n.journal x found; by = some_outcome (outcome_by n id x.answer) o e' }

-- an ambiguous answer comes from the list of outcomes
ambiguous_listed : (n : Node) (id : CmdId) (why : Ambiguity) (a : EventAnswer) → outcome_by n id a ≡ outcomes.Ambiguous why → (e : Ended) × (find (λ (x : Ended). same_id x.id id) n.outcomes ≡ Some e) × (e.outcome ≡ outcomes.Ambiguous why)
ambiguous_listed n id why a is = by_answer a is where
  by_list : option_map_or (λ (o : Outcome). o) (ended_of id n.outcomes) outcomes.Pending ≡ outcomes.Ambiguous why → (e : Ended) × (find (λ (x : Ended). same_id x.id id) n.outcomes ≡ Some e) × (e.outcome ≡ outcomes.Ambiguous why)
  by_list is' = go (find (λ (x : Ended). same_id x.id id) n.outcomes) refl is' where
    go : (f : Option Ended) → find (λ (x : Ended). same_id x.id id) n.outcomes ≡ f → option_map_or (λ (o : Outcome). o) (option_map (λ (x : Ended). x.outcome) f) outcomes.Pending ≡ outcomes.Ambiguous why
        → (e : Ended) × (find (λ (x : Ended). same_id x.id id) n.outcomes ≡ Some e) × (e.outcome ≡ outcomes.Ambiguous why)
    go None found e = absurd cc
    go (Some x) found e = (x, found, e)

  by_answer : (a : EventAnswer) → outcome_by n id a ≡ outcomes.Ambiguous why → (e : Ended) × (find (λ (x : Ended). same_id x.id id) n.outcomes ≡ Some e) × (e.outcome ≡ outcomes.Ambiguous why)
  by_answer answers.Done is' = by_list is'
  by_answer answers.Nothing is' = by_list is'
  by_answer answers.Admitted is' = by_list is'
  by_answer (answers.Asked ask) is' = by_list is'
  by_answer (answers.Refused reason) is' = absurd cc
  by_answer (answers.LeaseHeld lease ticks) is' = by_list is'
  by_answer (answers.Value value applied) is' = by_list is'

pub ambiguous : (nodes : ℕ) (w : World) → IsReached nodes w → (id : CmdId) (why : Ambiguity) → outcome_of w id ≡ Some (outcomes.Ambiguous why) → HasCause w id why
ambiguous nodes w r id why e =
    let x : OutcomeFrom w id (outcomes.Ambiguous why) = outcome_from w id (outcomes.Ambiguous why) e in
    let t : ToldBy w id x.node x.n (outcomes.Ambiguous why) = told_by w id x.node x.n (outcomes.Ambiguous why) x.at in
    let l = ambiguous_listed x.n id why t.e.answer t.by in
    let true_end : IsTrueEnd w l.0.id l.0.outcome = all_found (λ (z : Ended). IsTrueEnd w z.id z.outcome) (λ (z : Ended). same_id z.id id) x.n.outcomes l.0 (true_ends nodes w r x.node x.n x.has) l.1 in
    let same : l.0.id ≡ id = same_is l.0.id id (found_passes (λ (z : Ended). same_id z.id id) x.n.outcomes l.0 l.1) in
    subst (λ i. HasCause w i why) same (subst (IsTrueEnd w l.0.id) l.2 true_end)
