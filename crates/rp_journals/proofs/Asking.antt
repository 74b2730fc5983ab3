-- Each attempt is asked once.
use Rattle.std.proofs.Common.{◌≡◌, ℕ, zero, suc, ◌+◌, ◌≤◌, Bool, true, false, cond, ⊎_elim, Option, None, Some, List, [], ◌∷◌, map, refl, sym, ap, subst, ◌∙◌, arith, set}
use Rattle.std.specs.Prelude.{slice_get, not, ◌&&◌, ◌||◌, IsTrue}
use Rattle.std.specs.List.{list_any, count_by, sum_by}
use Rattle.std.specs.Option.{option_map_or}
use Rattle.std.proofs.lemmas.Bool.{and_parts}
use Rattle.std.proofs.lemmas.Option.{slice_get_within, get_or_from_slice_get}
use Rattle.std.proofs.lemmas.List.Sums.{sum_by-set, sum_by-cons}
use Rattle.rp_base.proofs.Counts.{count_cons, count_push}
use Rattle.rp_base.proofs.IdLaws.{same_is}
use Rattle.rp_base.specs.declared.ids.CmdId.{CmdId}
use Rattle.rp_base.specs.declared.items.Item.{Item}
use Rattle.rp_raftstep.specs.RaftState.{nodes_to}
use Rattle.rp_request.specs.Applied.{AppliedState}
use Rattle.rp_request.specs.declared.requests.Request.{Request}
use Rattle.rp_events.specs.declared.journals.JournalEntry.{JournalEntry}
use Rattle.rp_events.specs.declared.node_events.Event.{Event}
use Rattle.rp_events.specs.declared.node_events.Event.TheVariants as events
use Rattle.rp_events.specs.Nodes.{Node, is_full, first_node}
use Rattle.rp_events.specs.NodeEvents.{step}
use Rattle.rp_events.specs.Worlds as worlds
use Rattle.rp_events.specs.Worlds.{World, Scene, Happening, Schedule, first_world, node_of, with_node, delivery, sent_by, event_of, taken_in, happens, run, is_admission_of, asked_at, was_asked}
use Rattle.rp_events.specs.Nodes.{parcel_of}
use Rattle.rp_events.specs.Lawful.{may_begin, is_allowed, is_lawful, AllLawful, IsReached}
use Rattle.rp_events.specs.Lists.{IsWritten}
use Rattle.rp_journals.specs.Asked.{times_asked, AskedOnce}
use Rattle.rp_journals.proofs.Growing.{Happened, happened}
use Rattle.rp_journals.proofs.Writing.{EntryCases, Old, New, entry_cases, none_written}
use Rattle.rp_journals.proofs.Reading.{mapped_some, entry_of, step_journal}

pub any_at : {X : Type 0} (test : X → Bool) (xs : List X) (i : ℕ) (x : X) → slice_get xs i ≡ Some x → test x ≡ true → list_any test xs ≡ true
any_at test [] i x at is = absurd cc
any_at {X} test (z ∷ xs) zero x at is = first (subst (λ y. test y ≡ true) (sym (some_is z x at)) is) where
  some_is : (a b : X) → ◌≡◌ {A = Option X} (Some a) (Some b) → a ≡ b
  some_is a b e = cc

  first : test z ≡ true → (test z || list_any test xs) ≡ true
  first e = ap (λ b. b || list_any test xs) e
any_at test (z ∷ xs) (suc i) x at is = go (test z) (any_at test xs i x at is) where
  go : (b : Bool) → list_any test xs ≡ true → (b || list_any test xs) ≡ true
  go true e = refl
  go false e = e

-- the node is one of the world
pub node_any : (test : Node → Bool) (w : World) (node : ℕ) (n : Node) → node_of w node ≡ Some n → test n ≡ true → list_any test w ≡ true
node_any test w zero n has is = absurd (none_some has)
  where
    none_some : ◌≡◌ {A = Option Node} None (Some n) → ⊥
    none_some e = cc
node_any test w (suc place) n has is = any_at test w place n has is

-- an attempt that is written as asked was asked
pub written_asked : (w : World) (id : CmdId) (node place : ℕ) (e : JournalEntry) → IsWritten w node place e → is_admission_of id e ≡ true → was_asked w id ≡ true
written_asked w id node place e is adm = node_any (asked_at id) w node is.n is.has (any_at (is_admission_of id) is.n.journal place e is.here adm)

pub true_not_false : (b : Bool) → b ≡ true → b ≡ false → ⊥
true_not_false true e f = absurd cc
true_not_false false e f = absurd cc

-- what a scene that is lawful allows
pub allowed : (w : World) (x : Scene) (n : Node) → node_of w x.node ≡ Some n → IsTrue (is_lawful w x) → (not (is_full n) ≡ true) × (is_allowed w x.node x.what ≡ true)
allowed w x n has l = and_parts (not (is_full n)) (is_allowed w x.node x.what) (both l) where
  lawful_is : is_lawful w x ≡ not (is_full n) && is_allowed w x.node x.what
  lawful_is = ap (λ o. option_map_or (λ (k : Node). not (is_full k) && is_allowed w x.node x.what) o false) has

  both : IsTrue (is_lawful w x) → (not (is_full n) && is_allowed w x.node x.what) ≡ true
  both h = sym lawful_is ∙ h

-- an entry that is an admission of an attempt is that of its own scene
pub record Admitting (id : CmdId) (what : Happening) : Type 0 where
  pub range : ℕ
  pub request : Request
  pub is : what ≡ worlds.Admit range id request

some_event : (a b : Event AppliedState) → ◌≡◌ {A = Option (Event AppliedState)} (Some a) (Some b) → a ≡ b
some_event a b e = cc

module _ (w : World) (n : Node) (taken : List Item) (id : CmdId) where
  other_event : (what : Happening) (a ev : Event AppliedState) → a ≡ ev → is_admission_of id (entry_of n a taken) ≡ false → is_admission_of id (entry_of n ev taken) ≡ true → Admitting id what
  other_event what a ev is other adm = absurd (true_not_false (is_admission_of id (entry_of n a taken)) (subst (λ e. is_admission_of id (entry_of n e taken) ≡ true) (sym is) adm) other)

  pub admits : (what : Happening) (ev : Event AppliedState) → event_of w what ≡ Some ev → is_admission_of id (entry_of n ev taken) ≡ true → Admitting id what
  admits (worlds.Admit range other request) ev came adm = record {
    range = range;
    request = request;
    is = ap (λ i. worlds.Admit range i request) (same_is other id (subst (λ e. is_admission_of id (entry_of n e taken) ≡ true) (sym (some_event (events.Admit range other request) ev came)) adm));
  }
  admits (worlds.Ask range) ev came adm = other_event _ (events.Ask range) ev (some_event _ ev came) refl adm
  admits (worlds.Transfer range to) ev came adm = other_event _ (events.Transfer range to) ev (some_event _ ev came) refl adm
  admits (worlds.Collect range given) ev came adm = other_event _ (events.Collect range) ev (some_event _ ev came) refl adm
  admits (worlds.Flush range) ev came adm = other_event _ (events.Flush range) ev (some_event _ ev came) refl adm
  admits worlds.Tick ev came adm = other_event _ events.Tick ev (some_event _ ev came) refl adm
  admits (worlds.Deliver from number) ev came adm =
      let x = mapped_some (delivery from number) (parcel_of (sent_by w from) number) ev came in
      other_event _ (delivery from number x.0) ev x.2 refl adm
  admits (worlds.Apply range) ev came adm = other_event _ (events.Apply range) ev (some_event _ ev came) refl adm
  admits (worlds.Cut range) ev came adm = other_event _ (events.Cut range) ev (some_event _ ev came) refl adm
  admits (worlds.Remove range) ev came adm = other_event _ (events.Remove range) ev (some_event _ ev came) refl adm
  admits (worlds.Peek range key) ev came adm = other_event _ (events.Peek range key) ev (some_event _ ev came) refl adm
  admits worlds.Restart ev came adm = other_event _ events.Restart ev (some_event _ ev came) refl adm
  admits worlds.Round ev came adm = other_event _ events.Round ev (some_event _ ev came) refl adm

pub not_true : (b : Bool) → not b ≡ true → b ≡ false
not_true true e = absurd cc
not_true false e = refl

-- what may begin was not asked before
pub begins_unasked : (w : World) (id : CmdId) (request : Request) → may_begin w id request ≡ true → was_asked w id ≡ false
begins_unasked w id request e = not_true (was_asked w id) (and_parts (not (was_asked w id)) _ e).0

pub new_unasked : (w : World) (x : Scene) (k : Happened w x) → IsTrue (is_lawful w x) → (id : CmdId) → is_admission_of id (entry_of k.n k.event (taken_in x.what)) ≡ true → was_asked w id ≡ false
new_unasked w x k l id adm =
    let a : Admitting id x.what = admits w k.n (taken_in x.what) id x.what k.event k.came adm in
    begins_unasked w id a.request (subst (λ what. is_allowed w x.node what ≡ true) a.is (allowed w x k.n k.has l).1)

pub once_scene : (w : World) (x : Scene) → IsTrue (is_lawful w x) → AskedOnce w → AskedOnce (happens w x)
once_scene w x l h = ⊎_elim
    (λ (same : happens w x ≡ w). subst AskedOnce (sym same) h)
    (λ (k : Happened w x). λ id node place e is adm other j f is' adm'.
    by_cases k id node place e other j f adm adm' (entry_cases w x k node place e is) (entry_cases w x k other j f is'))
    (happened w x)
  where
    clash : (k : Happened w x) (id : CmdId) (node place : ℕ) (e f : JournalEntry) → IsWritten w node place e → is_admission_of id e ≡ true → f ≡ entry_of k.n k.event (taken_in x.what) → is_admission_of id f ≡ true → ⊥
    clash k id node place e f was adm is adm' =
        true_not_false (was_asked w id) (written_asked w id node place e was adm) (new_unasked w x k l id (subst (λ z. is_admission_of id z ≡ true) is adm'))

    by_cases : (k : Happened w x) (id : CmdId) (node place : ℕ) (e : JournalEntry) (other j : ℕ) (f : JournalEntry) → is_admission_of id e ≡ true → is_admission_of id f ≡ true
        → EntryCases w x k node place e → EntryCases w x k other j f → (other ≡ node) × (j ≡ place)
    by_cases k id node place e other j f adm adm' (Old a) (Old b) = h id node place e a adm other j f b adm'
    by_cases k id node place e other j f adm adm' (Old a) (New at here is) = absurd (clash k id node place e f a adm is adm')
    by_cases k id node place e other j f adm adm' (New at here is) (Old b) = absurd (clash k id other j f e b adm' is adm)
    by_cases k id node place e other j f adm adm' (New at here is) (New at' here' is') = (at' ∙ sym at, here' ∙ sym here)

once_run : (xs : Schedule) (w : World) → AllLawful w xs → AskedOnce w → AskedOnce (run w xs)
once_run [] w lawful h = h
once_run (x ∷ xs) w lawful h = once_run xs (happens w x) lawful.1 (once_scene w x lawful.0.lawful h)

-- in each world that is reached an attempt is asked once
pub asked_once : (nodes : ℕ) (w : World) → IsReached nodes w → AskedOnce w
asked_once nodes w r = subst AskedOnce r.reached (once_run r.schedule (first_world nodes) r.lawful (λ id node place e is adm. absurd (none_written nodes node place e is)))

-- a sum over the nodes of a world in which one changed
pub sum_with : (f : Node → ℕ) (w : World) (node : ℕ) (n new : Node) → node_of w node ≡ Some n → sum_by f (with_node w node new) + f n ≡ sum_by f w + f new
sum_with f w zero n new e = absurd (none_some e)
  where
    none_some : ◌≡◌ {A = Option Node} None (Some n) → ⊥
    none_some e = cc
sum_with f w (suc place) n new e =
    ap (λ z. sum_by f (set w place new) + f z) (sym (get_or_from_slice_get w place n n e))
    ∙ sum_by-set f w place new n (slice_get_within w place n e)

or_false : (a b : Bool) → (a || b) ≡ false → (a ≡ false) × (b ≡ false)
or_false true b e = absurd cc
or_false false b e = (refl, e)

pub none_counted : {X : Type 0} (test : X → Bool) (xs : List X) → list_any test xs ≡ false → count_by test xs ≡ 0
none_counted test [] e = refl
none_counted test (x ∷ xs) e =
    let parts = or_false (test x) (list_any test xs) e in
    count_cons test x xs ∙ ap (λ b. cond b 1 0 + count_by test xs) parts.0 ∙ omega (arith, none_counted test xs parts.1)

unasked_none : (w : World) (id : CmdId) → was_asked w id ≡ false → times_asked w id ≡ 0
unasked_none [] id e = refl
unasked_none (n ∷ w) id e =
    let parts = or_false (asked_at id n) (was_asked w id) e in
    let here : count_by (is_admission_of id) n.journal ≡ 0 = none_counted (is_admission_of id) n.journal parts.0 in
    let more : times_asked w id ≡ 0 = unasked_none w id parts.1 in
    sum_by-cons (λ (z : Node). count_by (is_admission_of id) z.journal) n w ∙ omega (arith, here, more)

times_scene : (w : World) (x : Scene) → IsTrue (is_lawful w x) → (id : CmdId) → times_asked w id ≤ 1 → times_asked (happens w x) id ≤ 1
times_scene w x l id h = ⊎_elim
    (λ (same : happens w x ≡ w). subst (λ z. times_asked z id ≤ 1) (sym same) h)
    (λ (k : Happened w x). by_entry k (is_admission_of id (entry_of k.n k.event (taken_in x.what))) refl)
    (happened w x)
  where
    by_entry : (k : Happened w x) (b : Bool) → is_admission_of id (entry_of k.n k.event (taken_in x.what)) ≡ b → times_asked (happens w x) id ≤ 1
    by_entry k b adm =
        let new : Node = (step k.n k.event (taken_in x.what)).node in
        let f : (Node → ℕ) = λ (z : Node). count_by (is_admission_of id) z.journal in
        let grown : f new ≡ f k.n + cond b 1 0 = ap (count_by (is_admission_of id)) (step_journal k.n k.event (taken_in x.what)) ∙ count_push (is_admission_of id) k.n.journal _ ∙ ap (λ z. f k.n + cond z 1 0) adm in
        let all : times_asked (with_node w x.node new) id + f k.n ≡ times_asked w id + f new = sum_with f w x.node k.n new k.has in
        let now : times_asked (with_node w x.node new) id ≡ times_asked w id + cond b 1 0 = omega (arith, grown, all) in
        subst (λ z. times_asked z id ≤ 1) (sym k.is) (subst (λ z. z ≤ 1) (sym now) (by_case b adm))
      where
        by_case : (b : Bool) → is_admission_of id (entry_of k.n k.event (taken_in x.what)) ≡ b → times_asked w id + cond b 1 0 ≤ 1
        by_case true adm = let none : times_asked w id ≡ 0 = unasked_none w id (new_unasked w x k l id adm) in omega (arith, none)
        by_case false adm = omega (arith, h)

times_run : (xs : Schedule) (w : World) → AllLawful w xs → (id : CmdId) → times_asked w id ≤ 1 → times_asked (run w xs) id ≤ 1
times_run [] w lawful id h = h
times_run (x ∷ xs) w lawful id h = times_run xs (happens w x) lawful.1 id (times_scene w x lawful.0.lawful id h)

-- the sum over the first nodes of what is 0 at each
pub first_sum : (f : Node → ℕ) (nodes : ℕ) → ((node : ℕ) → f (first_node node nodes) ≡ 0) → (numbers : List ℕ) → sum_by f (map (λ node. first_node node nodes) numbers) ≡ 0
first_sum f nodes zero_at [] = refl
first_sum f nodes zero_at (k ∷ numbers) =
    let here = zero_at k in
    let more = first_sum f nodes zero_at numbers in
    sum_by-cons f (first_node k nodes) (map (λ node. first_node node nodes) numbers) ∙ omega (arith, here, more)

pub times_at_most_once : (nodes : ℕ) (w : World) → IsReached nodes w → (id : CmdId) → times_asked w id ≤ 1
times_at_most_once nodes w r id = subst (λ z. times_asked z id ≤ 1) r.reached (times_run r.schedule (first_world nodes) r.lawful id
    (let none : times_asked (first_world nodes) id ≡ 0 = first_sum (λ (z : Node). count_by (is_admission_of id) z.journal) nodes (λ node. refl) (nodes_to nodes) in omega (arith, none)))
