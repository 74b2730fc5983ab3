-- A race stays one, along the inside of a round, at its end and at admissions.
use Rattle.std.proofs.Common.{◌≡◌, ℕ, zero, suc, ◌+◌, ◌<◌, ◌≤◌, Bool, true, false, ◌⊎◌, inl, inr, ⊎_elim, Option, None, Some, List, [], ◌∷◌, ◌++◌, length, length-append, append-nil, refl, sym, ap, subst, ◌∙◌, arith}
use Rattle.std.specs.Prelude.{slice_get, not, ◌&&◌}
use Rattle.std.specs.List.{list_any}
use Rattle.std.specs.Option.{option_map_or}
use Rattle.std.proofs.lemmas.Bool.{cases_eq, and_from}
use Rattle.std.proofs.lemmas.List.{length-map}
use Rattle.rp_base.specs.declared.ids.CmdId.{CmdId}
use Rattle.rp_raftstep.specs.RaftState.{nodes_to}
use Rattle.rp_request.specs.declared.requests.Request.{Request}
use Rattle.rp_events.specs.declared.journals.JournalEntry.{JournalEntry}
use Rattle.rp_events.specs.declared.journals.PastEvent.{PastEvent}
use Rattle.rp_events.specs.declared.journals.PastEvent.TheVariants as past
use Rattle.rp_events.specs.declared.node_events.Event.TheVariants as events
use Rattle.rp_events.specs.Lawful.{Lawful, AllLawful, IsReached, IsLater}
use Rattle.rp_events.specs.Nodes.{Node, first_node, is_full}
use Rattle.rp_events.specs.NodeEvents.{step}
use Rattle.rp_events.specs.Worlds as worlds
use Rattle.rp_events.specs.Worlds.{World, Scene, Schedule, Happening, node_of, happens, run, first_world, asked_at, was_asked}
use Rattle.rp_journals.specs.Asked.{AskedOnce, AskedNowhereElse, all_at}
use Rattle.rp_journals.specs.Elsewhere.{IsAhead, HappensThere}
use Rattle.rp_journals.specs.Entries.{at_node}
use Rattle.rp_journals.specs.Growth.{Begins, Grows, WorldGrows}
use Rattle.rp_journals.proofs.Asking.{asked_once, once_scene, node_any}
use Rattle.rp_journals.proofs.Elsewhere.{happens_is, happens_there}
use Rattle.rp_journals.proofs.Growing.{Happened, happened, grows_refl, one_node, with_same, scene_grows, run_grows, later_grows, world_trans, run_further, lawful_further, later_trans, reached_later}
use Rattle.rp_journals.proofs.Lists.{begins_trans}
use Rattle.rp_journals.proofs.Reading.{first_at, step_journal, entry_of}
use Rattle.rp_journals.proofs.Writing.{later_scene, other_is}
use Rattle.rp_race.specs.declared.rules.RaceRules.{RaceRules}
use Rattle.rp_race.specs.Rounds.{between, stage_of, stage_after, may_come}
use Rattle.rp_race.specs.Owed.{heard_from, carried, is_round, RoundsOwed}
use Rattle.rp_race.specs.Played.{IsTriesOf}
use Rattle.rp_race.specs.InTurn.{CameInTurn}
use Rattle.rp_race.specs.Race.{IsRace}
use Rattle.rp_race.specs.Gives.{Tried, with_try, try_at, tried_after, after_admission, admitted_after, MayTry, AllMayTry, kept_as, is_within_round, MayHappen, AllMayHappen, WasSeen, AllSeen, HeardSome, HeardAll, NoneBehind, IsPart, MayEnd, after_round, AdmitsWell, GoesWell}
use Rattle.rp_race.proofs.Ahead.{node_there, WasThere, was_there}
use Rattle.rp_race.proofs.Counted.{Counted, all_counted}
use Rattle.rp_race.proofs.Hearing.{heard_further, carried_grows}
use Rattle.rp_race.proofs.Nexts.{lawful_try, unasked}
use Rattle.rp_race.proofs.Ordered.{Ordered, ordered_scene, ordered_first, stage_push}
use Rattle.rp_race.proofs.Owing.{OwedNow, heard_now, owed_scene, owed_first}
use Rattle.rp_race.proofs.Trying.{tries_scene, no_admission, admission_leaves, tries_admission}
use Rattle.rp_race.proofs.Turning.{try_in_turn, part_in_turn, turn_first, turn_later}

-- how many nodes a reached world has
numbers_length : (n : ℕ) → length (nodes_to n) ≡ n
numbers_length zero = refl
numbers_length (suc n) = let more = numbers_length n in length-append (nodes_to n) (suc n ∷ []) ∙ omega (arith, more)

pub reached_size : (nodes : ℕ) (w : World) → IsReached nodes w → length w ≡ nodes
reached_size nodes w r =
    let g : WorldGrows (first_world nodes) w = subst (WorldGrows (first_world nodes)) r.reached (run_grows r.schedule (first_world nodes)) in
    g.size ∙ length-map (nodes_to nodes) (λ node. first_node node nodes) ∙ numbers_length nodes

-- what holds of a world in the middle of a round
pub record Stands (rules : RaceRules) (nodes : ℕ) (w : World) (tries : Tried) : Type 0 where
  pub reached : IsReached nodes w
  pub ordered : Ordered rules w
  pub owed : RoundsOwed rules w
  pub each : (client : ℕ) → IsTriesOf rules w client (tries client)

not_round : (n : Node) (what : Happening) → is_within_round what ≡ true → is_round (kept_as n what) ≡ false
not_round n (worlds.Admit range id request) e = absurd cc
not_round n (worlds.Ask range) e = refl
not_round n (worlds.Transfer range to) e = refl
not_round n (worlds.Collect range taken) e = refl
not_round n (worlds.Flush range) e = refl
not_round n worlds.Tick e = refl
not_round n (worlds.Deliver from number) e = refl
not_round n (worlds.Apply range) e = refl
not_round n (worlds.Cut range) e = refl
not_round n (worlds.Remove range) e = refl
not_round n (worlds.Peek range key) e = refl
not_round n worlds.Restart e = refl
not_round n worlds.Round e = absurd cc

stands_inside : (rules : RaceRules) (nodes : ℕ) (w : World) (tries : Tried) (node : ℕ) (what : Happening) → Stands rules nodes w tries → Lawful w (at_node node what) → MayHappen rules node w what
    → Stands rules nodes (happens w (at_node node what)) tries
stands_inside rules nodes w tries node what s l may = record {
  reached = reached_later nodes w (happens w (at_node node what)) s.reached (later_scene w (at_node node what) l);
  ordered = ordered_scene rules nodes w (at_node node what) s.reached may.n may.has may.may s.ordered;
  owed = owed_scene rules nodes w (at_node node what) s.reached may.n may.has (inl (not_round may.n what may.within)) s.owed;
  each = λ client. tries_scene rules w (at_node node what) may.n may.has client (tries client) (no_admission may.n client what may.within) (s.each client);
}

stands_part : (rules : RaceRules) (nodes : ℕ) (tries : Tried) (node : ℕ) (xs : List Happening) (w : World) → Stands rules nodes w tries → AllLawful w (all_at node xs) → AllMayHappen rules node w xs
    → Stands rules nodes (run w (all_at node xs)) tries
stands_part rules nodes tries node [] w s l may = s
stands_part rules nodes tries node (x ∷ xs) w s l may =
    stands_part rules nodes tries node xs (happens w (at_node node x)) (stands_inside rules nodes w tries node x s l.0 may.0) l.1 may.1

-- the inside of a round in a world that is ahead
nowhere_cons : (w : World) (node : ℕ) (x : Happening) (xs : List Happening) → is_within_round x ≡ true → AskedNowhereElse w node xs → AskedNowhereElse w node (x ∷ xs)
nowhere_cons w node (worlds.Admit range id request) xs e h = absurd cc
nowhere_cons w node (worlds.Ask range) xs e h = h
nowhere_cons w node (worlds.Transfer range to) xs e h = h
nowhere_cons w node (worlds.Collect range taken) xs e h = h
nowhere_cons w node (worlds.Flush range) xs e h = h
nowhere_cons w node worlds.Tick xs e h = h
nowhere_cons w node (worlds.Deliver from number) xs e h = h
nowhere_cons w node (worlds.Apply range) xs e h = h
nowhere_cons w node (worlds.Cut range) xs e h = h
nowhere_cons w node (worlds.Remove range) xs e h = h
nowhere_cons w node (worlds.Peek range key) xs e h = h
nowhere_cons w node worlds.Restart xs e h = h
nowhere_cons w node worlds.Round xs e h = absurd cc

pub others_stay : (w : World) (x : Scene) (k : ℕ) → (k ≡ x.node → ⊥) → node_of (happens w x) k ≡ node_of w k
others_stay w x k ne = ⊎_elim (λ (same : happens w x ≡ w). ap (λ z. node_of z k) same) (λ (h : Happened w x). other_is w x h k ne) (happened w x)

ahead_scene : (v w : World) (node : ℕ) (x : Happening) → IsAhead v w node → HappensThere v w node (x ∷ []) → IsAhead (happens v (at_node node x)) (happens w (at_node node x)) node
ahead_scene v w node x ahead there = record {
  same = there.same;
  grows = record {
    size = (scene_grows w (at_node node x)).size ∙ ahead.grows.size ∙ sym (scene_grows v (at_node node x)).size;
    each = λ k m is. ⊎_elim
        (λ (same : k ≡ node). record {
          now = m;
          has = subst (λ z. node_of (happens w (at_node node x)) z ≡ Some m) (sym same) (there.same ∙ subst (λ z. node_of (happens v (at_node node x)) z ≡ Some m) same is);
          grows = grows_refl m;
        })
        (λ (ne : k ≡ node → ⊥).
        let l = ahead.grows.each k m (sym (others_stay v (at_node node x) k ne) ∙ is) in
        record { now = l.now; has = there.others k ne ∙ l.has; grows = l.grows })
        (cases_eq k node);
  };
  once = once_scene w (at_node node x) there.lawful.0.lawful ahead.once;
}

record PartThere (rules : RaceRules) (v w : World) (node : ℕ) (xs : List Happening) : Type 0 where
  lawful : AllLawful w (all_at node xs)
  order : AllMayHappen rules node w xs
  same : node_of (run w (all_at node xs)) node ≡ node_of (run v (all_at node xs)) node
  others : (k : ℕ) → (k ≡ node → ⊥) → node_of (run w (all_at node xs)) k ≡ node_of w k

part_there : (rules : RaceRules) (node : ℕ) (xs : List Happening) (v w : World) → IsAhead v w node → AllLawful v (all_at node xs) → AllMayHappen rules node v xs → PartThere rules v w node xs
part_there rules node [] v w ahead l may = record { lawful = tt; order = tt; same = ahead.same; others = λ k ne. refl }
part_there rules node (x ∷ xs) v w ahead l may =
    let one : HappensThere v w node (x ∷ []) = happens_there (x ∷ []) v w node ahead (nowhere_cons w node x [] may.0.within tt) (l.0, tt) in
    let more : PartThere rules (happens v (at_node node x)) (happens w (at_node node x)) node xs =
    part_there rules node xs (happens v (at_node node x)) (happens w (at_node node x)) (ahead_scene v w node x ahead one) l.1 may.1 in
    record {
      lawful = (one.lawful.0, more.lawful);
      order = (record { n = may.0.n; has = ahead.same ∙ may.0.has; within = may.0.within; may = may.0.may }, more.order);
      same = more.same;
      others = λ k ne. more.others k ne ∙ one.others k ne;
    }

-- a race in which one node has gone on
module _ (rules : RaceRules) (broken now : ℕ → Bool) (w after : World) (node : ℕ) (later : Node) (grows : WorldGrows w after)
    (leaves : node_of after node ≡ Some later) (others : (k : ℕ) → (k ≡ node → ⊥) → node_of after k ≡ node_of w k) (race : IsRace rules broken w)
    (ordered : Ordered rules after) (owed : RoundsOwed rules after) (turn : CameInTurn after)
    (here : (from : ℕ) (m : Node) → node_of w from ≡ Some m → (from ≡ node → ⊥) → Begins (heard_from from later.journal) (carried rules from node m.sent))
    (stage : now node ≡ false → stage_of later.journal ≡ between) (lower : (k : ℕ) → (k ≡ node → ⊥) → now k ≡ false → broken k ≡ false) where
  heard_there : (k from : ℕ) (n m : Node) → node_of after k ≡ Some n → node_of after from ≡ Some m → (from ≡ k → ⊥) → Begins (heard_from from n.journal) (carried rules from k m.sent)
  heard_there k from n m has there ne = ⊎_elim
      (λ (same : k ≡ node).
      let n_is : later ≡ n = one_node after node later n leaves (subst (λ z. node_of after z ≡ Some n) same has) in
      let apart : from ≡ node → ⊥ = λ e. ne (e ∙ sym same) in
      subst (λ z. Begins (heard_from from n.journal) (carried rules from z m.sent)) (sym same)
      (subst (λ (z : Node). Begins (heard_from from z.journal) (carried rules from node m.sent)) n_is (here from m (sym (others from apart) ∙ there) apart)))
      (λ (apart : k ≡ node → ⊥).
      let was = node_there after w grows.size from m there in
      let l = grows.each from was.0 was.1 in
      let g : Grows was.0 m = subst (Grows was.0) (one_node after from l.now m l.has there) l.grows in
      begins_trans (heard_from from n.journal) (carried rules from k was.0.sent) (carried rules from k m.sent)
      (race.heard k from n was.0 (sym (others k apart) ∙ has) was.1 ne) (carried_grows rules from k was.0.sent m.sent g.sent))
      (cases_eq k node)

  pub race_on : IsRace rules now after
  race_on = record {
    order = ordered;
    heard = heard_there;
    whole = λ k n has unbroken. ⊎_elim
        (λ (same : k ≡ node).
        let n_is : later ≡ n = one_node after node later n leaves (subst (λ z. node_of after z ≡ Some n) same has) in
        ap (λ (z : Node). stage_of z.journal) (sym n_is) ∙ stage (subst (λ z. now z ≡ false) same unbroken))
        (λ (apart : k ≡ node → ⊥). race.whole k n (sym (others k apart) ∙ has) (lower k apart unbroken))
        (cases_eq k node);
    owed = owed;
    in_turn = turn;
  }

-- a node that was seen has only grown
seen_grows : (nodes : ℕ) (w : World) (from : ℕ) (seen m : Node) → WasSeen nodes w from seen → node_of w from ≡ Some m → Grows seen m
seen_grows nodes w from seen m s has =
    let l = (later_grows s.before w s.later).each from seen s.has in
    subst (Grows seen) (one_node w from l.now m l.has has) l.grows

-- what was heard of nodes that were seen is a beginning of what they have sent
heard_seen : (rules : RaceRules) (nodes : ℕ) (w seen : World) (node : ℕ) (later : Node) → length w ≡ nodes → AllSeen nodes seen w → HeardSome rules node seen later
    → (from : ℕ) (m : Node) → node_of w from ≡ Some m → (from ≡ node → ⊥) → Begins (heard_from from later.journal) (carried rules from node m.sent)
heard_seen rules nodes w seen node later size all heard from m has ne =
    let s = node_there w seen (size ∙ sym all.size) from m has in
    let g : Grows s.0 m = seen_grows nodes w from s.0 m (all.each from s.0 s.1) has in
    begins_trans (heard_from from later.journal) (carried rules from node s.0.sent) (carried rules from node m.sent) (heard from s.0 s.1 ne) (carried_grows rules from node s.0.sent m.sent g.sent)

true_false : (b : Bool) → b ≡ true → b ≡ false → ⊥
true_false b t f = let e = sym t ∙ f in absurd cc

pub broken_off : (rules : RaceRules) (broken now : ℕ → Bool) (nodes : ℕ) (w : World) → IsReached nodes w → IsRace rules broken w → (tries : Tried) → ((client : ℕ) → IsTriesOf rules w client (tries client))
    → (v seen : World) (node : ℕ) → IsAhead v w node → AllSeen nodes seen w → (xs : List Happening) (later : Node) → IsPart rules node v seen xs later
    → now node ≡ true → ((k : ℕ) → (k ≡ node → ⊥) → now k ≡ false → broken k ≡ false) → GoesWell rules now node w tries xs later
broken_off rules broken now nodes w reached race tries each v seen node ahead all xs later part off lower =
    let p : PartThere rules v w node xs = part_there rules node xs v w ahead part.lawful part.order in
    let s : Stands rules nodes (run w (all_at node xs)) tries =
    stands_part rules nodes tries node xs w (record { reached = reached; ordered = race.order; owed = race.owed; each = each }) p.lawful p.order in
    let leaves : node_of (run w (all_at node xs)) node ≡ Some later = p.same ∙ part.leaves in
    record {
      lawful = p.lawful;
      leaves = leaves;
      race = race_on rules broken now w (run w (all_at node xs)) node later (run_grows (all_at node xs) w) leaves p.others race s.ordered s.owed
          (turn_later w (run w (all_at node xs)) race.in_turn (record { schedule = all_at node xs; lawful = p.lawful; reached = refl }) (part_in_turn rules node xs w p.order))
          (heard_seen rules nodes w seen node later (reached_size nodes w reached) all part.heard) (λ e. absurd (true_false (now node) off e)) lower;
      each = s.each;
    }

pub at_further : (node : ℕ) (xs ys : List Happening) → all_at node (xs ++ ys) ≡ all_at node xs ++ all_at node ys
at_further node [] ys = refl
at_further node (x ∷ xs) ys = ap (λ l. at_node node x ∷ l) (at_further node xs ys)

-- the end of a round hears nothing more
round_journal : (n : Node) → (after_round n).journal ≡ n.journal ++ entry_of n events.Round [] ∷ []
round_journal n = step_journal n events.Round []

round_heard : (from : ℕ) (n : Node) → heard_from from (after_round n).journal ≡ heard_from from n.journal
round_heard from n = ap (heard_from from) (round_journal n) ∙ heard_further from n.journal (entry_of n events.Round [] ∷ []) ∙ append-nil (heard_from from n.journal)

pub whole : (rules : RaceRules) (broken : ℕ → Bool) (nodes : ℕ) (w : World) → IsReached nodes w → IsRace rules broken w → (tries : Tried) → ((client : ℕ) → IsTriesOf rules w client (tries client))
    → (v seen : World) (node : ℕ) → IsAhead v w node → AllSeen nodes seen w → (xs : List Happening) (later : Node) → IsPart rules node v seen xs later → MayEnd rules node seen later
    → GoesWell rules broken node w tries (xs ++ worlds.Round ∷ []) (after_round later)
whole rules broken nodes w reached race tries each v seen node ahead all xs later part end =
    let p : PartThere rules v w node xs = part_there rules node xs v w ahead part.lawful part.order in
    let inside : World = run w (all_at node xs) in
    let x : Scene = at_node node worlds.Round in
    let s : Stands rules nodes inside tries =
    stands_part rules nodes tries node xs w (record { reached = reached; ordered = race.order; owed = race.owed; each = each }) p.lawful p.order in
    let there : node_of inside node ≡ Some later = p.same ∙ part.leaves in
    let so_far : IsLater w inside = record { schedule = all_at node xs; lawful = p.lawful; reached = refl } in
    let last : Lawful inside x = record {
      lawful = ap (λ o. option_map_or (λ (k : Node). not (is_full k) && true) o false) there ∙ and_from (not (is_full later)) true (ap not end.room) refl;
      widths = tt;
    } in
    let owed_now : OwedNow rules inside node later = λ from m has ne enough.
    let was = node_there inside seen (reached_size nodes inside s.reached ∙ sym all.size) from m has in
    let then_seen : WasSeen nodes w from was.0 = all.each from was.0 was.1 in
    heard_now rules nodes inside node from later was.0 m
    (record { before = then_seen.before; reached = then_seen.reached; later = later_trans then_seen.before w inside then_seen.later so_far; has = then_seen.has })
    has (end.heard from was.0 was.1 ne) (end.behind from was.0 was.1 ne) enough in
    let after : World = happens inside x in
    let leaves : node_of after node ≡ Some (after_round later) =
    ap (λ z. node_of z node) (happens_is inside x later events.Round there refl) ∙ with_same inside node later (after_round later) there in
    let run_is : run w (all_at node (xs ++ worlds.Round ∷ [])) ≡ after =
    ap (run w) (at_further node xs (worlds.Round ∷ [])) ∙ run_further (all_at node xs) (x ∷ []) w in
    let on : IsRace rules broken after =
    race_on rules broken broken w after node (after_round later) (world_grows_on w inside x (run_grows (all_at node xs) w)) leaves
    (λ k ne. others_stay inside x k ne ∙ p.others k ne) race
    (ordered_scene rules nodes inside x s.reached later there end.may s.ordered)
    (owed_scene rules nodes inside x s.reached later there (inr owed_now) s.owed)
    (turn_later inside after (turn_later w inside race.in_turn so_far (part_in_turn rules node xs w p.order)) (record { schedule = x ∷ []; lawful = (last, tt); reached = refl }) (tt, tt))
    (λ from m has ne. subst (λ l. Begins l (carried rules from node m.sent)) (sym (round_heard from later)) (heard_seen rules nodes w seen node later (reached_size nodes w reached) all part.heard from m has ne))
    (λ unbroken. ap stage_of (round_journal later) ∙ stage_push later.journal (entry_of later events.Round []))
    (λ k ne unbroken. unbroken) in
    record {
      lawful = subst (AllLawful w) (sym (at_further node xs (worlds.Round ∷ []))) (lawful_further (all_at node xs) (x ∷ []) w p.lawful (last, tt));
      leaves = subst (λ z. node_of z node ≡ Some (after_round later)) (sym run_is) leaves;
      race = subst (IsRace rules broken) (sym run_is) on;
      each = λ client. subst (λ z. IsTriesOf rules z client (tries client)) (sym run_is)
          (tries_scene rules inside x later there client (tries client) refl (s.each client));
    }
  where
    world_grows_on : (w inside : World) (x : Scene) → WorldGrows w inside → WorldGrows w (happens inside x)
    world_grows_on w inside x g = world_trans w inside (happens inside x) g (scene_grows inside x)

-- admissions
nowhere_back : (w after : World) (node : ℕ) → ((k : ℕ) → (k ≡ node → ⊥) → node_of after k ≡ node_of w k) → (xs : List Happening) → AskedNowhereElse after node xs → AskedNowhereElse w node xs
nowhere_back w after node others [] h = tt
nowhere_back w after node others (worlds.Admit range id request ∷ xs) h = ((λ k m has ne. h.0 k m (others k ne ∙ has) ne), nowhere_back w after node others xs h.1)
nowhere_back w after node others (worlds.Ask range ∷ xs) h = nowhere_back w after node others xs h
nowhere_back w after node others (worlds.Transfer range to ∷ xs) h = nowhere_back w after node others xs h
nowhere_back w after node others (worlds.Collect range taken ∷ xs) h = nowhere_back w after node others xs h
nowhere_back w after node others (worlds.Flush range ∷ xs) h = nowhere_back w after node others xs h
nowhere_back w after node others (worlds.Tick ∷ xs) h = nowhere_back w after node others xs h
nowhere_back w after node others (worlds.Deliver from number ∷ xs) h = nowhere_back w after node others xs h
nowhere_back w after node others (worlds.Apply range ∷ xs) h = nowhere_back w after node others xs h
nowhere_back w after node others (worlds.Cut range ∷ xs) h = nowhere_back w after node others xs h
nowhere_back w after node others (worlds.Remove range ∷ xs) h = nowhere_back w after node others xs h
nowhere_back w after node others (worlds.Peek range key ∷ xs) h = nowhere_back w after node others xs h
nowhere_back w after node others (worlds.Restart ∷ xs) h = nowhere_back w after node others xs h
nowhere_back w after node others (worlds.Round ∷ xs) h = nowhere_back w after node others xs h

pub admission_heard : (from : ℕ) (n : Node) (range : ℕ) (id : CmdId) (request : Request) → heard_from from (after_admission n range id request).journal ≡ heard_from from n.journal
admission_heard from n range id request =
    ap (heard_from from) (step_journal n (events.Admit range id request) []) ∙ heard_further from n.journal (entry_of n (events.Admit range id request) [] ∷ []) ∙ append-nil (heard_from from n.journal)

pub admission_stage : (n : Node) (range : ℕ) (id : CmdId) (request : Request) → stage_of n.journal ≡ between → stage_of (after_admission n range id request).journal ≡ between
admission_stage n range id request e =
    ap stage_of (step_journal n (events.Admit range id request) []) ∙ stage_push n.journal (entry_of n (events.Admit range id request) [])
    ∙ ap (λ s. stage_after s (past.Admit range id (length n.requests))) e

pub admits : (rules : RaceRules) (broken : ℕ → Bool) (nodes node : ℕ) (xs : List Happening) (w : World) → IsReached nodes w → IsRace rules broken w → (tries : Tried)
    → ((client : ℕ) → IsTriesOf rules w client (tries client)) → (n : Node) → node_of w node ≡ Some n → AllMayTry rules nodes node n tries xs → AdmitsWell rules broken node w n tries xs
admits rules broken nodes node [] w reached race tries each n has may = record { lawful = tt; nowhere_else = tt; leaves = has; race = race; each = each }
admits rules broken nodes node (worlds.Admit range id request ∷ xs) w reached race tries each n has may =
    let x : Scene = at_node node (worlds.Admit range id request) in
    let after : World = happens w x in
    let new : Node = after_admission n range id request in
    let once : AskedOnce w = asked_once nodes w reached in
    let size : length w ≡ nodes = reached_size nodes w reached in
    let counted : Counted n = all_counted nodes w reached node n has in
    let none : was_asked w id ≡ false = unasked rules w (tries id.client) id (each id.client) may.0.may.next in
    let l : Lawful w x = lawful_try rules nodes w node n tries range id request once has (each id.client) may.0 in
    let leaves : node_of after node ≡ Some new = admission_leaves rules nodes w node n tries range id request size has counted may.0 in
    let others : (k : ℕ) → (k ≡ node → ⊥) → node_of after k ≡ node_of w k = others_stay w x in
    let on : IsRace rules broken after =
    race_on rules broken broken w after node new (scene_grows w x) leaves others race
    (ordered_scene rules nodes w x reached n has refl race.order)
    (owed_scene rules nodes w x reached n has (inl refl) race.owed)
    (turn_later w after race.in_turn (record { schedule = x ∷ []; lawful = (l, tt); reached = refl }) (try_in_turn rules w once (tries id.client) range id request (each id.client) may.0.may.next, tt))
    (λ from m there ne. subst (λ l. Begins l (carried rules from node m.sent)) (sym (admission_heard from n range id request)) (race.heard node from n m has there ne))
    (λ unbroken. admission_stage n range id request (race.whole node n has unbroken))
    (λ k ne unbroken. unbroken) in
    let more : AdmitsWell rules broken node after new (with_try tries (try_at node n range id request)) xs =
    admits rules broken nodes node xs after (reached_later nodes w after reached (later_scene w x l)) on (with_try tries (try_at node n range id request))
    (tries_admission rules nodes w node n tries range id request size has counted may.0 (each id.client) each) new leaves may.1 in
    record {
      lawful = (l, more.lawful);
      nowhere_else = ((λ k m there ne. unasked_at w id none k m there), nowhere_back w after node others xs more.nowhere_else);
      leaves = more.leaves;
      race = more.race;
      each = more.each;
    }
  where
    unasked_at : (w : World) (id : CmdId) → was_asked w id ≡ false → (k : ℕ) (m : Node) → node_of w k ≡ Some m → asked_at id m ≡ false
    unasked_at w id none k m there = go (asked_at id m) refl where
      go : (b : Bool) → asked_at id m ≡ b → asked_at id m ≡ false
      go true e = absurd (true_false (was_asked w id) (node_any (asked_at id) w k m there e) none)
      go false e = e
admits rules broken nodes node (worlds.Ask range ∷ xs) w reached race tries each n has may = absurd may
admits rules broken nodes node (worlds.Transfer range to ∷ xs) w reached race tries each n has may = absurd may
admits rules broken nodes node (worlds.Collect range taken ∷ xs) w reached race tries each n has may = absurd may
admits rules broken nodes node (worlds.Flush range ∷ xs) w reached race tries each n has may = absurd may
admits rules broken nodes node (worlds.Tick ∷ xs) w reached race tries each n has may = absurd may
admits rules broken nodes node (worlds.Deliver from number ∷ xs) w reached race tries each n has may = absurd may
admits rules broken nodes node (worlds.Apply range ∷ xs) w reached race tries each n has may = absurd may
admits rules broken nodes node (worlds.Cut range ∷ xs) w reached race tries each n has may = absurd may
admits rules broken nodes node (worlds.Remove range ∷ xs) w reached race tries each n has may = absurd may
admits rules broken nodes node (worlds.Peek range key ∷ xs) w reached race tries each n has may = absurd may
admits rules broken nodes node (worlds.Restart ∷ xs) w reached race tries each n has may = absurd may
admits rules broken nodes node (worlds.Round ∷ xs) w reached race tries each n has may = absurd may

pub race_first : (rules : RaceRules) (broken : ℕ → Bool) (nodes : ℕ) → IsRace rules broken (first_world nodes)
race_first rules broken nodes = record {
  order = ordered_first rules nodes;
  heard = λ node from n m has there ne.
      subst (λ (z : Node). Begins (heard_from from z.journal) (carried rules from node m.sent)) (sym (first_at nodes node n has)) (record { more = carried rules from node m.sent; is = refl });
  whole = λ node n has unbroken. ap (λ (z : Node). stage_of z.journal) (first_at nodes node n has);
  owed = owed_first rules nodes;
  in_turn = turn_first nodes;
}
