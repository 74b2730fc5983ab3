-- Of two tries of a client the earlier had ended before the later was made.
use Rattle.std.proofs.Common.{◌≡◌, ℕ, Bool, true, false, ◌⊎◌, ⊎_elim, List, [], ◌∷◌, refl, sym, subst, ◌∙◌, arith}
use Rattle.std.specs.Prelude.{map}
use Rattle.std.specs.List.{list_any}
use Rattle.std.proofs.lemmas.Option.{slice_get_within}
use Rattle.rp_base.specs.declared.ids.CmdId.{CmdId}
use Rattle.rp_raftstep.specs.RaftState.{nodes_to}
use Rattle.rp_request.specs.declared.requests.Request.{Request}
use Rattle.rp_events.specs.Lawful.{Lawful, AllLawful, IsLater}
use Rattle.rp_events.specs.Nodes.{first_node}
use Rattle.rp_events.specs.Worlds as worlds
use Rattle.rp_events.specs.Worlds.{World, Scene, Schedule, taken_in, first_world, happens, run, is_admission_of, asked_at, was_asked}
use Rattle.rp_journals.specs.Growth.{WorldGrows}
use Rattle.rp_journals.proofs.Asking.{Admitting, admits, written_asked, true_not_false}
use Rattle.rp_journals.proofs.Growing.{Happened, happened, later_grows, later_refl, later_trans}
use Rattle.rp_journals.proofs.Places.{AskedThere, asked_there}
use Rattle.rp_journals.proofs.Writing.{EntryCases, Old, New, entry_cases, later_scene}
use Rattle.rp_race.specs.declared.rules.RaceRules.{RaceRules}
use Rattle.rp_race.specs.InTurn.{IsEarlier, IsInTurn, AllInTurn, CameInTurn, CameBehind}
use Rattle.rp_race.specs.Race.{IsRace}
use Rattle.rp_race.proofs.Ahead.{begun_back}
use Rattle.rp_race.proofs.Nexts.{not_before, before_trans}

-- an attempt that was made in a scene is what the scene admits
made_by : (w : World) (x : Scene) (id : CmdId) → was_asked w id ≡ false → was_asked (happens w x) id ≡ true → Admitting id x.what
made_by w x id none made = ⊎_elim
    (λ (same : happens w x ≡ w). absurd (true_not_false (was_asked w id) (subst (λ z. was_asked z id ≡ true) same made) none))
    (λ (k : Happened w x). let a = asked_there (happens w x) id made in by_cases k a (entry_cases w x k a.node a.place a.e a.is))
    (happened w x)
  where
    by_cases : (k : Happened w x) (a : AskedThere (happens w x) id) → EntryCases w x k a.node a.place a.e → Admitting id x.what
    by_cases k a (Old was) = absurd (true_not_false (was_asked w id) (written_asked w id a.node a.place a.e was a.asks) none)
    by_cases k a (New at here is) = admits w k.n (taken_in x.what) id x.what k.event k.came (subst (λ z. is_admission_of id z ≡ true) is a.asks)

-- at first none was made, and one that was made stays so
none_made : (nodes : ℕ) (id : CmdId) → was_asked (first_world nodes) id ≡ false
none_made nodes id = go (nodes_to nodes) where
  go : (numbers : List ℕ) → list_any (asked_at id) (map (λ node. first_node node nodes) numbers) ≡ false
  go [] = refl
  go (k ∷ ks) = go ks

stays_made : (w later : World) → WorldGrows w later → (id : CmdId) → was_asked w id ≡ true → was_asked later id ≡ true
stays_made w later g id made =
    let a = asked_there w id made in
    let x = g.each a.node a.is.n a.is.has in
    written_asked later id a.node a.place a.e
    (record { n = x.now; has = x.has; here = begun_back a.is.n.journal x.now.journal x.grows.journal a.place (slice_get_within a.is.n.journal a.place a.e a.is.here) ∙ a.is.here }) a.asks

-- the scene of a schedule in which an attempt is made, and what comes behind it
record MadeAlong (w : World) (xs : Schedule) (id : CmdId) : Type 0 where
  before : World
  x : Scene
  behind : Schedule
  came : IsLater w before
  lawful : Lawful before x
  turn : IsInTurn before x.what
  not_yet : was_asked before id ≡ false
  made : was_asked (happens before x) id ≡ true
  all_lawful : AllLawful (happens before x) behind
  all_turn : AllInTurn (happens before x) behind
  leads : run (happens before x) behind ≡ run w xs

made_along : (xs : Schedule) (w : World) (id : CmdId) → AllLawful w xs → AllInTurn w xs → was_asked w id ≡ false → was_asked (run w xs) id ≡ true → MadeAlong w xs id
made_along [] w id l t none made = absurd (true_not_false (was_asked w id) made none)
made_along (x ∷ xs) w id l t none made =
    go (was_asked (happens w x) id) refl (λ is. made_along xs (happens w x) id l.1 t.1 is made)
  where
    go : (b : Bool) → was_asked (happens w x) id ≡ b → (was_asked (happens w x) id ≡ false → MadeAlong (happens w x) xs id) → MadeAlong w (x ∷ xs) id
    go true is more = record {
      before = w;
      x = x;
      behind = xs;
      came = later_refl w;
      lawful = l.0;
      turn = t.0;
      not_yet = none;
      made = is;
      all_lawful = l.1;
      all_turn = t.1;
      leads = refl;
    }
    go false is more = let m = more is in record {
      before = m.before;
      x = m.x;
      behind = m.behind;
      came = later_trans w (happens w x) m.before (later_scene w x l.0) m.came;
      lawful = m.lawful;
      turn = m.turn;
      not_yet = m.not_yet;
      made = m.made;
      all_lawful = m.all_lawful;
      all_turn = m.all_turn;
      leads = m.leads;
    }

same_made : (a b : CmdId) (r s : ℕ) (p q : Request) → worlds.Admit r a p ≡ worlds.Admit s b q → a ≡ b
same_made a b r s p q e = cc

-- where the later one is made, the earlier was made before
was_made : (w : World) (xs : Schedule) (earlier later : CmdId) → earlier.client ≡ later.client → IsEarlier earlier later → (m : MadeAlong w xs later) → was_asked (run w xs) earlier ≡ true
    → was_asked m.before earlier ≡ true
was_made w xs earlier later mine order m asked = go (was_asked m.before earlier) refl where
  there : World
  there = happens m.before m.x

  again : was_asked m.before earlier ≡ false → (b : Bool) → was_asked there earlier ≡ b → ⊥
  again none true is =
      let a : Admitting later m.x.what = made_by m.before m.x later m.not_yet m.made in
      let e : Admitting earlier m.x.what = made_by m.before m.x earlier none is in
      not_before earlier later (same_made earlier later e.range a.range e.request a.request (sym e.is ∙ a.is)) order
  again none false is =
      let k : MadeAlong there m.behind earlier = made_along m.behind there earlier m.all_lawful m.all_turn is (subst (λ z. was_asked z earlier ≡ true) (sym m.leads) asked) in
      let e : Admitting earlier k.x.what = made_by k.before k.x earlier k.not_yet k.made in
      let turn : IsInTurn k.before (worlds.Admit e.range earlier e.request) = subst (IsInTurn k.before) e.is k.turn in
      not_before earlier earlier refl (before_trans earlier later earlier order (turn later (sym mine) (stays_made there k.before (later_grows there k.before k.came) later m.made)).0)

  go : (b : Bool) → was_asked m.before earlier ≡ b → was_asked m.before earlier ≡ true
  go true is = is
  go false is = absurd (again is (was_asked there earlier) refl)

pub came_behind : (rules : RaceRules) (broken : ℕ → Bool) (w : World) → IsRace rules broken w → (earlier later : CmdId) → earlier.client ≡ later.client → IsEarlier earlier later
    → was_asked w earlier ≡ true → was_asked w later ≡ true → CameBehind w earlier later
came_behind rules broken w race earlier later mine order asked made =
    let c : CameInTurn w = race.in_turn in
    let first : World = first_world c.nodes in
    let m : MadeAlong first c.came.schedule later =
    made_along c.came.schedule first later c.came.lawful c.in_turn (none_made c.nodes later) (subst (λ z. was_asked z later ≡ true) (sym c.came.reached) made) in
    let a : Admitting later m.x.what = made_by m.before m.x later m.not_yet m.made in
    let turn : IsInTurn m.before (worlds.Admit a.range later a.request) = subst (IsInTurn m.before) a.is m.turn in
    let was : was_asked m.before earlier ≡ true =
    was_made first c.came.schedule earlier later mine order m (subst (λ z. was_asked z earlier ≡ true) (sym c.came.reached) asked) in
    record {
      nodes = c.nodes;
      before = m.before;
      came = m.came;
      went_on = later_trans m.before (happens m.before m.x) w (later_scene m.before m.x m.lawful)
          (record { schedule = m.behind; lawful = m.all_lawful; reached = m.leads ∙ c.came.reached });
      ended = (turn earlier mine was).1;
      not_made = m.not_yet;
    }
