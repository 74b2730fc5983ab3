-- A node is given back.
use Rattle.std.proofs.Common.{◌≡◌, ◌≢◌, ℕ, suc, ◌+◌, ◌-◌, ◌<◌, ◌≤◌, eqb, cond, Bool, true, false, ◌&&◌, List, [], ◌∷◌, set, sum_by, refl, ap, sym, ◌∙◌, arith, subst, slice_index, slice_get, Option, Some}
use Rattle.std.proofs.lemmas.List.{length-set, get_or-set_same, get_or-set_other}
use Rattle.std.proofs.lemmas.Bool.{eqb-true, eq-eqb}
use mathlib.Core.Option as maybe
use mathlib.Core.Logic.{dite}
use native.Mathlib.Decide.{ℕ_discrete}
use lib.ListN.{get_elem?}
use Rattle.atomic_table.specs.Table.{State, step, gives, Allows, put_back, rest}
use Rattle.atomic_table.proofs.Lists.{set_here, set_else}
use Rattle.rp_passes.proofs.Tally.{pair_le}
use Rattle.rp_journals.proofs.Asking.{asked_once}
use Rattle.rp_journals.proofs.Growing.{some_node}
use Rattle.rp_events.specs.Nodes.{Node}
use Rattle.rp_events.specs.Worlds.{World}
use Rattle.rp_race.specs.Gives.{Tried, OnlyAdmitted}
use Rattle.rp_node.specs.Steps.{Held}
use Rattle.rp_switch.specs.declared.slots.Slot.{Slot}
use Rattle.rp_switch.specs.declared.slots.Slot.TheVariants.{Nothing, Body, Reply}
use Rattle.rp_switch.specs.declared.terms.Terms.{Terms}
use Rattle.rp_switch.specs.Views.{Right, Lacks, Tries, Rounds, BrokenOff, HasNode, Knowledge, right_at, by_place}
use Rattle.rp_switch.specs.Rules.{Phase, home, out, node_word, InPhase, HasIt, AtStage, OnlyAdmittedSince, RightOf, weight, right_on, IsWith, Kept}
use Rattle.rp_switch.specs.Gifts.{tries_given, is_broken_off, IsTries, CarriesClient, IsGift, Gives}
use Rattle.rp_switch.specs.Plays as plays
use Rattle.rp_switch.specs.Plays.{Standing, right_given, giving}
use Rattle.rp_switch.proofs.Places.{put, at_put}
use Rattle.rp_switch.proofs.Rights.{at_place, as_many}
use Rattle.rp_switch.proofs.Frames.{still_with, rebuilt, home_stays, cell_stays}
use Rattle.rp_switch.proofs.Taking.{sees}
use Rattle.rp_switch.proofs.Nows.{agrees, some_nodes, admitted_on}
use Rattle.rp_switch.proofs.Lifts.{all_seen_later, all_heard_later, world_stays, answer_stays, stage_later}
use Rattle.rp_switch.proofs.Went.{Went, went}

-- where there are nodes, a client's right is at the place of its number
client_at : (n k : ℕ) → 0 < n → n ≤ k → n + suc (k - n) - 1 ≡ k
client_at n k some past = omega (arith, some, past)

back_at : (n client : ℕ) → 0 < n → n ≤ n + client - 1 → suc (n + client - 1 - n) ≡ client
back_at n client some past = omega (arith, some, past)

-- who carries a right is the only one
weighs_tries : (r : Right) → IsTries r → weight r ≡ 1
weighs_tries Lacks is = absurd is
weighs_tries (Tries ts) is = refl
weighs_tries Rounds is = absurd is
weighs_tries BrokenOff is = absurd is

pub only_one : (views : List Knowledge) (id j k : ℕ) (v u : Knowledge) → sum_by (right_on k) views ≤ 1
    → j ≢ id → get_elem? views id ≡ maybe.some v → get_elem? views j ≡ maybe.some u
    → weight (right_at v.rights k) ≡ 1 → weight (right_at u.rights k) ≡ 1 → ⊥
only_one views id j k v u once away at there a b =
    let both = pair_le (right_on k) views id j v u away at there in absurd (omega (arith, both, once, a, b))

-- the rights of the seat that gives, after it
mine_given : (t : Terms) (w : World) (broken : ℕ → Bool) (tries : Tried) (v : Knowledge) (place : ℕ) (before after : Node)
    → (g : Went t w broken tries v place before after) → 0 < t.nodes → v.terms ≡ t
    → (k : ℕ) (r : Right) → right_at v.rights k ≡ r → RightOf t tries broken k r
    → RightOf t g.tries_now g.broken_now k (right_given v.terms.nodes place before after k r)
mine_given t w broken tries v place before after g some terms k Lacks is known = tt
mine_given t w broken tries v place before after g some terms k (Tries ts) is known =
    let nodes : v.terms.nodes ≡ t.nodes = ap (λ (u : Terms). u.nodes) terms in
    let client : ℕ = suc (k - t.nodes) in
    let past = known.0 in
    let at_client : v.terms.nodes + client - 1 ≡ k = omega (arith, nodes, some, past) in
    let carries : CarriesClient v client = subst IsTries (sym (ap (right_at v.rights) at_client ∙ is)) tt in (
      known.0,
      g.carried client carries ∙ ap (tries_given (suc place) client before after) known.1
          ∙ ap (λ (m : ℕ). tries_given (suc place) (suc (k - m)) before after ts) (sym nodes),
    )
mine_given t w broken tries v place before after g some terms k Rounds is known =
    by_test (eqb k place) (is_broken_off after) refl refl
  where
    by_test : (same off : Bool) → eqb k place ≡ same → is_broken_off after ≡ off
        → RightOf t g.tries_now g.broken_now k (cond (eqb k place && is_broken_off after) BrokenOff Rounds)
    by_test true true same off = subst (λ (r : Right). RightOf t g.tries_now g.broken_now k r)
        (sym (ap (λ b. cond (b && is_broken_off after) BrokenOff Rounds) same ∙ ap (λ b. cond b BrokenOff Rounds) off)) known.0
    by_test true false same off = subst (λ (r : Right). RightOf t g.tries_now g.broken_now k r)
        (sym (ap (λ b. cond (b && is_broken_off after) BrokenOff Rounds) same ∙ ap (λ b. cond b BrokenOff Rounds) off))
        (known.0, subst (λ (q : ℕ). broken (suc q) ≡ false → g.broken_now (suc q) ≡ false) (sym (eqb-true k place same)) (g.broken_not off) known.1)
    by_test false off same is_off = subst (λ (r : Right). RightOf t g.tries_now g.broken_now k r)
        (sym (ap (λ b. cond (b && is_broken_off after) BrokenOff Rounds) same))
        (known.0, g.broken_else k (λ e. differ (sym same ∙ ap (λ q. eqb q place) e)) ∙ known.1)
      where
        differ : false ≡ eqb place place → ⊥
        differ e = absurd (let r = eq-eqb place place refl in cc)
mine_given t w broken tries v place before after g some terms k BrokenOff is known = known

-- no right to rounds comes to be
rounds_given : (nodes place : ℕ) (before after : Node) (k : ℕ) (r : Right) → right_given nodes place before after k r ≡ Rounds → r ≡ Rounds
rounds_given nodes place before after k Lacks e = e
rounds_given nodes place before after k (Tries ts) e = absurd (cc)
rounds_given nodes place before after k Rounds e = refl
rounds_given nodes place before after k BrokenOff e = e

-- the rights of another seat, after it
theirs_given : (t : Terms) (w : World) (broken : ℕ → Bool) (tries : Tried) (v u : Knowledge) (place id j : ℕ) (before after : Node) (views : List Knowledge)
    → (g : Went t w broken tries v place before after) → 0 < t.nodes → v.terms ≡ t
    → j ≢ id → get_elem? views id ≡ maybe.some v → get_elem? views j ≡ maybe.some u
    → ((k : ℕ) → sum_by (right_on k) views ≤ 1)
    → (k : ℕ) (r : Right) → right_at u.rights k ≡ r → RightOf t tries broken k r → RightOf t g.tries_now g.broken_now k r
theirs_given t w broken tries v u place id j before after views g some terms away at there once k Lacks is known = tt
theirs_given t w broken tries v u place id j before after views g some terms away at there once k (Tries ts) is known =
    let nodes : v.terms.nodes ≡ t.nodes = ap (λ (x : Terms). x.nodes) terms in
    let past = known.0 in
    let at_client : v.terms.nodes + suc (k - t.nodes) - 1 ≡ k = omega (arith, nodes, some, past) in (
      known.0,
      g.uncarried (suc (k - t.nodes))
          (λ carries. only_one views id j k v u (once k) away at there
          (weighs_tries (right_at v.rights k) (subst (λ (q : ℕ). IsTries (right_at v.rights q)) at_client carries))
          (ap weight is)) ∙ known.1,
    )
theirs_given t w broken tries v u place id j before after views g some terms away at there once k Rounds is known = (
  known.0,
  dite (ℕ_discrete k place)
      (λ e. subst (λ (q : ℕ). g.broken_now (suc q) ≡ broken (suc q)) (sym e)
      (g.broken_lacks (λ rounds. only_one views id j k v u (once k) away at there (ap weight (ap (right_at v.rights) e ∙ rounds)) (ap weight is))) ∙ known.1)
      (λ else_. g.broken_else k else_ ∙ known.1),
)
theirs_given t w broken tries v u place id j before after views g some terms away at there once k BrokenOff is known = known

-- a right that goes on weighs as much
given_weighs : (nodes place : ℕ) (before after : Node) (k : ℕ) (r : Right) → weight (right_given nodes place before after k r) ≡ weight r
given_weighs nodes place before after k Lacks = refl
given_weighs nodes place before after k (Tries ts) = refl
given_weighs nodes place before after k Rounds = by_test (eqb k place && is_broken_off after)
  where
    by_test : (b : Bool) → weight (cond b BrokenOff Rounds) ≡ 1
    by_test true = refl
    by_test false = refl
given_weighs nodes place before after k BrokenOff = refl

pub at_given : (nodes place : ℕ) (before after : Node) (rs : List Right) (k : ℕ)
    → right_at (by_place (right_given nodes place before after) 0 rs) k ≡ right_given nodes place before after k (right_at rs k)
at_given nodes place before after rs k =
    at_place (right_given nodes place before after) (λ i. refl) rs 0 k ∙ ap (λ i. right_given nodes place before after i (right_at rs k)) (omega arith)

-- where another seat may play the rounds, only admissions were given
theirs_admitted : (t : Terms) (w : World) (broken : ℕ → Bool) (tries : Tried) (v u : Knowledge) (place id j : ℕ) (before after : Node) (views : List Knowledge)
    → (g : Went t w broken tries v place before after) → slice_get w place ≡ Some before
    → j ≢ id → get_elem? views id ≡ maybe.some v → get_elem? views j ≡ maybe.some u
    → ((k : ℕ) → sum_by (right_on k) views ≤ 1) → OnlyAdmittedSince u.rights u.seen w → OnlyAdmittedSince u.rights u.seen g.world
theirs_admitted t w broken tries v u place id j before after views g had away at there once was q b n rounds saw now = dite (ℕ_discrete q place)
    (λ e.
    let here : right_at u.rights place ≡ Rounds = ap (right_at u.rights) (sym e) ∙ rounds in
    let is : after ≡ n = some_node after n (sym g.has ∙ ap (λ (z : ℕ). slice_get g.world z) (sym e) ∙ now) in
    subst (λ (y : Node). OnlyAdmitted b y) is
    (g.admitted (λ mine. only_one views id j place v u (once place) away at there (ap weight mine) (ap weight here)) b
    (was place b before here (ap (λ (z : ℕ). slice_get u.seen z) (sym e) ∙ saw) had)))
    (λ else_. was q b n rounds saw (sym (g.others q else_) ∙ now))

taken_by : (p : Phase) (i j : ℕ) → p ≡ out i → j ≢ i → p ≢ out j
taken_by p i j e away d = away (out_same j i (sym d ∙ e))
  where
    out_same : (a b : ℕ) → out a ≡ out b → a ≡ b
    out_same a b e = cc

has_same : (p q : ℕ) (a b : World) → HasNode p a ≡ HasNode q b → p ≡ q
has_same p q a b e = cc

module _ {E : Type 0} where
  give_back : (t : Terms) (id place : ℕ) (x : Held E) (tl : List (ℕ × Slot E)) (s : State (Slot E) Knowledge) (v : Knowledge) (k : Kept t s)
      → get_elem? s.views id ≡ maybe.some v → (at : World) → v.stage ≡ HasNode place at → 0 < v.parts
      → (before : Node) → slice_get v.seen place ≡ Some before → IsGift v place at before x.node
      → Kept t record { words = set s.words place 0; homes = put_back s.homes ((place, Body x) ∷ tl); views = set s.views id (giving place before x.node v) }
  give_back t id place x tl s v k in_views at stage some_part before took gift =
      let known = k.each_seat id v in_views in
      let it : HasIt t k.world k.phases id place at v.seen = subst (λ st. AtStage t k.world k.phases k.cells id v.seen st) stage known.stage in
      let full_ = known.whole some_part in
      let some = some_nodes t k.world k.reached in
      let low = it.low in
      let wide = k.wide in
      let long = k.long in
      let had : slice_get at place ≡ Some before = it.saw ∙ took in
      let g = went t k.world k.broken k.tries v place at before x.node (record {
        terms = full_.terms;
        reached = k.reached;
        race = k.race;
        each = k.each_client;
        has = it.same ∙ had;
        had = had;
        later = it.later;
        once = asked_once t.nodes k.world k.reached;
        seen = full_.seen;
        agree = agrees t k.tries k.broken v some full_.terms known.rights;
      }) gift in
      let w = giving place before x.node v in
      let words : List ℕ = set s.words place 0 in
      let homes : List (maybe.Option (Slot E)) = set s.homes place (maybe.some (Body x)) in
      let phases : ℕ → Phase = put k.phases place home in
      let free : (j : ℕ) → j ≢ id → k.phases place ≢ out j = λ j away. taken_by (k.phases place) id j it.has away in
      rebuilt t s id v w k in_views refl
      (λ i. ap weight (at_given v.terms.nodes place before x.node v.rights i) ∙ given_weighs v.terms.nodes place before x.node i (right_at v.rights i))
      g.world g.broken_now g.tries_now phases k.cells words homes
      g.reached g.race g.each
      (length-set s.words place 0 ∙ k.wide) (length-set s.homes place (maybe.some (Body x)) ∙ k.long)
      (λ q small. at_put (λ y (p : Phase). (slice_index words y ≡ node_word p) × InPhase homes g.world y p) k.phases place home q
      (λ e. (
        subst (λ y. slice_index words y ≡ 0) (sym e) (get_or-set_same s.words place 0 0 (omega (arith, wide, low))),
        subst (λ y. InPhase homes g.world y home) (sym e) (x, set_here s.homes place (maybe.some (Body x)) (omega (arith, long, low)), g.has),
      ))
      (λ away. (
        get_or-set_other s.words place q 0 0 away ∙ (k.nodes q small).0,
        world_stays homes k.world g.world q (k.phases q) (g.others q away)
            (home_stays s.homes homes k.world q (k.phases q) (set_else s.homes place q (maybe.some (Body x)) away) (k.nodes q small).1),
      )))
      (λ q small. (
        get_or-set_other s.words place (t.nodes + q) 0 0 (λ e. omega (arith, e, low)) ∙ (k.replies q small).0,
        answer_stays t homes k.world g.world q (k.cells q) g.later
            (cell_stays t s.homes homes k.world q (k.cells q) (set_else s.homes place (t.nodes + q) (maybe.some (Body x)) (λ e. omega (arith, e, low))) (k.replies q small).1),
      ))
      (record {
        stage = tt;
        rights = λ i. subst (λ r. RightOf t g.tries_now g.broken_now i r) (sym (at_given v.terms.nodes place before x.node v.rights i))
            (mine_given t k.world k.broken k.tries v place before x.node g some full_.terms i (right_at v.rights i) refl (known.rights i));
        spent = λ none_left. absurd (omega (arith, none_left, some_part));
        whole = λ _. record {
          terms = full_.terms;
          seen = sees t.nodes v.seen g.world place x.node low g.reached g.has (all_seen_later t.nodes v.seen k.world g.world g.later full_.seen);
          rights = as_many (right_given v.terms.nodes place before x.node) 0 v.rights ∙ full_.rights;
          heard = all_heard_later t.nodes v.joined k.world g.world g.later full_.heard;
          admitted = admitted_on v.rights w.rights v.seen k.world g.world place x.node (subst (λ (z : ℕ). place < z) (sym full_.seen.size) low) g.has g.others
              (λ i rounds. rounds_given v.terms.nodes place before x.node i (right_at v.rights i) (sym (at_given v.terms.nodes place before x.node v.rights i) ∙ rounds)) full_.admitted;
        };
      })
      (λ j u away there. let theirs = k.each_seat j u there in record {
        stage = stage_later t k.world g.world k.phases k.cells place j home u.seen u.stage g.later g.others (free j away) theirs.stage;
        rights = λ i. theirs_given t k.world k.broken k.tries v u place id j before x.node s.views g some full_.terms away in_views there k.once i (right_at u.rights i) refl (theirs.rights i);
        spent = theirs.spent;
        whole = λ p. let h = theirs.whole p in record { terms = h.terms; seen = all_seen_later t.nodes u.seen k.world g.world g.later h.seen; rights = h.rights; heard = all_heard_later t.nodes u.joined k.world g.world g.later h.heard; admitted = theirs_admitted t k.world k.broken k.tries v u place id j before x.node s.views g (it.same ∙ had) away in_views there k.once h.admitted };
      })
      (λ q j. at_put (λ y (p : Phase). p ≡ out j → IsWith (set s.views id w) y j) k.phases place home q
      (λ e is. absurd (cc))
      (λ away is. still_with s.views id v w in_views q j (λ world is_there. absurd (away (has_same q place world at (sym is_there ∙ stage)))) (k.with_seat q j is)))

  pub rest_same : (cs : List (ℕ × Slot E)) (k : ℕ) (y z : Slot E) → cs ≡ (k, y) ∷ rest cs → cs ≡ (k, z) ∷ rest cs → y ≡ z
  rest_same cs k y z a b = ap top (sym a ∙ b)
    where
      top : List (ℕ × Slot E) → Slot E
      top [] = Nothing
      top (t ∷ ts) = t.1

  body_same : (x y : Held E) → Body x ≡ Body y → x ≡ y
  body_same x y e = ap held_of e
    where
      held_of : Slot E → Held E
      held_of Nothing = x
      held_of (Body z) = z
      held_of (Reply a) = x

  -- the swap that gives a node
  pub gives_node : (t : Terms) (slots id place : ℕ) (x : Held E) (me : Standing E) (at : World) → me.0.stage ≡ HasNode place at
      → Gives me.0 place at x.node → me.1 ≡ (place, Body x) ∷ rest me.1 → 0 < me.0.parts
      → Allows (Kept t) slots id me place (λ _. 0) (plays.gave (step slots place 0 0 maybe.none) me)
  gives_node t slots id place x me at stage may has some_part s k long in_views small =
      let w = giving place may.before x.node me.0 in (
        w,
        gives,
        tt,
        subst (λ cs. Kept t record { words = set s.words place 0; homes = put_back s.homes cs; views = set s.views id w }) (sym has)
            (give_back t id place x (rest me.1) s me.0 k in_views at stage some_part may.before may.took may.gift),
        λ y lies_there before seen.
            let same : x ≡ y = body_same x y (rest_same me.1 place (Body x) (Body y) has lies_there) in
            let as_before : may.before ≡ before = one (may.took) seen in
            (λ i. giving place (as_before i) (same i).node me.0, refl),
      )
    where
      one : {a b : Node} {o : Option Node} → o ≡ Some a → o ≡ Some b → a ≡ b
      one {a} {b} e d = some_node a b (sym e ∙ d)
