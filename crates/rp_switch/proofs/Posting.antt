-- The steps on a client's cell.
use Rattle.std.proofs.Common.{◌≡◌, ◌≢◌, ℕ, suc, ◌+◌, ◌-◌, ◌<◌, ◌≤◌, eqb, cond, Bool, true, false, List, ◌∷◌, length, set, sum_by, refl, ap, sym, ◌∙◌, arith, subst, slice_index, slice_get, Some}
use Rattle.std.proofs.lemmas.List.{length-set, get_or-set_same, get_or-set_other}
use Rattle.std.proofs.lemmas.Bool.{eqb-true, eq-eqb}
use mathlib.Core.Option as maybe
use mathlib.Core.Logic.{dite}
use native.Mathlib.Decide.{ℕ_discrete}
use prog.Atomic.{either}
use lib.ListN.{get_elem?}
use Rattle.atomic_table.specs.Table.{State, step, Act, keeps, takes, gives, Valid, Allows, stepped, carried_after, put_back, rest}
use Rattle.atomic_table.proofs.Lists.{exchanged, set_here, set_else}
use Rattle.rp_base.specs.declared.ids.CmdId.{CmdId}
use Rattle.rp_request.specs.declared.outcomes.Outcome.{Outcome}
use Rattle.rp_clients.specs.Tries.{Try, learns}
use Rattle.rp_clients.specs.declared.answers.Answer.{Answer}
use Rattle.rp_clients.specs.declared.answers.Answer.TheVariants as answers
use Rattle.rp_events.specs.Nodes.{Node}
use Rattle.rp_events.specs.Worlds.{World, node_of}
use Rattle.rp_events.specs.Lawful.{IsReached}
use Rattle.rp_race.specs.Gives.{Tried}
use Rattle.rp_race.specs.Played.{IsTriesOf}
use Rattle.rp_switch.specs.declared.slots.Slot.{Slot}
use Rattle.rp_switch.specs.declared.slots.Slot.TheVariants.{Nothing, Body, Reply}
use Rattle.rp_switch.specs.declared.terms.Terms.{Terms}
use Rattle.rp_switch.specs.Views.{Right, Lacks, Tries, Rounds, BrokenOff, Stage, Idle, HasNode, HasCell, Chooses, Look, Found, Knowledge, right_at, right_learns, right_told, rights_told, noting, reaching, fetching, posting, at_rest}
use Rattle.rp_switch.specs.Rules.{Phase, Cell, empty, full, taken, cell_word, clients_of, size_of, InCell, IsTrueOf, OnlyAdmittedSince, AtStage, RightOf, Knows, weight, right_on, Kept}
use Rattle.rp_switch.specs.Plays as plays
use Rattle.rp_switch.specs.Plays.{Standing}
use Rattle.rp_journals.proofs.Asking.{asked_once}
use Rattle.rp_race.proofs.Told.{told_there}
use Rattle.rp_race.proofs.Trying.{tries_learnt}
use Rattle.rp_switch.proofs.Nows.{is_now}
use Rattle.rp_switch.proofs.Places.{put, put_here, put_else, at_put}
use Rattle.rp_switch.proofs.Rights.{at_place, as_many}
use Rattle.rp_switch.proofs.Frames.{still_with, rebuilt, stands, home_stays, cell_stays}
use Rattle.rp_switch.proofs.Lifts.{true_of_seen, reached_length, all_now, heard_more}
use Rattle.rp_switch.proofs.Giving.{only_one, rest_same}

-- what a seat knows of its cell stays so where another changes
cells_away : (t : Terms) (w : World) (phases : ℕ → Phase) (cells : ℕ → Cell) (q j : ℕ) (c : Cell) (seen : World) (st : Stage)
    → cells q ≢ taken j → AtStage t w phases cells j seen st → AtStage t w phases (put cells q c) j seen st
cells_away t w phases cells q j c seen Idle free at = tt
cells_away t w phases cells q j c seen (HasNode place world) free at = at
cells_away t w phases cells q j c seen (HasCell place) free at =
    (at.0, put_else cells q place c (λ e. free (subst (λ z. cells z ≡ taken j) e at.1)) ∙ at.1)
cells_away t w phases cells q j c seen (Chooses choice) free at = tt

-- a cell that is mine, empty or full is nobody else's
abbrev IsMine : ℕ → Cell → Type 0
IsMine id empty = Unit {0}
IsMine id (full a) = Unit {0}
IsMine id (taken j) = j ≡ id

not_theirs : (id j : ℕ) (c : Cell) → IsMine id c → j ≢ id → c ≢ taken j
not_theirs id j empty mine away e = cc
not_theirs id j (full a) mine away e = cc
not_theirs id j (taken i) mine away e = away (cc)

-- a seat without its cell, with these looks
abbrev resting : List Look → Knowledge → Knowledge
resting ls v = record v { stage = Idle; looks = ls }

module _ {E : Type 0} where
  -- one cell changes, with its word and its slot, and one view; and a client's tries may
  celled : (t : Terms) (id q u : ℕ) (c : Cell) (s : State (Slot E) Knowledge) (homes : List (maybe.Option (Slot E))) (v w : Knowledge) (k : Kept t s)
      → get_elem? s.views id ≡ maybe.some v → q < clients_of t → IsMine id (k.cells q) → u ≡ cell_word c
      → w.parts ≡ v.parts → ((i : ℕ) → weight (right_at w.rights i) ≡ weight (right_at v.rights i))
      → ((place : ℕ) (world : World) → v.stage ≡ HasNode place world → w.stage ≡ HasNode place world)
      → length homes ≡ size_of t
      → ((o : ℕ) → o ≢ t.nodes + q → get_elem? homes o ≡ get_elem? s.homes o)
      → InCell t homes k.world q c
      → (tries : Tried) → ((client : ℕ) → IsTriesOf t.rules k.world client (tries client))
      → Knows t k.world tries k.broken k.phases (put k.cells q c) id w
      → ((j : ℕ) (x : Knowledge) → j ≢ id → get_elem? s.views j ≡ maybe.some x → (i : ℕ) → RightOf t tries k.broken i (right_at x.rights i))
      → Kept t record { words = set s.words (t.nodes + q) u; homes = homes; views = set s.views id w }
  celled t id q u c s homes v w k at low mine word same_parts same_rights keeps_node long else_same in_cell tries each known theirs =
      let words : List ℕ = set s.words (t.nodes + q) u in
      let wide = k.wide in
      rebuilt t s id v w k at same_parts same_rights k.world k.broken tries k.phases (put k.cells q c) words homes
      k.reached k.race each (length-set s.words (t.nodes + q) u ∙ k.wide) long
      (λ p small. (
        get_or-set_other s.words (t.nodes + q) p u 0 (λ e. omega (arith, e, small)) ∙ (k.nodes p small).0,
        home_stays s.homes homes k.world p (k.phases p) (else_same p (λ e. omega (arith, e, small))) (k.nodes p small).1,
      ))
      (λ o small. at_put (λ y (d : Cell). (slice_index words (t.nodes + y) ≡ cell_word d) × InCell t homes k.world y d) k.cells q c o
      (λ e. (
        subst (λ y. slice_index words (t.nodes + y) ≡ cell_word c) (sym e) (get_or-set_same s.words (t.nodes + q) u 0 (omega (arith, wide, low)) ∙ word),
        subst (λ y. InCell t homes k.world y c) (sym e) in_cell,
      ))
      (λ away. (
        get_or-set_other s.words (t.nodes + q) (t.nodes + o) u 0 (λ e. away (omega (arith, e))) ∙ (k.replies o small).0,
        cell_stays t s.homes homes k.world o (k.cells o) (else_same (t.nodes + o) (λ e. away (omega (arith, e)))) (k.replies o small).1,
      )))
      known
      (λ j x away there. let other = k.each_seat j x there in record {
        stage = cells_away t k.world k.phases k.cells q j c x.seen x.stage (not_theirs id j (k.cells q) mine away) other.stage;
        rights = theirs j x away there;
        spent = other.spent;
        whole = other.whole;
      })
      (λ place j is. still_with s.views id v w at place j (keeps_node place) (k.with_seat place j is))

  is_empty : (t : Terms) (homes : List (maybe.Option (Slot E))) (w : World) (q : ℕ) (c : Cell) → cell_word c ≡ 0 → InCell t homes w q c
      → (c ≡ empty) × (get_elem? homes (t.nodes + q) ≡ maybe.some (maybe.some Nothing))
  is_empty t homes w q empty e is = (refl, is)
  is_empty t homes w q (full a) e is = absurd (omega (arith, e))
  is_empty t homes w q (taken id) e is = absurd (omega (arith, e))

  is_full : (t : Terms) (homes : List (maybe.Option (Slot E))) (w : World) (q : ℕ) (c : Cell) → cell_word c ≡ 1 → InCell t homes w q c
      → (a : Answer) × (c ≡ full a) × (get_elem? homes (t.nodes + q) ≡ maybe.some (maybe.some (Reply a))) × IsTrueOf t w (suc q) a
  is_full t homes w q empty e is = absurd (omega (arith, e))
  is_full t homes w q (full a) e is = (a, refl, is.0, is.1)
  is_full t homes w q (taken id) e is = absurd (omega (arith, e))

  -- an exchange of a cell's word that finds 0
  pub reaches : (t : Terms) (slots id q : ℕ) (me : Standing E) → q < clients_of t → me.0.stage ≡ Idle → 0 < me.0.parts
      → Allows (Kept t) slots id me (t.nodes + q) (λ z. either (eqb z 0) 2 z) (plays.reached (step slots (t.nodes + q) 0 2 maybe.none) me)
  reaches t slots id q me low idle some_part s k long at small =
      let found : ℕ = slice_index s.words (t.nodes + q) in
      let known = k.each_seat id me.0 at in
      let full_ = known.whole some_part in
      let place : t.nodes + q - me.0.terms.nodes ≡ q = let e = ap (λ (u : Terms). u.nodes) full_.terms in omega (arith, e) in
      exchanged found 0 2 (λ z. (w : Knowledge) × (a : Act (Slot E)) × Valid s.homes me.1 a × Kept t (stepped s (t.nodes + q) z id me.1 w a) × plays.reached (step slots (t.nodes + q) 0 2 maybe.none) me found (w, carried_after me.1 a))
      (λ hit. let there = is_empty t s.homes k.world q (k.cells q) (sym (k.replies q low).0 ∙ hit) (k.replies q low).1 in
      let w = reaching (t.nodes + q) q me.0 in (
        w,
        takes (t.nodes + q) Nothing,
        there.1,
        celled t id q 2 (taken id) s (set s.homes (t.nodes + q) maybe.none) me.0 w k at low
            (subst (IsMine id) (sym there.0) tt) refl refl (λ i. refl) (λ p world is. absurd (let i = idle in cc))
            (length-set s.homes (t.nodes + q) maybe.none ∙ k.long) (λ o away. set_else s.homes (t.nodes + q) o maybe.none away) tt
            k.tries k.each_client
            (record {
              stage = (low, put_here k.cells q q (taken id) refl);
              rights = known.rights;
              spent = λ none_left. absurd (omega (arith, none_left, some_part));
              whole = λ p. let h = known.whole p in record { terms = h.terms; seen = h.seen; rights = h.rights; heard = h.heard; admitted = h.admitted };
            })
            (λ j x away there. (k.each_seat j x there).rights),
        ((λ _. (ap (λ (p : ℕ). reaching (t.nodes + q) p me.0) (sym place), refl)), (λ miss. absurd (miss hit))),
      ))
      (λ miss. let w = noting (Found (t.nodes + q) found) me.0 in (
        w,
        keeps,
        tt,
        stands t s id (t.nodes + q) me.0 w k at refl (λ j. refl) (λ y world is. is)
            (record { stage = known.stage; rights = known.rights; spent = λ none_left. absurd (omega (arith, none_left, some_part)); whole = λ p. let h = known.whole p in record { terms = h.terms; seen = h.seen; rights = h.rights; heard = h.heard; admitted = h.admitted } }),
        ((λ hit. absurd (miss hit)), (λ _. (refl, refl))),
      ))

  -- the cell goes home with what lies in it
  leave_at : (t : Terms) (id q u : ℕ) (c : Cell) (y : Slot E) (tl : List (ℕ × Slot E)) (ls : List Look) (s : State (Slot E) Knowledge) (v : Knowledge) (k : Kept t s)
      → get_elem? s.views id ≡ maybe.some v → v.stage ≡ HasCell q → 0 < v.parts → u ≡ cell_word c
      → ((homes : List (maybe.Option (Slot E))) → get_elem? homes (t.nodes + q) ≡ maybe.some (maybe.some y) → InCell t homes k.world q c)
      → Kept t record { words = set s.words (t.nodes + q) u; homes = put_back s.homes ((t.nodes + q, y) ∷ tl); views = set s.views id (resting ls v) }
  leave_at t id q u c y tl ls s v k at stage some_part word lies =
      let known = k.each_seat id v at in
      let mine : AtStage t k.world k.phases k.cells id v.seen (HasCell q) = subst (λ st. AtStage t k.world k.phases k.cells id v.seen st) stage known.stage in
      let low = mine.0 in
      let long = k.long in
      let homes : List (maybe.Option (Slot E)) = set s.homes (t.nodes + q) (maybe.some y) in
      celled t id q u c s homes v (resting ls v) k at mine.0 (subst (IsMine id) (sym mine.1) refl) word refl (λ i. refl)
      (λ p world is. absurd (let i = stage in cc))
      (length-set s.homes (t.nodes + q) (maybe.some y) ∙ k.long) (λ o away. set_else s.homes (t.nodes + q) o (maybe.some y) away)
      (lies homes (set_here s.homes (t.nodes + q) (maybe.some y) (omega (arith, long, low))))
      k.tries k.each_client
      (record {
        stage = tt;
        rights = known.rights;
        spent = λ none_left. absurd (omega (arith, none_left, some_part));
        whole = λ p. let h = known.whole p in record { terms = h.terms; seen = h.seen; rights = h.rights; heard = h.heard; admitted = h.admitted };
      })
      (λ j x away there. (k.each_seat j x there).rights)

  reply_same : (a b : Answer) → ◌≡◌ {A = Slot E} (Reply a) (Reply b) → a ≡ b
  reply_same a b e = ap answer_of e
    where
      answer_of : Slot E → Answer
      answer_of Nothing = a
      answer_of (Body x) = a
      answer_of (Reply c) = c

  -- the swap that posts
  pub posts : (t : Terms) (slots id q : ℕ) (a : Answer) (me : Standing E) → me.0.stage ≡ HasCell q → me.1 ≡ (t.nodes + q, Reply a) ∷ rest me.1
      → IsTrueOf t me.0.seen (suc q) a → 0 < me.0.parts
      → Allows (Kept t) slots id me (t.nodes + q) (λ _. 1) (plays.posted (step slots (t.nodes + q) 1 0 maybe.none) me)
  posts t slots id q a me stage has true_ some_part s k long at small =
      let known = k.each_seat id me.0 at in
      let w = posting (t.nodes + q) a me.0 in (
        w,
        gives,
        tt,
        subst (λ cs. Kept t record { words = set s.words (t.nodes + q) 1; homes = put_back s.homes cs; views = set s.views id w }) (sym has)
            (leave_at t id q 1 (full a) (Reply a) (rest me.1) w.looks s me.0 k at stage some_part refl
            (λ homes lies. (lies, true_of_seen t me.0.seen k.world (suc q) a (reached_length t.nodes k.world k.reached) (known.whole some_part).seen true_))),
        λ b lies_there. (ap (λ (c : Answer). posting (t.nodes + q) c me.0) (reply_same a b (rest_same me.1 (t.nodes + q) (Reply a) (Reply b) has lies_there)), refl),
      )

  -- the swap that clears
  pub clears : (t : Terms) (slots id q : ℕ) (me : Standing E) → me.0.stage ≡ HasCell q → me.1 ≡ (t.nodes + q, Nothing) ∷ rest me.1 → 0 < me.0.parts
      → Allows (Kept t) slots id me (t.nodes + q) (λ _. 0) (plays.left_cell (step slots (t.nodes + q) 0 0 maybe.none) me)
  clears t slots id q me stage has some_part s k long at small = (
    at_rest me.0,
    gives,
    tt,
    subst (λ cs. Kept t record { words = set s.words (t.nodes + q) 0; homes = put_back s.homes cs; views = set s.views id (at_rest me.0) }) (sym has)
        (leave_at t id q 0 empty Nothing (rest me.1) me.0.looks s me.0 k at stage some_part refl (λ homes lies. lies)),
    (refl, refl),
  )

-- what a right is told
told_lacks : (a : Answer) → right_told a Lacks ≡ Lacks
told_lacks (answers.Ended id outcome) = refl
told_lacks answers.Over = refl
told_lacks answers.NoMemory = refl

abbrev told_at : Answer → ℕ → ℕ → Right → Right
told_at a word k r = cond (eqb k word) (right_told a r) r

told_at_lacks : (a : Answer) (word k : ℕ) → told_at a word k Lacks ≡ Lacks
told_at_lacks a word k = by_test (eqb k word)
  where
    by_test : (b : Bool) → cond b (right_told a Lacks) Lacks ≡ Lacks
    by_test true = told_lacks a
    by_test false = refl

pub at_told : (a : Answer) (word : ℕ) (rs : List Right) (k : ℕ) → right_at (rights_told a word rs) k ≡ told_at a word k (right_at rs k)
at_told a word rs k = at_place (told_at a word) (told_at_lacks a word) rs 0 k ∙ ap (λ i. told_at a word i (right_at rs k)) (omega arith)

learns_weighs : (id : CmdId) (outcome : Outcome) (r : Right) → weight (right_learns id outcome r) ≡ weight r
learns_weighs id outcome Lacks = refl
learns_weighs id outcome (Tries ts) = refl
learns_weighs id outcome Rounds = refl
learns_weighs id outcome BrokenOff = refl

told_weighs : (a : Answer) (r : Right) → weight (right_told a r) ≡ weight r
told_weighs (answers.Ended id outcome) r = learns_weighs id outcome r
told_weighs answers.Over r = refl
told_weighs answers.NoMemory r = refl

at_told_weighs : (a : Answer) (word : ℕ) (rs : List Right) (k : ℕ) → weight (right_at (rights_told a word rs) k) ≡ weight (right_at rs k)
at_told_weighs a word rs k = ap weight (at_told a word rs k) ∙ by_test (eqb k word)
  where
    by_test : (b : Bool) → weight (cond b (right_told a (right_at rs k)) (right_at rs k)) ≡ weight (right_at rs k)
    by_test true = told_weighs a (right_at rs k)
    by_test false = refl

-- no right to rounds comes to be
rounds_told : (a : Answer) (r : Right) → right_told a r ≡ Rounds → r ≡ Rounds
rounds_told (answers.Ended id outcome) Lacks e = e
rounds_told (answers.Ended id outcome) (Tries ts) e = absurd (cc)
rounds_told (answers.Ended id outcome) Rounds e = refl
rounds_told (answers.Ended id outcome) BrokenOff e = e
rounds_told answers.Over r e = e
rounds_told answers.NoMemory r e = e

told_admitted : (a : Answer) (word : ℕ) (rs : List Right) (seen w : World) → OnlyAdmittedSince rs seen w → OnlyAdmittedSince (rights_told a word rs) seen w
told_admitted a word rs seen w was q before now rounds saw there =
    was q before now (by_test (eqb q word) (sym (at_told a word rs q) ∙ rounds)) saw there
  where
    by_test : (b : Bool) → cond b (right_told a (right_at rs q)) (right_at rs q) ≡ Rounds → right_at rs q ≡ Rounds
    by_test true e = rounds_told a (right_at rs q) e
    by_test false e = e

-- the clients' tries, where one right is told an answer
record Learns (t : Terms) (w : World) (tries : Tried) (broken : ℕ → Bool) (q : ℕ) (v : Knowledge) (a : Answer) : Type 0 where
  now : Tried
  each : (client : ℕ) → IsTriesOf t.rules w client (now client)
  mine : (k : ℕ) → RightOf t now broken k (right_at (rights_told a (t.nodes + q) v.rights) k)
  others : (client : ℕ) → client ≢ suc q → now client ≡ tries client
  lacks : weight (right_at v.rights (t.nodes + q)) ≡ 0 → now (suc q) ≡ tries (suc q)

-- an answer that changes no right
same_told : (t : Terms) (w : World) (tries : Tried) (broken : ℕ → Bool) (q : ℕ) (v : Knowledge) (a : Answer)
    → ((client : ℕ) → IsTriesOf t.rules w client (tries client)) → ((k : ℕ) → RightOf t tries broken k (right_at v.rights k))
    → right_told a (right_at v.rights (t.nodes + q)) ≡ right_at v.rights (t.nodes + q)
    → Learns t w tries broken q v a
same_told t w tries broken q v a each known same = record {
  now = tries;
  each = each;
  mine = λ k. subst (λ r. RightOf t tries broken k r) (sym (at_told a (t.nodes + q) v.rights k ∙ by_test k (eqb k (t.nodes + q)) refl)) (known k);
  others = λ client away. refl;
  lacks = λ none. refl;
}
  where
    by_test : (k : ℕ) (b : Bool) → eqb k (t.nodes + q) ≡ b → told_at a (t.nodes + q) k (right_at v.rights k) ≡ right_at v.rights k
    by_test k true is = ap (λ c. cond c (right_told a (right_at v.rights k)) (right_at v.rights k)) is
        ∙ subst (λ (i : ℕ). right_told a (right_at v.rights i) ≡ right_at v.rights i) (sym (eqb-true k (t.nodes + q) is)) same
    by_test k false is = ap (λ c. cond c (right_told a (right_at v.rights k)) (right_at v.rights k)) is

-- an end that stands in a node's outcomes may be learnt
learnt : (t : Terms) (w : World) → IsReached t.nodes w → (client : ℕ) (ts : List Try) → IsTriesOf t.rules w client ts
    → (node : ℕ) (n : Node) → node_of w node ≡ Some n → (k : ℕ) (id : CmdId) (outcome : Outcome)
    → slice_get n.outcomes k ≡ Some (record { id = id; outcome = outcome }) → IsTriesOf t.rules w client (learns id outcome ts)
learnt t w reached client ts is node n has k id outcome here =
    let told = told_there t.nodes w reached node n has k id outcome here in
    tries_learnt t.rules w (asked_once t.nodes w reached) client id outcome node n has told.asked told.told told.ended ts is

-- a client's right learns of an end
learns_end : (t : Terms) (w : World) (tries : Tried) (broken : ℕ → Bool) (q : ℕ) (v : Knowledge) (id : CmdId) (outcome : Outcome) (ts : List Try)
    → IsReached t.nodes w → IsTrueOf t w (suc q) (answers.Ended id outcome)
    → ((client : ℕ) → IsTriesOf t.rules w client (tries client)) → ((k : ℕ) → RightOf t tries broken k (right_at v.rights k))
    → right_at v.rights (t.nodes + q) ≡ Tries ts
    → Learns t w tries broken q v (answers.Ended id outcome)
learns_end t w tries broken q v id outcome ts reached true_ each known has =
    let a : Answer = answers.Ended id outcome in
    let now : Tried = put tries (suc q) (learns id outcome (tries (suc q))) in
    let is_ts : tries (suc q) ≡ ts = ap (λ (i : ℕ). tries (suc i)) (omega arith) ∙ (subst (λ r. RightOf t tries broken (t.nodes + q) r) has (known (t.nodes + q))).1 in
    record {
      now = now;
      each = λ client. at_put (λ c ts'. IsTriesOf t.rules w c ts') tries (suc q) (learns id outcome (tries (suc q))) client
          (λ e. subst (λ (c : ℕ). IsTriesOf t.rules w c (learns id outcome (tries (suc q)))) (sym e)
          (learnt t w reached (suc q) (tries (suc q)) (each (suc q)) true_.1.0 true_.1.1 true_.1.3 true_.1.2 id outcome true_.1.4))
          (λ away. each client);
      mine = λ k. subst (λ r. RightOf t now broken k r) (sym (at_told a (t.nodes + q) v.rights k)) (by_test now refl is_ts k (eqb k (t.nodes + q)) refl);
      others = λ client away. put_else tries (suc q) client (learns id outcome (tries (suc q))) away;
      lacks = λ none. absurd (let e = ap weight has in omega (arith, none, e));
    }
  where
    elsewhere : (now : Tried) → now ≡ put tries (suc q) (learns id outcome (tries (suc q))) → (k : ℕ) → k ≢ t.nodes + q → (r : Right) → RightOf t tries broken k r → RightOf t now broken k r
    elsewhere now is k away Lacks kn = tt
    elsewhere now is k away (Tries us) kn = let past = kn.0 in
        (kn.0, ap (λ (f : Tried). f (suc (k - t.nodes))) is ∙ put_else tries (suc q) (suc (k - t.nodes)) (learns id outcome (tries (suc q))) (λ e. away (omega (arith, e, past))) ∙ kn.1)
    elsewhere now is k away Rounds kn = kn
    elsewhere now is k away BrokenOff kn = kn

    by_test : (now : Tried) → now ≡ put tries (suc q) (learns id outcome (tries (suc q))) → tries (suc q) ≡ ts → (k : ℕ) (b : Bool) → eqb k (t.nodes + q) ≡ b
        → RightOf t now broken k (told_at (answers.Ended id outcome) (t.nodes + q) k (right_at v.rights k))
    by_test now is is_ts k true same =
        let k_is : k ≡ t.nodes + q = eqb-true k (t.nodes + q) same in
        subst (λ r. RightOf t now broken k r)
        (sym (ap (λ c. cond c (right_learns id outcome (right_at v.rights k)) (right_at v.rights k)) same ∙ ap (right_learns id outcome) (ap (right_at v.rights) k_is ∙ has))) (
          omega (arith, k_is),
          ap (λ (i : ℕ). now (suc i)) (omega (arith, k_is)) ∙ ap (λ (f : Tried). f (suc q)) is
              ∙ put_here tries (suc q) (suc q) (learns id outcome (tries (suc q))) refl ∙ ap (learns id outcome) is_ts,
        )
    by_test now is is_ts k false same =
        subst (λ r. RightOf t now broken k r) (sym (ap (λ c. cond c (right_learns id outcome (right_at v.rights k)) (right_at v.rights k)) same))
        (elsewhere now is k (λ e. differ (sym same ∙ ap (λ i. eqb i (t.nodes + q)) e)) (right_at v.rights k) (known k))
      where
        differ : false ≡ eqb (t.nodes + q) (t.nodes + q) → ⊥
        differ e = absurd (let r = eq-eqb (t.nodes + q) (t.nodes + q) refl in cc)

learns_answer : (t : Terms) (w : World) (tries : Tried) (broken : ℕ → Bool) (q : ℕ) (v : Knowledge) (a : Answer)
    → IsReached t.nodes w → IsTrueOf t w (suc q) a
    → ((client : ℕ) → IsTriesOf t.rules w client (tries client)) → ((k : ℕ) → RightOf t tries broken k (right_at v.rights k))
    → Learns t w tries broken q v a
learns_answer t w tries broken q v answers.Over reached true_ each known = same_told t w tries broken q v answers.Over each known refl
learns_answer t w tries broken q v answers.NoMemory reached true_ each known = same_told t w tries broken q v answers.NoMemory each known refl
learns_answer t w tries broken q v (answers.Ended id outcome) reached true_ each known = by_right (right_at v.rights (t.nodes + q)) refl
  where
    by_right : (r : Right) → right_at v.rights (t.nodes + q) ≡ r → Learns t w tries broken q v (answers.Ended id outcome)
    by_right Lacks is = same_told t w tries broken q v (answers.Ended id outcome) each known (ap (right_learns id outcome) is ∙ sym is)
    by_right (Tries ts) is = learns_end t w tries broken q v id outcome ts reached true_ each known is
    by_right Rounds is = same_told t w tries broken q v (answers.Ended id outcome) each known (ap (right_learns id outcome) is ∙ sym is)
    by_right BrokenOff is = same_told t w tries broken q v (answers.Ended id outcome) each known (ap (right_learns id outcome) is ∙ sym is)

-- another seat that carries the client's right is the only one
theirs_told : (t : Terms) (w : World) (tries : Tried) (broken : ℕ → Bool) (q id j : ℕ) (v u : Knowledge) (a : Answer) (views : List Knowledge)
    → (l : Learns t w tries broken q v a) → j ≢ id → get_elem? views id ≡ maybe.some v → get_elem? views j ≡ maybe.some u
    → ((k : ℕ) → sum_by (right_on k) views ≤ 1) → (k : ℕ) (r : Right) → right_at u.rights k ≡ r → RightOf t tries broken k r → RightOf t l.now broken k r
theirs_told t w tries broken q id j v u a views l away at there once k Lacks is known = tt
theirs_told t w tries broken q id j v u a views l away at there once k (Tries ts) is known = (
  known.0,
  dite (ℕ_discrete k (t.nodes + q))
      (λ e. let here : suc (k - t.nodes) ≡ suc q = omega (arith, e) in
      ap l.now here
      ∙ l.lacks (none (right_at v.rights (t.nodes + q)) (λ one. only_one views id j (t.nodes + q) v u (once (t.nodes + q)) away at there one (ap weight (ap (right_at u.rights) (sym e) ∙ is))))
      ∙ ap tries (sym here) ∙ known.1)
      (λ else_. let past = known.0 in l.others (suc (k - t.nodes)) (λ e. else_ (omega (arith, e, past))) ∙ known.1),
)
  where
    none : (r : Right) → (weight r ≡ 1 → ⊥) → weight r ≡ 0
    none Lacks not_one = refl
    none (Tries us) not_one = absurd (not_one refl)
    none Rounds not_one = absurd (not_one refl)
    none BrokenOff not_one = absurd (not_one refl)
theirs_told t w tries broken q id j v u a views l away at there once k Rounds is known = known
theirs_told t w tries broken q id j v u a views l away at there once k BrokenOff is known = known

module _ {E : Type 0} where
  -- an exchange of a cell's word that looks for 1
  pub fetches : (t : Terms) (slots id q : ℕ) (me : Standing E) → q < clients_of t → me.0.stage ≡ Idle → 0 < me.0.parts
      → Allows (Kept t) slots id me (t.nodes + q) (λ z. either (eqb z 1) 2 z) (plays.fetched (step slots (t.nodes + q) 1 2 maybe.none) me)
  fetches t slots id q me low idle some_part s k long at small =
      let found : ℕ = slice_index s.words (t.nodes + q) in
      let known = k.each_seat id me.0 at in
      let full_ = known.whole some_part in
      let place : t.nodes + q - me.0.terms.nodes ≡ q = let e = ap (λ (u : Terms). u.nodes) full_.terms in omega (arith, e) in
      exchanged found 1 2 (λ z. (w : Knowledge) × (a : Act (Slot E)) × Valid s.homes me.1 a × Kept t (stepped s (t.nodes + q) z id me.1 w a) × plays.fetched (step slots (t.nodes + q) 1 2 maybe.none) me found (w, carried_after me.1 a))
      (λ hit. let there = is_full t s.homes k.world q (k.cells q) (sym (k.replies q low).0 ∙ hit) (k.replies q low).1 in
      let a = there.0 in
      let w = fetching (t.nodes + q) q a k.world me.0 in
      let l = learns_answer t k.world k.tries k.broken q me.0 a k.reached there.3 k.each_client known.rights in (
        w,
        takes (t.nodes + q) (Reply a),
        there.2,
        celled t id q 2 (taken id) s (set s.homes (t.nodes + q) maybe.none) me.0 w k at low
            (subst (IsMine id) (sym there.1) tt) refl refl (λ i. at_told_weighs a (t.nodes + q) me.0.rights i) (λ p world is. absurd (let i = idle in cc))
            (length-set s.homes (t.nodes + q) maybe.none ∙ k.long) (λ o away. set_else s.homes (t.nodes + q) o maybe.none away) tt
            l.now l.each
            (record {
              stage = (low, put_here k.cells q q (taken id) refl);
              rights = l.mine;
              spent = λ none_left. absurd (omega (arith, none_left, some_part));
              whole = λ p. record { terms = full_.terms; seen = full_.seen; rights = as_many (told_at a (t.nodes + q)) 0 me.0.rights ∙ full_.rights; heard = heard_more t.nodes k.world me.0.joined k.world full_.heard (all_now t.nodes k.world k.reached); admitted = told_admitted a (t.nodes + q) me.0.rights me.0.seen k.world full_.admitted };
            })
            (λ j x away there. let theirs = k.each_seat j x there in
            λ i. theirs_told t k.world k.tries k.broken q id j me.0 x a s.views l away at there k.once i (right_at x.rights i) refl (theirs.rights i)),
        (
          (λ _. (
            a,
            k.world,
            is_now t s k id me.0 at some_part,
            subst (λ (u : Terms). IsTrueOf u k.world (suc (t.nodes + q - me.0.terms.nodes)) a) (sym full_.terms) (subst (λ (p : ℕ). IsTrueOf t k.world (suc p) a) (sym place) there.3),
            ap (λ (p : ℕ). fetching (t.nodes + q) p a k.world me.0) (sym place),
            refl,
          )),
          (λ miss. absurd (miss hit)),
        ),
      ))
      (λ miss. let w = noting (Found (t.nodes + q) found) me.0 in (
        w,
        keeps,
        tt,
        stands t s id (t.nodes + q) me.0 w k at refl (λ j. refl) (λ y world is. is)
            (record { stage = known.stage; rights = known.rights; spent = λ none_left. absurd (omega (arith, none_left, some_part)); whole = λ p. let h = known.whole p in record { terms = h.terms; seen = h.seen; rights = h.rights; heard = h.heard; admitted = h.admitted } }),
        ((λ hit. absurd (miss hit)), (λ _. (refl, refl))),
      ))
