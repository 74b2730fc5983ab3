-- Rights are handed over, and come back.
use Rattle.std.proofs.Common.{◌≡◌, ℕ, zero, suc, ◌+◌, ◌<◌, ◌≤◌, eqb, Bool, List, [], ◌∷◌, ◌++◌, set, refl, ap, sym, ◌∙◌, arith, subst, slice_index, slice_get, Option, Some, None}
use Rattle.std.proofs.lemmas.List.Sums.{sum_by_push}
use mathlib.Core.Option as maybe
use prog.Atomic.{either}
use lib.ListN.{get_elem?}
use Rattle.atomic_table.specs.Table.{Step, step, Act, keeps, Valid, Allows, Splits, Joins, stepped, carried_after}
use Rattle.atomic_table.proofs.Lists.{exchanged, set_else, at_longer}
use Rattle.rp_passes.proofs.Tally.{total_set, pair_le, each_set, each_snoc}
use Rattle.rp_events.specs.Worlds.{World}
use Rattle.rp_race.specs.Gives.{AllSeen}
use Rattle.rp_switch.specs.declared.slots.Slot.{Slot}
use Rattle.rp_switch.specs.declared.terms.Terms.{Terms}
use Rattle.rp_switch.specs.Views.{Lacks, Choice, OfClient, OfWorker, Idle, Chooses, Knowledge, nothing_known, right_at, is_chosen, choosing, knows_better, left, right, both}
use Rattle.rp_switch.specs.Rules.{Phase, home, out, node_word, AllHeard, RightOf, Knows, weight, right_on, Kept}
use Rattle.rp_switch.specs.Plays as plays
use Rattle.rp_switch.specs.Plays.{Standing}
use Rattle.rp_switch.proofs.Rights.{in_chosen, in_others, rounds_chosen, rounds_others, halves_weigh, in_half, in_other_half, chosen_long, others_long, together_at, together_long, either_weighs, in_either}
use Rattle.rp_switch.proofs.Frames.{still_with, stands}
use Rattle.rp_switch.proofs.Nows.{some_nodes}
use Rattle.rp_switch.proofs.Sights.{seen_both, stage_both, admitted_both}

-- a node's word is 0 or 1
small_word : (p : Phase) → node_word p ≤ 1
small_word home = omega arith
small_word (out id) = omega arith

nothing_at : (i : ℕ) (seen : World) → slice_get [] i ≡ Some seen → ⊥
nothing_at zero seen e = absurd (cc)
nothing_at (suc i) seen e = absurd (cc)

unsome : (a b : World) → ◌≡◌ {A = Option World} (Some a) (Some b) → a ≡ b
unsome a b e = ap (value_or a) e
  where
    value_or : World → Option World → World
    value_or c None = c
    value_or c (Some d) = d

-- what two seats had seen, and what was joined to them, is past
both_heard : (nodes : ℕ) (w : World) (xs : List World) (seen : World) (ys : List World) → AllHeard nodes xs w → AllSeen nodes seen w → AllHeard nodes ys w
    → AllHeard nodes (xs ++ seen ∷ ys) w
both_heard nodes w [] seen ys first mine more zero s e = subst (λ (z : World). AllSeen nodes z w) (unsome seen s e) mine
both_heard nodes w [] seen ys first mine more (suc i) s e = more i s e
both_heard nodes w (x ∷ xs) seen ys first mine more zero s e = first 0 s e
both_heard nodes w (x ∷ xs) seen ys first mine more (suc i) s e = both_heard nodes w xs seen ys (λ j z d. first (suc j) z d) mine more i s e

pub none_at : (k : ℕ) → right_at [] k ≡ Lacks
none_at zero = refl
none_at (suc k) = refl

module _ {E : Type 0} where
  -- no word is 2 or more, so an exchange that asks for that changes none
  chooses : (t : Terms) (slots id old new : ℕ) (choice : Choice) (me : Standing E) → 2 ≤ old → me.0.stage ≡ Idle → 0 < me.0.parts
      → (play : Step (Slot E) → Standing E → ℕ → Standing E → Type 0)
      → ((found : ℕ) → play (step slots 0 old new maybe.none) me found (choosing choice me.0, me.1))
      → Allows (Kept t) slots id me 0 (λ z. either (eqb z old) new z) (play (step slots 0 old new maybe.none) me)
  chooses t slots id old new choice me past idle some_part play told s k long at small =
      let found : ℕ = slice_index s.words 0 in
      let known = k.each_seat id me.0 at in
      let some = some_nodes t k.world k.reached in
      let w = choosing choice me.0 in
      exchanged found old new (λ z. (w : Knowledge) × (a : Act (Slot E)) × Valid s.homes me.1 a × Kept t (stepped s 0 z id me.1 w a) × play (step slots 0 old new maybe.none) me found (w, carried_after me.1 a))
      (λ hit. absurd (let is = (k.nodes 0 some).0 in let low = small_word (k.phases 0) in omega (arith, hit, is, low, past)))
      (λ miss. (
        w,
        keeps,
        tt,
        stands t s id 0 me.0 w k at refl (λ j. refl) (λ y world is. absurd (let i = idle in cc))
            (record { stage = tt; rights = known.rights; spent = λ none_left. absurd (omega (arith, none_left, some_part)); whole = λ p. let h = known.whole p in record { terms = h.terms; seen = h.seen; rights = h.rights; heard = h.heard; admitted = h.admitted } }),
        told found,
      ))

  pub splits : (t : Terms) (id : ℕ) (v : Knowledge) (choice : Choice) → v.stage ≡ Chooses choice → 2 ≤ v.parts → Splits (Kept {E = E} t) id v (left v) (right v)
  splits t id v choice stage two s k at =
      let known = k.each_seat id v at in
      let full_ = known.whole (omega (arith, two)) in
      let p : ℕ → Bool = is_chosen v.terms.nodes v.stage in
      let parts = total_set (λ (x : Knowledge). x.parts) s.views id v (left v) at in
      let parted = k.parted in
      let views : List Knowledge = set s.views id (left v) in
      let more_parts = sum_by_push (λ (x : Knowledge). x.parts) views (right v) in
      record {
        world = k.world;
        broken = k.broken;
        tries = k.tries;
        phases = k.phases;
        cells = k.cells;
        reached = k.reached;
        race = k.race;
        each_client = k.each_client;
        wide = k.wide;
        long = k.long;
        nodes = k.nodes;
        replies = k.replies;
        each_seat = each_snoc (λ j x. Knows t k.world k.tries k.broken k.phases k.cells j x) views (right v)
            (record {
              stage = tt;
              rights = λ i. subst (λ r. RightOf t k.tries k.broken i r) (sym (in_chosen p v.rights i))
                  (in_half (λ r. RightOf t k.tries k.broken i r) tt (p i) (right_at v.rights i) (known.rights i));
              spent = λ e. absurd (omega (arith, e, two));
              whole = λ e. record { terms = full_.terms; seen = full_.seen; rights = chosen_long p v.rights ∙ full_.rights; heard = λ i seen at_. absurd (nothing_at i seen at_); admitted = λ i before now rounds saw there. full_.admitted i before now (rounds_chosen (p i) (right_at v.rights i) (sym (in_chosen p v.rights i) ∙ rounds)) saw there };
            })
            (each_set (λ j x. Knows t k.world k.tries k.broken k.phases k.cells j x) s.views id (left v)
            (record {
              stage = tt;
              rights = λ i. subst (λ r. RightOf t k.tries k.broken i r) (sym (in_others p v.rights i))
                  (in_other_half (λ r. RightOf t k.tries k.broken i r) tt (p i) (right_at v.rights i) (known.rights i));
              spent = λ e. absurd (omega (arith, e, two));
              whole = λ e. record { terms = full_.terms; seen = full_.seen; rights = others_long p v.rights ∙ full_.rights; heard = full_.heard; admitted = λ i before now rounds saw there. full_.admitted i before now (rounds_others (p i) (right_at v.rights i) (sym (in_others p v.rights i) ∙ rounds)) saw there };
            })
            (λ j x away e. k.each_seat j x e));
        with_seat = λ place j is. let w = still_with s.views id v (left v) at place j (λ world has. absurd (let st = stage in cc)) (k.with_seat place j is) in
            record { view = w.view; at = at_longer views (right v ∷ []) j w.view w.at; world = w.world; has = w.has };
        parted = omega (arith, parts, parted, more_parts, two);
        once = λ i. let r = total_set (right_on i) s.views id v (left v) at in let more = sum_by_push (right_on i) views (right v) in
            let o = k.once i in let h = halves_weigh p v.rights i in omega (arith, r, more, o, h);
        there = λ i low. let r = total_set (right_on i) s.views id v (left v) at in let more = sum_by_push (right_on i) views (right v) in
            let o = k.there i low in let h = halves_weigh p v.rights i in omega (arith, r, more, o, h);
      }

  pub joins : (t : Terms) (id : ℕ) (v : Knowledge) (other : ℕ) (w : Knowledge) → 0 < v.parts → 0 < w.parts → w.stage ≡ Idle
      → Joins (Kept {E = E} t) id v other w (both v w) nothing_known
  joins t id v other w some_part more_part idle s k at away there =
      let known = k.each_seat id v at in
      let full_ = known.whole some_part in
      let there_was : get_elem? s.views other ≡ maybe.some w = sym (set_else s.views id other (both v w) away) ∙ there in
      let theirs = k.each_seat other w there_was in
      let their_whole = theirs.whole more_part in
      let views : List Knowledge = set s.views id (both v w) in
      let p = total_set (λ (x : Knowledge). x.parts) s.views id v (both v w) at in
      let more_parts = total_set (λ (x : Knowledge). x.parts) views other w nothing_known there in
      let parted = k.parted in
      let weighs : (i : ℕ) → right_on i (both v w) ≡ right_on i v + right_on i w = λ i.
      ap weight (together_at v.rights w.rights i)
      ∙ either_weighs (right_at v.rights i) (right_at w.rights i) (let b = pair_le (right_on i) s.views id other v w away at there_was in let o = k.once i in omega (arith, b, o)) in
      record {
        world = k.world;
        broken = k.broken;
        tries = k.tries;
        phases = k.phases;
        cells = k.cells;
        reached = k.reached;
        race = k.race;
        each_client = k.each_client;
        wide = k.wide;
        long = k.long;
        nodes = k.nodes;
        replies = k.replies;
        each_seat = each_set (λ j x. Knows t k.world k.tries k.broken k.phases k.cells j x) views other nothing_known
            (record {
              stage = tt;
              rights = λ i. subst (λ r. RightOf t k.tries k.broken i r) (sym (none_at i)) tt;
              spent = λ e. refl;
              whole = λ e. absurd (omega (arith, e));
            })
            (λ j x _ e. each_set (λ i y. Knows t k.world k.tries k.broken k.phases k.cells i y) s.views id (both v w)
            (record {
              stage = stage_both t k.world k.phases k.cells id v w v.stage full_.seen.size their_whole.seen.size known.stage refl;
              rights = λ i. subst (λ r. RightOf t k.tries k.broken i r) (sym (together_at v.rights w.rights i))
                  (in_either (λ r. RightOf t k.tries k.broken i r) (right_at v.rights i) (right_at w.rights i) (known.rights i) (theirs.rights i));
              spent = λ none_left. absurd (omega (arith, none_left, some_part));
              whole = λ e. record {
                terms = full_.terms;
                seen = seen_both t.nodes k.world (knows_better v w) v.seen w.seen full_.seen their_whole.seen;
                rights = together_long v.rights w.rights (full_.rights ∙ sym their_whole.rights) ∙ full_.rights;
                heard = both_heard t.nodes k.world v.joined w.seen w.joined full_.heard their_whole.seen their_whole.heard;
                admitted = admitted_both t k.world k.phases k.cells id v w full_.seen.size their_whole.seen.size known.stage
                    (λ i. let b = pair_le (right_on i) s.views id other v w away at there_was in let o = k.once i in omega (arith, b, o))
                    full_.admitted their_whole.admitted;
              };
            })
            (λ i y _ d. k.each_seat i y d) j x e);
        with_seat = λ place j is. still_with views other w nothing_known there place j (λ world has. absurd (let st = idle in cc))
            (still_with s.views id v (both v w) at place j (λ world has. has) (k.with_seat place j is));
        parted = omega (arith, p, parted, more_parts);
        once = λ i. let r = total_set (right_on i) s.views id v (both v w) at in let more = total_set (right_on i) views other w nothing_known there in
            let o = k.once i in let h = weighs i in let n = ap weight (none_at i) in omega (arith, r, more, o, h, n);
        there = λ i low. let r = total_set (right_on i) s.views id v (both v w) at in let more = total_set (right_on i) views other w nothing_known there in
            let o = k.there i low in let h = weighs i in let n = ap weight (none_at i) in omega (arith, r, more, o, h, n);
      }

  pub chooses_client : (t : Terms) (slots id client : ℕ) (me : Standing E) → me.0.stage ≡ Idle → 0 < me.0.parts
      → Allows (Kept t) slots id me 0 (λ z. either (eqb z 2) client z) (plays.chose_client (step slots 0 2 client maybe.none) me)
  chooses_client t slots id client me idle some_part = chooses t slots id 2 client (OfClient client) me (omega arith) idle some_part plays.chose_client (λ found. (refl, refl))

  pub chooses_worker : (t : Terms) (slots id worker workers : ℕ) (me : Standing E) → me.0.stage ≡ Idle → 0 < me.0.parts
      → Allows (Kept t) slots id me 0 (λ z. either (eqb z (2 + worker)) workers z) (plays.chose_worker (step slots 0 (2 + worker) workers maybe.none) me)
  chooses_worker t slots id worker workers me idle some_part = chooses t slots id (2 + worker) workers (OfWorker worker workers) me (omega arith) idle some_part plays.chose_worker
      (λ found. (ap (λ (n : ℕ). choosing (OfWorker n workers) me.0) (omega arith), refl))
