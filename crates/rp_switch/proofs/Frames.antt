-- What changes at a step, and what stays.
use Rattle.std.proofs.Common.{◌≡◌, ◌≢◌, ℕ, zero, suc, ◌+◌, ◌<◌, Bool, List, [], ◌∷◌, length, set, refl, ap, sym, ◌∙◌, arith, subst, slice_index}
use Rattle.std.proofs.lemmas.List.{set-get_or}
use mathlib.Core.Option as maybe
use mathlib.Core.Option.{some-injective, some-ne-none}
use mathlib.Core.Logic.{dite}
use native.Mathlib.Decide.{ℕ_discrete}
use lib.ListN.{get_elem?}
use Rattle.atomic_table.specs.Table.{State}
use Rattle.atomic_table.proofs.Lists.{set_else}
use Rattle.rp_passes.proofs.Tally.{total_set, each_set}
use Rattle.rp_events.specs.Worlds.{World}
use Rattle.rp_events.specs.Lawful.{IsReached}
use Rattle.rp_race.specs.Gives.{Tried}
use Rattle.rp_race.specs.Played.{IsTriesOf}
use Rattle.rp_race.specs.Race.{IsRace}
use Rattle.rp_switch.specs.declared.slots.Slot.{Slot}
use Rattle.rp_switch.specs.declared.terms.Terms.{Terms}
use Rattle.rp_switch.specs.Views.{HasNode, Knowledge, right_at}
use Rattle.rp_switch.specs.Rules.{Phase, home, out, Cell, empty, full, taken, node_word, cell_word, clients_of, size_of, InPhase, InCell, Knows, weight, right_on, IsWith, Kept}

-- a view that was there is the one that is set there
pub set_there : {V : Type 0} (l : List V) (i : ℕ) (v w : V) → get_elem? l i ≡ maybe.some v → get_elem? (set l i w) i ≡ maybe.some w
set_there [] i v w e = absurd (some-ne-none v (sym e))
set_there (x ∷ xs) zero v w e = refl
set_there (x ∷ xs) (suc i) v w e = set_there xs i v w e

-- who has a node has it still, where one view changes that keeps it if it has it
pub still_with : (views : List Knowledge) (id : ℕ) (v w : Knowledge) → get_elem? views id ≡ maybe.some v
    → (place j : ℕ) → ((world : World) → v.stage ≡ HasNode place world → w.stage ≡ HasNode place world)
    → IsWith views place j → IsWith (set views id w) place j
still_with views id v w at place j keeps with_it = dite (ℕ_discrete j id)
    (λ e. subst (λ (i : ℕ). IsWith (set views id w) place i) (sym e) (record {
      view = w;
      at = set_there views id v w at;
      world = with_it.world;
      has = keeps with_it.world
          (subst (λ (u : Knowledge). u.stage ≡ HasNode place with_it.world)
          (some-injective with_it.view v (sym with_it.at ∙ ap (get_elem? views) e ∙ at)) with_it.has);
    }))
    (λ away. record {
      view = with_it.view;
      at = set_else views id j w away ∙ with_it.at;
      world = with_it.world;
      has = with_it.has;
    })

-- a word stays where it is set to what it is
pub same_words : (words : List ℕ) (i : ℕ) → set words i (slice_index words i) ≡ words
same_words words i = set-get_or words i 0

module _ {E : Type 0} where
  -- all of it may change but the sums
  pub rebuilt : (t : Terms) (s : State (Slot E) Knowledge) (id : ℕ) (v w : Knowledge) (k : Kept t s)
      → get_elem? s.views id ≡ maybe.some v → w.parts ≡ v.parts
      → ((i : ℕ) → weight (right_at w.rights i) ≡ weight (right_at v.rights i))
      → (world : World) (broken : ℕ → Bool) (tries : Tried) (phases : ℕ → Phase) (cells : ℕ → Cell)
      → (words : List ℕ) (homes : List (maybe.Option (Slot E)))
      → IsReached t.nodes world → IsRace t.rules broken world
      → ((client : ℕ) → IsTriesOf t.rules world client (tries client))
      → length words ≡ size_of t → length homes ≡ size_of t
      → ((place : ℕ) → place < t.nodes → (slice_index words place ≡ node_word (phases place)) × InPhase homes world place (phases place))
      → ((place : ℕ) → place < clients_of t
      → (slice_index words (t.nodes + place) ≡ cell_word (cells place)) × InCell t homes world place (cells place))
      → Knows t world tries broken phases cells id w
      → ((j : ℕ) (u : Knowledge) → j ≢ id → get_elem? s.views j ≡ maybe.some u → Knows t world tries broken phases cells j u)
      → ((place j : ℕ) → phases place ≡ out j → IsWith (set s.views id w) place j)
      → Kept t record { words = words; homes = homes; views = set s.views id w }
  rebuilt t s id v w k at same_parts same_rights world broken tries phases cells words homes reached race each wide long nodes replies mine theirs with_seat =
      let p = total_set (λ (x : Knowledge). x.parts) s.views id v w at in
      let parted = k.parted in
      record {
        world = world;
        broken = broken;
        tries = tries;
        phases = phases;
        cells = cells;
        reached = reached;
        race = race;
        each_client = each;
        wide = wide;
        long = long;
        nodes = nodes;
        replies = replies;
        each_seat = each_set (λ j u. Knows t world tries broken phases cells j u) s.views id w mine theirs;
        with_seat = with_seat;
        parted = omega (arith, p, parted, same_parts);
        once = λ i. let r = total_set (right_on i) s.views id v w at in let o = k.once i in let f = same_rights i in omega (arith, r, o, f);
        there = λ i low. let r = total_set (right_on i) s.views id v w at in let o = k.there i low in let f = same_rights i in omega (arith, r, o, f);
      }

  -- nothing changes but one view
  pub stands : (t : Terms) (s : State (Slot E) Knowledge) (id i : ℕ) (v w : Knowledge) (k : Kept t s)
      → get_elem? s.views id ≡ maybe.some v → w.parts ≡ v.parts
      → ((j : ℕ) → weight (right_at w.rights j) ≡ weight (right_at v.rights j))
      → ((place : ℕ) (world : World) → v.stage ≡ HasNode place world → w.stage ≡ HasNode place world)
      → Knows t k.world k.tries k.broken k.phases k.cells id w
      → Kept t record { words = set s.words i (slice_index s.words i); homes = s.homes; views = set s.views id w }
  stands t s id i v w k at same_parts same_rights keeps mine =
      subst (λ (ws : List ℕ). Kept t record { words = ws; homes = s.homes; views = set s.views id w }) (sym (same_words s.words i))
      (rebuilt t s id v w k at same_parts same_rights k.world k.broken k.tries k.phases k.cells s.words s.homes
      k.reached k.race k.each_client k.wide k.long k.nodes k.replies mine (λ j u away e. k.each_seat j u e)
      (λ place j is. still_with s.views id v w at place j (keeps place) (k.with_seat place j is)))

  -- a place stays in its phase where its home does
  pub home_stays : (before after : List (maybe.Option (Slot E))) (w : World) (place : ℕ) (p : Phase)
      → get_elem? after place ≡ get_elem? before place → InPhase before w place p → InPhase after w place p
  home_stays before after w place home same is = (is.0, same ∙ is.1, is.2)
  home_stays before after w place (out id) same is = tt

  pub cell_stays : (t : Terms) (before after : List (maybe.Option (Slot E))) (w : World) (place : ℕ) (c : Cell)
      → get_elem? after (t.nodes + place) ≡ get_elem? before (t.nodes + place) → InCell t before w place c → InCell t after w place c
  cell_stays t before after w place empty same is = same ∙ is
  cell_stays t before after w place (full a) same is = (same ∙ is.0, is.1)
  cell_stays t before after w place (taken id) same is = tt
