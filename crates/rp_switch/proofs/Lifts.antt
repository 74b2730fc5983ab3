-- What is true of a world stays true of a later one.
use Rattle.std.proofs.Common.{◌≡◌, ◌≢◌, ℕ, zero, suc, ◌<◌, ◌≤◌, List, [], ◌∷◌, ◌++◌, length, refl, ap, sym, ◌∙◌, arith, subst, slice_get, Option, None, Some}
use Rattle.std.proofs.lemmas.List.{length-map, length-append}
use mathlib.Core.Option as maybe
use Rattle.rp_clients.specs.declared.answers.Answer.{Answer}
use Rattle.rp_clients.specs.declared.answers.Answer.TheVariants as answers
use Rattle.rp_events.specs.declared.answers.Ended.{Ended}
use Rattle.rp_raftstep.specs.RaftState.{nodes_to}
use Rattle.rp_events.specs.Nodes.{Node, first_node}
use Rattle.rp_events.specs.Worlds.{World, first_world, node_of}
use Rattle.rp_events.specs.Lawful.{IsReached, IsLater}
use Rattle.rp_journals.specs.Growth.{WorldGrows}
use Rattle.rp_journals.proofs.Growing.{later_grows, later_refl, later_trans, run_grows}
use Rattle.rp_journals.proofs.Lists.{get_begins}
use Rattle.rp_race.specs.Ends.{patience}
use Rattle.rp_race.specs.Gives.{AllSeen}
use Rattle.rp_switch.specs.declared.slots.Slot.{Slot}
use Rattle.rp_switch.specs.declared.terms.Terms.{Terms}
use Rattle.rp_switch.specs.Views.{Stage, Idle, HasNode, HasCell, Chooses}
use Rattle.rp_switch.specs.Rules.{Phase, home, out, Cell, empty, full, taken, InPhase, InCell, IsTrueOf, AllHeard, AtStage}
use Rattle.rp_race.proofs.Waited.{waited_later, seen_not_less}
use Rattle.rp_switch.proofs.Places.{put, put_else}

-- what was seen was so before a later world, too
pub all_seen_later : (nodes : ℕ) (seen w later : World) → IsLater w later → AllSeen nodes seen w → AllSeen nodes seen later
all_seen_later nodes seen w later goes all = record {
  size = all.size;
  each = λ node n is. let was = all.each node n is in record {
    before = was.before;
    reached = was.reached;
    later = later_trans was.before w later was.later goes;
    has = was.has;
  };
}

pub all_heard_later : (nodes : ℕ) (joined : List World) (w later : World) → IsLater w later → AllHeard nodes joined w → AllHeard nodes joined later
all_heard_later nodes joined w later goes all k seen e = all_seen_later nodes seen w later goes (all k seen e)

-- one world more is heard of
pub heard_more : (nodes : ℕ) (w : World) (xs : List World) (seen : World) → AllHeard nodes xs w → AllSeen nodes seen w → AllHeard nodes (xs ++ seen ∷ []) w
heard_more nodes w [] seen heard all zero s e = subst (λ (z : World). AllSeen nodes z w) (unsome seen s e) all
  where
    value_or : World → Option World → World
    value_or c None = c
    value_or c (Some d) = d

    unsome : (a b : World) → ◌≡◌ {A = Option World} (Some a) (Some b) → a ≡ b
    unsome a b e = ap (value_or a) e
heard_more nodes w [] seen heard all (suc i) s e = absurd (cc)
heard_more nodes w (x ∷ xs) seen heard all zero s e = heard 0 s e
heard_more nodes w (x ∷ xs) seen heard all (suc i) s e = heard_more nodes w xs seen (λ j z d. heard (suc j) z d) all i s e

ended_later : (w later : World) → WorldGrows w later → (node : ℕ) (n : Node) (k : ℕ) (e : Ended) → node_of w node ≡ Some n → slice_get n.outcomes k ≡ Some e
    → (m : Node) × (node_of later node ≡ Some m) × (slice_get m.outcomes k ≡ Some e)
ended_later w later grows node n k e has here =
    let now = grows.each node n has in
    (now.now, now.has, get_begins n.outcomes now.now.outcomes now.grows.outcomes k e here)

-- a true answer stays true
pub true_later : (t : Terms) (w later : World) (client : ℕ) (a : Answer) → IsLater w later → IsTrueOf t w client a → IsTrueOf t later client a
true_later t w later client (answers.Ended id outcome) goes is =
    let e : Ended = record { id = id; outcome = outcome } in
    let now = ended_later w later (later_grows w later goes) is.1.0 is.1.1 is.1.2 e is.1.3 is.1.4 in
    (is.0, (is.1.0, now.0, is.1.2, now.1, now.2))
true_later t w later client answers.Over goes is = waited_later (patience t.rules) w later goes is
true_later t w later client answers.NoMemory goes is = tt

-- a node that is seen is one that the world has
seen_node : (w : World) (k : ℕ) → k < length w → (n : Node) × (slice_get w k ≡ Some n)
seen_node [] k low = absurd (omega (arith, low))
seen_node (x ∷ xs) zero low = (x, refl)
seen_node (x ∷ xs) (suc k) low = seen_node xs k (omega (arith, low))

pub low_node : (w : World) (k : ℕ) (n : Node) → slice_get w k ≡ Some n → k < length w
low_node [] k n has = absurd (cc)
low_node (x ∷ xs) zero n has = omega arith
low_node (x ∷ xs) (suc k) n has = let l = low_node xs k n has in omega (arith, l)

-- an answer that is true of what was seen is true of the world
pub true_of_seen : (t : Terms) (seen w : World) (client : ℕ) (a : Answer) → length w ≡ t.nodes → AllSeen t.nodes seen w → IsTrueOf t seen client a → IsTrueOf t w client a
true_of_seen t seen w client (answers.Ended id outcome) size all is =
    let e : Ended = record { id = id; outcome = outcome } in
    let was = all.each is.1.0 is.1.1 is.1.3 in
    let now = ended_later was.before w (later_grows was.before w was.later) is.1.0 is.1.1 is.1.2 e was.has is.1.4 in
    (is.0, (is.1.0, now.0, is.1.2, now.1, now.2))
true_of_seen t seen w client answers.Over size all is =
    let there = later_grows (all.each is.node is.n is.has).before w (all.each is.node is.n is.has).later in
    let now = there.each is.node is.n (all.each is.node is.n is.has).has in
    let more = seen_not_less t.nodes w is.node is.n (all.each is.node is.n is.has) now.now now.has in
    let long = is.waited in
    record {
      each = each;
      node = is.node;
      n = now.now;
      has = now.has;
      waited = let m = more.1 in omega (arith, m, long);
    }
  where
    each : (node : ℕ) (n : Node) → node_of w node ≡ Some n → patience t.rules ≤ n.rounds
    each zero n has = absurd (cc)
    each (suc k) n has =
        let low = low_node w k n has in
        let was = seen_node seen k (let a = all.size in omega (arith, a, size, low)) in
        let more = seen_not_less t.nodes w (suc k) was.0 (all.each (suc k) was.0 was.1) n has in
        let enough = is.each (suc k) was.0 was.1 in
        let m = more.0 in omega (arith, m, enough)
true_of_seen t seen w client answers.NoMemory size all is = tt

module _ {E : Type 0} where
  -- what lies in a place stays so where the world's node there stays
  pub world_stays : (homes : List (maybe.Option (Slot E))) (w later : World) (place : ℕ) (p : Phase)
      → slice_get later place ≡ slice_get w place → InPhase homes w place p → InPhase homes later place p
  world_stays homes w later place home same is = (is.0, is.1, same ∙ is.2)
  world_stays homes w later place (out id) same is = tt

  pub answer_stays : (t : Terms) (homes : List (maybe.Option (Slot E))) (w later : World) (place : ℕ) (c : Cell)
      → IsLater w later → InCell t homes w place c → InCell t homes later place c
  answer_stays t homes w later place empty goes is = is
  answer_stays t homes w later place (full a) goes is = (is.0, true_later t w later (suc place) a goes is.1)
  answer_stays t homes w later place (taken id) goes is = tt

-- what a seat knows of its own node stays so where another changes
pub stage_later : (t : Terms) (w later : World) (phases : ℕ → Phase) (cells : ℕ → Cell) (place j : ℕ) (p : Phase) (seen : World) (st : Stage)
    → IsLater w later → ((q : ℕ) → q ≢ place → slice_get later q ≡ slice_get w q) → phases place ≢ out j
    → AtStage t w phases cells j seen st → AtStage t later (put phases place p) cells j seen st
stage_later t w later phases cells place j p seen Idle goes others free at = tt
stage_later t w later phases cells place j p seen (HasNode q world) goes others free at =
    let away : q ≢ place = λ e. free (subst (λ z. phases z ≡ out j) e at.has) in record {
      low = at.low;
      has = put_else phases place q p away ∙ at.has;
      reached = at.reached;
      later = later_trans world w later at.later goes;
      same = others q away ∙ at.same;
      saw = at.saw;
    }
stage_later t w later phases cells place j p seen (HasCell q) goes others free at = at
stage_later t w later phases cells place j p seen (Chooses c) goes others free at = tt

-- a reached world has so many nodes
numbers_length : (n : ℕ) → length (nodes_to n) ≡ n
numbers_length zero = refl
numbers_length (suc n) = length-append (nodes_to n) (suc n ∷ []) ∙ (let l = numbers_length n in omega (arith, l))

pub first_length : (n : ℕ) → length (first_world n) ≡ n
first_length n = length-map (nodes_to n) (λ node. first_node node n) ∙ numbers_length n

pub reached_length : (n : ℕ) (w : World) → IsReached n w → length w ≡ n
reached_length n w r = ap (λ (u : World). length u) (sym r.reached) ∙ (run_grows r.schedule (first_world n)).size ∙ first_length n

-- a reached world is past to itself
pub all_now : (nodes : ℕ) (w : World) → IsReached nodes w → AllSeen nodes w w
all_now nodes w reached = record {
  size = reached_length nodes w reached;
  each = λ node x has. record { before = w; reached = reached; later = later_refl w; has = has };
}
