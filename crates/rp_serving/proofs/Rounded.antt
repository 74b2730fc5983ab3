-- A node keeps its number, and within a round its count of rounds.
use Rattle.std.proofs.Common.{◌≡◌, ℕ, zero, suc, ◌+◌, true, false, cond, ⊎_elim, Some, List, [], ◌∷◌, length, map, length-append, refl, sym, ap, subst, ◌∙◌, arith}
use Rattle.std.specs.Prelude.{slice_get}
use Rattle.std.proofs.lemmas.List.{length-map, map-append}
use Rattle.rp_base.proofs.Counts.{count_push}
use Rattle.rp_raftstep.specs.RaftState.{nodes_to}
use Rattle.rp_events.specs.declared.journals.JournalEntry.{JournalEntry}
use Rattle.rp_events.specs.Lawful.{IsReached}
use Rattle.rp_events.specs.Nodes.{Node, first_node}
use Rattle.rp_events.specs.NodeEvents.{past_of, step}
use Rattle.rp_events.specs.Worlds as worlds
use Rattle.rp_events.specs.Worlds.{World, Happening, node_of, taken_in, happens, run, first_world}
use Rattle.rp_journals.specs.Asked.{all_at}
use Rattle.rp_journals.specs.Entries.{at_node}
use Rattle.rp_journals.specs.Growth.{WorldGrows}
use Rattle.rp_journals.proofs.Growing.{Happened, happened, one_node, run_grows, with_same}
use Rattle.rp_journals.proofs.Lists.{PushCases, Before, Last, get_push}
use Rattle.rp_journals.proofs.Reading.{step_journal, entry_of}
use Rattle.rp_race.specs.declared.rules.RaceRules.{RaceRules}
use Rattle.rp_race.specs.Owed.{is_round, rounds_in}
use Rattle.rp_race.specs.Gives.{AllMayHappen, IsSoFar, is_within_round, kept_as}
use Rattle.rp_race.proofs.Ahead.{kept_is, node_there}
use Rattle.rp_race.proofs.Counted.{all_counted}
use Rattle.rp_race.proofs.Going.{so_far_reached}

numbers_long : (k : ℕ) → length (nodes_to k) ≡ k
numbers_long zero = refl
numbers_long (suc k) = let a = length-append (nodes_to k) (suc k ∷ []) in let b = numbers_long k in omega (arith, a, b)

first_number_in : (nodes k place : ℕ) (n : Node) → slice_get (map (λ node. first_node node nodes) (nodes_to k)) place ≡ Some n → n.node ≡ suc place
first_number_in nodes zero place n e = absurd cc
first_number_in nodes (suc k) place n e =
    go (first_number_in nodes k place n)
    (get_push (map (λ node. first_node node nodes) (nodes_to k)) (first_node (suc k) nodes) place n
    (ap (λ l. slice_get l place) (sym (map-append (λ node. first_node node nodes) (nodes_to k) (suc k ∷ []))) ∙ e)) where
      go : (slice_get (map (λ node. first_node node nodes) (nodes_to k)) place ≡ Some n → n.node ≡ suc place)
          → PushCases (map (λ node. first_node node nodes) (nodes_to k)) (first_node (suc k) nodes) place n → n.node ≡ suc place
      go before (Before is) = before is
      go before (Last at is) =
          let long : length (map (λ node. first_node node nodes) (nodes_to k)) ≡ k = length-map (nodes_to k) (λ node. first_node node nodes) ∙ numbers_long k in
          ap (λ (z : Node). z.node) is ∙ let z : suc k ≡ suc place = omega (arith, at, long) in z

pub first_number : (nodes node : ℕ) (n : Node) → node_of (first_world nodes) node ≡ Some n → n.node ≡ node
first_number nodes zero n e = absurd cc
first_number nodes (suc place) n e = first_number_in nodes nodes place n e

pub number_is : (nodes : ℕ) (w : World) → IsReached nodes w → (node : ℕ) (n : Node) → node_of w node ≡ Some n → n.node ≡ node
number_is nodes w r node n has =
    let grows : WorldGrows (first_world nodes) w = subst (WorldGrows (first_world nodes)) r.reached (run_grows r.schedule (first_world nodes)) in
    let m = node_there w (first_world nodes) grows.size node n has in
    let l = grows.each node m.0 m.1 in
    ap (λ (z : Node). z.node) (one_node w node n l.now has l.has) ∙ l.grows.number ∙ first_number nodes node m.0 m.1

no_round : (n : Node) (x : Happening) → is_within_round x ≡ true → is_round (kept_as n x) ≡ false
no_round n (worlds.Admit range id request) h = refl
no_round n (worlds.Ask range) h = refl
no_round n (worlds.Transfer range to) h = refl
no_round n (worlds.Collect range taken) h = refl
no_round n (worlds.Flush range) h = refl
no_round n worlds.Tick h = refl
no_round n (worlds.Deliver from number) h = refl
no_round n (worlds.Apply range) h = refl
no_round n (worlds.Cut range) h = refl
no_round n (worlds.Remove range) h = refl
no_round n (worlds.Peek range key) h = refl
no_round n worlds.Restart h = refl
no_round n worlds.Round h = absurd cc

pub record StillThere (w : World) (node : ℕ) (n : Node) : Type 0 where
  pub now : Node
  pub has : node_of w node ≡ Some now
  pub rounds : rounds_in now.journal ≡ rounds_in n.journal

still_there : (v : World) (node : ℕ) (x : Happening) (n : Node) → node_of v node ≡ Some n → is_within_round x ≡ true → StillThere (happens v (at_node node x)) node n
still_there v node x n has within = ⊎_elim
    (λ (same : happens v (at_node node x) ≡ v). record { now = n; has = ap (λ z. node_of z node) same ∙ has; rounds = refl })
    (λ (k : Happened v (at_node node x)).
    let n_is : k.n ≡ n = one_node v node k.n n k.has has in
    let new : Node = (step k.n k.event (taken_in x)).node in
    let kept : is_round (past_of k.n k.event (taken_in x)) ≡ false = ap is_round (kept_is v k.n x k.event k.came) ∙ no_round k.n x within in
    let count : rounds_in new.journal ≡ rounds_in k.n.journal + cond (is_round (past_of k.n k.event (taken_in x))) 1 0 =
    ap rounds_in (step_journal k.n k.event (taken_in x)) ∙ count_push (λ (e : JournalEntry). is_round e.event) k.n.journal (entry_of k.n k.event (taken_in x)) in
    let none : cond (is_round (past_of k.n k.event (taken_in x))) 1 0 ≡ 0 = ap (λ b. cond {A = ℕ} b 1 0) kept in
    record {
      now = new;
      has = ap (λ z. node_of z node) k.is ∙ with_same v node k.n new k.has;
      rounds = let same : rounds_in new.journal ≡ rounds_in k.n.journal = omega (arith, count, none) in same ∙ ap (λ (z : Node). rounds_in z.journal) n_is;
    })
    (happened v (at_node node x))

rounds_along : (rules : RaceRules) (node : ℕ) (xs : List Happening) (v : World) (n later : Node) → AllMayHappen rules node v xs → node_of v node ≡ Some n → node_of (run v (all_at node xs)) node ≡ Some later
    → rounds_in later.journal ≡ rounds_in n.journal
rounds_along rules node [] v n later may has left = ap (λ (z : Node). rounds_in z.journal) (one_node v node later n left has)
rounds_along rules node (x ∷ xs) v n later may has left =
    let s : StillThere (happens v (at_node node x)) node n = still_there v node x n has may.0.within in
    rounds_along rules node xs (happens v (at_node node x)) s.now later may.1 s.has left ∙ s.rounds

-- within a round the rounds are as they were
pub rounds_within : (rules : RaceRules) (nodes node : ℕ) (at : World) (what : List Happening) (n later : Node) → IsReached nodes at → node_of at node ≡ Some n → IsSoFar rules node at what later → later.rounds ≡ n.rounds
rounds_within rules nodes node at what n later reached has s =
    (all_counted nodes (run at (all_at node what)) (so_far_reached nodes rules node at what later reached s) node later s.leaves).rounds
    ∙ rounds_along rules node what at n later s.order has s.leaves
    ∙ sym (all_counted nodes at reached node n has).rounds
