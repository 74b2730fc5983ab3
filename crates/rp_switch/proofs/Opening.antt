-- A switch starts by its rule.
use Rattle.std.proofs.Common.{◌≡◌, ◌⊎◌, inl, inr, ⊎_elim, ℕ, zero, suc, ◌+◌, ◌<◌, ◌≤◌, false, List, [], ◌∷◌, ◌++◌, length, map, replicate, refl, ap, sym, ◌∙◌, arith, subst, slice_index, slice_get, Some}
use Rattle.std.proofs.lemmas.List.{length-map, length-append, length-replicate}
use Rattle.std.proofs.lemmas.Bool.{lt-ltb, le-leb}
use mathlib.Core.Option as maybe
use mathlib.Core.Option.{some-injective, some-ne-none}
use lib.ListN.{get_elem?}
use Rattle.atomic_table.specs.Table.{opening}
use Rattle.rp_events.specs.Nodes.{Node}
use Rattle.rp_events.specs.Worlds.{World, first_world}
use Rattle.rp_events.specs.Lawful.{IsReached}
use Rattle.rp_journals.proofs.Growing.{some_node}
use Rattle.rp_race.specs.Gives.{OnlyAdmitted}
use Rattle.rp_node.specs.Steps.{Held}
use Rattle.rp_switch.specs.Openings.{first_slots, bare, AreFirst}
use Rattle.rp_switch.specs.declared.slots.Slot.{Slot}
use Rattle.rp_switch.specs.declared.slots.Slot.TheVariants.{Nothing, Body}
use Rattle.rp_switch.specs.declared.terms.Terms.{Terms}
use Rattle.rp_switch.specs.Views.{Right, Lacks, Tries, Rounds, BrokenOff, Knowledge, right_at}
use Rattle.rp_switch.specs.Rules.{home, empty, clients_of, size_of, AllHeard, RightOf, Knows, weight, Kept, first}
use Rattle.rp_race.proofs.Going.{only_itself}
use Rattle.rp_race.proofs.Keeping.{race_first}
use Rattle.rp_race.proofs.Trying.{tries_first}
use Rattle.rp_switch.proofs.Lifts.{all_now}

-- every word is 0
zeros : (n k : ℕ) → slice_index (replicate n 0) k ≡ 0
zeros zero zero = refl
zeros zero (suc k) = refl
zeros (suc n) zero = refl
zeros (suc n) (suc k) = zeros n k

module _ {E : Type 0} where
  abbrev vacant : Slot E
  vacant = Nothing

  empty_cell : (c k : ℕ) → k < c → get_elem? (map maybe.some (replicate c vacant)) k ≡ maybe.some (maybe.some Nothing)
  empty_cell zero k low = absurd (omega (arith, low))
  empty_cell (suc c) zero low = refl
  empty_cell (suc c) (suc k) low = empty_cell c k (omega (arith, low))

  -- the cells lie behind the nodes
  cell_there : (nodes : List (Held E)) (c k : ℕ) → k < c → get_elem? (map maybe.some (first_slots nodes c)) (length nodes + k) ≡ maybe.some (maybe.some Nothing)
  cell_there [] c k low = let e : 0 + k ≡ k = omega arith in ap (get_elem? (map maybe.some (replicate c vacant))) e ∙ empty_cell c k low
  cell_there (h ∷ hs) c k low = let e : suc (length hs) + k ≡ suc (length hs + k) = omega arith in ap (get_elem? (map maybe.some (first_slots (h ∷ hs) c))) e ∙ cell_there hs c k low

  node_there : (nodes : List (Held E)) (c k : ℕ) → k < length nodes
      → (x : Held E) × (get_elem? (map maybe.some (first_slots nodes c)) k ≡ maybe.some (maybe.some (Body x))) × (slice_get (bare nodes) k ≡ Some x.node)
  node_there [] c k low = absurd (omega (arith, low))
  node_there (h ∷ hs) c zero low = (h, refl, refl)
  node_there (h ∷ hs) c (suc k) low = node_there hs c k (omega (arith, low))

  slots_long : (nodes : List (Held E)) (c : ℕ) → length (map maybe.some (first_slots nodes c)) ≡ length nodes + c
  slots_long nodes c = length-map (first_slots nodes c) maybe.some ∙ length-append (map Body nodes) (replicate c vacant)
      ∙ (let a = length-map nodes Body in let b = length-replicate c vacant in omega (arith, a, b))

-- one cell more
append_assoc : {X : Type 0} (xs ys zs : List X) → (xs ++ ys) ++ zs ≡ xs ++ (ys ++ zs)
append_assoc [] ys zs = refl
append_assoc (x ∷ xs) ys zs = ap (λ l. x ∷ l) (append_assoc xs ys zs)

replicate_more : {X : Type 0} (n : ℕ) (x : X) → replicate n x ++ x ∷ [] ≡ replicate (n + 1) x
replicate_more zero x = refl
replicate_more (suc n) x = let e : suc (n + 1) ≡ suc n + 1 = omega arith in ap (λ l. x ∷ l) (replicate_more n x) ∙ ap (λ m. replicate m x) e

pub no_cell : {E : Type 0} (nodes : List (Held E)) → map Body nodes ≡ first_slots nodes 0
no_cell nodes = append_none (map Body nodes)
  where
    append_none : {X : Type 0} (xs : List X) → xs ≡ xs ++ []
    append_none [] = refl
    append_none (x ∷ xs) = ap (λ l. x ∷ l) (append_none xs)

pub one_more : {E : Type 0} (nodes : List (Held E)) (n : ℕ) (now after : List (Slot E)) → now ≡ first_slots nodes n → after ≡ now ++ Nothing ∷ []
    → after ≡ first_slots nodes (n + 1)
one_more nodes n now after is pushed = pushed ∙ ap (λ l. l ++ Nothing ∷ []) is ∙ append_assoc (map Body nodes) (replicate n Nothing) (Nothing ∷ [])
    ∙ ap (λ l. map Body nodes ++ l) (replicate_more n Nothing)

-- each right is there at first, and is so
many_rights : (t : Terms) (n c k : ℕ) → (right_at (replicate n Rounds ++ replicate c (Tries [])) k ≡ Lacks)
    ⊎ (((k < n) × (right_at (replicate n Rounds ++ replicate c (Tries [])) k ≡ Rounds))
    ⊎ ((n ≤ k) × (right_at (replicate n Rounds ++ replicate c (Tries [])) k ≡ Tries [])))
many_rights t zero zero zero = inl refl
many_rights t zero zero (suc k) = inl refl
many_rights t zero (suc c) zero = inr (inr (omega arith, refl))
many_rights t zero (suc c) (suc k) = ⊎_elim (λ e. inl e) (⊎_elim (λ e. let l = e.0 in absurd (omega (arith, l))) (λ e. inr (inr (omega arith, e.1)))) (many_rights t zero c k)
many_rights t (suc n) c zero = inr (inl (omega arith, refl))
many_rights t (suc n) c (suc k) = ⊎_elim (λ e. inl e)
    (⊎_elim (λ e. let l = e.0 in inr (inl (omega (arith, l), e.1))) (λ e. let l = e.0 in inr (inr (omega (arith, l), e.1))))
    (many_rights t n c k)

light : (r : Right) → weight r ≤ 1
light Lacks = omega arith
light (Tries ts) = omega arith
light Rounds = omega arith
light BrokenOff = omega arith

all_there : (n c k : ℕ) → k < n + c → 1 ≤ weight (right_at (replicate n Rounds ++ replicate c (Tries [])) k)
all_there zero zero k low = absurd (omega (arith, low))
all_there zero (suc c) zero low = omega arith
all_there zero (suc c) (suc k) low = all_there zero c k (omega (arith, low))
all_there (suc n) c zero low = omega arith
all_there (suc n) c (suc k) low = all_there n c k (omega (arith, low))

first_right : (t : Terms) (k : ℕ) → RightOf t (λ client. []) (λ node. false) k (right_at (first t).rights k)
first_right t k = ⊎_elim
    (λ e. subst (λ r. RightOf t (λ client. []) (λ node. false) k r) (sym e) tt)
    (⊎_elim
    (λ e. subst (λ r. RightOf t (λ client. []) (λ node. false) k r) (sym e.1) (e.0, refl))
    (λ e. subst (λ r. RightOf t (λ client. []) (λ node. false) k r) (sym e.1) (e.0, refl)))
    (many_rights t t.nodes (clients_of t) k)

starts : (n : ℕ) → 1 ≤ n → n ≤ 5 → IsReached n (first_world n)
starts n some few = record {
  some = lt-ltb 0 n some;
  few = le-leb n 5 few;
  schedule = [];
  lawful = tt;
  reached = refl;
}

nothing_heard : (n : ℕ) (w : World) → AllHeard n [] w
nothing_heard n w zero seen e = absurd (cc)
nothing_heard n w (suc k) seen e = absurd (cc)

pub opens : {E : Type 0} → (t : Terms) (nodes : List (Held E)) → length nodes ≡ t.nodes → 1 ≤ t.nodes → t.nodes ≤ 5 → AreFirst nodes
    → Kept t (opening (replicate (size_of t) 0) (first_slots nodes (clients_of t)) (first t))
opens {E} t nodes size some few are_first =
    let n : ℕ = t.nodes in
    let w : World = first_world n in
    let c : ℕ = clients_of t in
    let reached = starts n some few in
    let bare_is : bare nodes ≡ w = are_first ∙ ap first_world size in
    record {
      world = w;
      broken = λ node. false;
      tries = λ client. [];
      phases = λ place. home;
      cells = λ place. empty;
      reached = reached;
      race = race_first t.rules (λ node. false) n;
      each_client = λ client. tries_first t.rules client n;
      wide = length-replicate (size_of t) 0;
      long = slots_long nodes c ∙ ap (λ (m : ℕ). m + c) size;
      nodes = λ place low. let there = node_there nodes c place (omega (arith, low, size)) in
          (zeros (size_of t) place, (there.0, there.1, ap (λ (u : World). slice_get u place) (sym bare_is) ∙ there.2));
      replies = λ place low. (zeros (size_of t) (n + place), subst (λ (m : ℕ). get_elem? (map maybe.some (first_slots nodes c)) (m + place) ≡ maybe.some (maybe.some Nothing)) size (cell_there nodes c place low));
      each_seat = λ id v e. subst (λ (u : Knowledge). Knows t w (λ client. []) (λ node. false) (λ place. home) (λ place. empty) id u) (only id v e) (record {
        stage = tt;
        rights = first_right t;
        spent = λ none_left. absurd (omega (arith, none_left));
        whole = λ p. record {
          terms = refl;
          seen = all_now n w reached;
          rights = length-append (replicate n Rounds) (replicate c (Tries [])) ∙ (let a = length-replicate n Rounds in let b = length-replicate c (Tries []) in omega (arith, a, b));
          heard = nothing_heard n w;
          admitted = λ place before now rounds saw there. subst (λ (y : Node). OnlyAdmitted before y) (some_node before now (sym saw ∙ there)) (only_itself before);
        };
      });
      with_seat = λ place id e. absurd (cc);
      parted = omega arith;
      once = λ k. let l = light (right_at (first t).rights k) in omega (arith, l);
      there = λ k low. let l = all_there n c k low in omega (arith, l);
    }
  where
    only : (id : ℕ) (v : Knowledge) → get_elem? (first t ∷ []) id ≡ maybe.some v → first t ≡ v
    only zero v e = some-injective (first t) v e
    only (suc id) v e = absurd (some-ne-none v (sym e))
