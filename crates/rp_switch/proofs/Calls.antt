-- What several steps of a call tell together.
use Rattle.std.proofs.Common.{◌≡◌, ℕ, suc, ◌+◌, ◌-◌, ◌<◌, eqb, List, [], ◌∷◌, refl, ap, sym, ◌∙◌, arith, subst, slice_get, Option, Some}
use mathlib.Core.Option as maybe
use prog.Atomic.{either}
use Rattle.atomic_table.specs.Table.{step, Allows, rest}
use Rattle.rp_clients.specs.declared.answers.Answer.{Answer}
use Rattle.rp_events.specs.Nodes.{Node}
use Rattle.rp_events.specs.Worlds.{World}
use Rattle.rp_node.specs.Steps.{Held}
use Rattle.rp_journals.proofs.Growing.{some_node}
use Rattle.rp_switch.specs.declared.slots.Slot.{Slot}
use Rattle.rp_switch.specs.declared.slots.Slot.TheVariants.{Nothing, Body, Reply}
use Rattle.rp_switch.specs.declared.terms.Terms.{Terms}
use Rattle.rp_switch.specs.Views.{Stage, Idle, HasNode, HasCell, Chooses, Knowledge, reaching, fetching, posting, at_rest}
use Rattle.rp_switch.specs.Rules.{Kept, IsTrueOf, IsNow, clients_of}
use Rattle.rp_switch.specs.Gifts.{MayGive, Gives}
use Rattle.rp_switch.specs.Calm.{slots_at}
use Rattle.rp_switch.specs.Plays as plays
use Rattle.rp_switch.specs.Plays.{Standing, giving}
use Rattle.rp_switch.proofs.Giving.{gives_node}
use Rattle.rp_switch.proofs.Posting.{reaches, posts, clears, fetches}

-- who may give a node has it
pub may_is : (v : Knowledge) (st : Stage) (number i : ℕ) (after : Node) → number ≡ suc i → MayGive v st number after
    → (at : World) × (st ≡ HasNode i at) × Gives v i at after
may_is v Idle number i after e may = absurd may
may_is v (HasNode place at) number i after e may =
    let same : place ≡ i = let n = may.0 in omega (arith, n, e) in
    (at, ap (λ (p : ℕ). HasNode p at) same, subst (λ (p : ℕ). Gives v p at after) same may.1)
may_is v (HasCell place) number i after e may = absurd may
may_is v (Chooses choice) number i after e may = absurd may

module _ {E : Type 0} where
  -- the seat as it is where the node lies in its slot
  abbrev pub holding : Standing E → ℕ → Slot E → Standing E
  holding old i y = (old.0, (i, y) ∷ rest old.1)

  pub gives_at : (t : Terms) (slots id i number : ℕ) (x : Held E) (old me : Standing E) → number ≡ suc i → me ≡ holding old i (Body x)
      → MayGive old.0 old.0.stage number x.node → 0 < old.0.parts
      → Allows (Kept t) slots id me i (λ _. 0) (plays.gave (step slots i 0 0 maybe.none) me)
  gives_at t slots id i number x old me e is may some_part =
      let m = may_is old.0 old.0.stage number i x.node e may in
      subst (λ (s : Standing E). Allows (Kept t) slots id s i (λ _. 0) (plays.gave (step slots i 0 0 maybe.none) s)) (sym is)
      (gives_node t slots id i x (holding old i (Body x)) m.0 m.1 m.2 refl some_part)

  -- after the swap the seat is at rest
  pub record Gave (old now : Standing E) (i : ℕ) (after : Node) : Type 0 where
    pub before : Node
    pub took : slice_get old.0.seen i ≡ Some before
    pub known : now.0 ≡ giving i before after old.0
    pub none : now.1 ≡ []

  pub gave_is : (slots i number found : ℕ) (x : Held E) (old me now : Standing E) → number ≡ suc i → me ≡ holding old i (Body x)
      → MayGive old.0 old.0.stage number x.node → old.1 ≡ slots_at old.0.stage
      → plays.gave (step slots i 0 0 maybe.none) me found now → Gave old now i x.node
  gave_is slots i number found x old me now e is may has told =
      let m = may_is old.0 old.0.stage number i x.node e may in
      let told_of : plays.gave (step slots i 0 0 maybe.none) (holding old i (Body x)) found now =
      subst (λ (s : Standing E). plays.gave (step slots i 0 0 maybe.none) s found now) is told in
      let done = told_of x refl m.2.before m.2.took in record {
        before = m.2.before;
        took = m.2.took;
        known = done.0;
        none = done.1 ∙ ap rest (has ∙ ap slots_at m.1);
      }

  pub given_told : (old now : Standing E) (i : ℕ) (after : Node) → Gave old now i after
      → (before : Node) → slice_get old.0.seen i ≡ Some before → now.0 ≡ giving i before after old.0
  given_told old now i after g before took = g.known ∙ ap (λ (b : Node). giving i b after old.0) (one g.before before (sym g.took ∙ took))
    where
      one : (a b : Node) → ◌≡◌ {A = Option Node} (Some a) (Some b) → a ≡ b
      one a b e = some_node a b e

  -- what an exchange of a node's word that found 0 tells
  pub top_is : (old now : Standing E) (slots i found : ℕ) → plays.took (step slots i 0 1 maybe.none) old found now → found ≡ 0
      → (y : Slot E) × (now.1 ≡ (i, y) ∷ rest now.1)
  top_is old now slots i found told e = let t = told.0 e in
      (Body t.0, t.5 ∙ ap (λ (l : List (ℕ × Slot E)). (i, Body t.0) ∷ l) (sym (ap rest t.5)))

  pub reach_top : (old now : Standing E) (slots i found : ℕ) → plays.reached (step slots i 0 2 maybe.none) old found now → found ≡ 0
      → (y : Slot E) × (now.1 ≡ (i, y) ∷ rest now.1)
  reach_top old now slots i found told e = let t = told.0 e in
      (Nothing, t.1 ∙ ap (λ (l : List (ℕ × Slot E)). (i, Nothing) ∷ l) (sym (ap rest t.1)))

  pub fetch_top : (old now : Standing E) (slots i found : ℕ) → plays.fetched (step slots i 1 2 maybe.none) old found now → found ≡ 1
      → (y : Slot E) × (now.1 ≡ (i, y) ∷ rest now.1)
  fetch_top old now slots i found told e = let t = told.0 e in
      (Reply t.0, t.5 ∙ ap (λ (l : List (ℕ × Slot E)). (i, Reply t.0) ∷ l) (sym (ap rest t.5)))

  -- the steps on a cell, by the number of its word
  pub reaches_at : (t : Terms) (slots id q i : ℕ) (me : Standing E) → i ≡ t.nodes + q → q < clients_of t → me.0.stage ≡ Idle → 0 < me.0.parts
      → Allows (Kept t) slots id me i (λ z. either (eqb z 0) 2 z) (plays.reached (step slots i 0 2 maybe.none) me)
  reaches_at t slots id q i me e low idle some_part =
      subst (λ (w : ℕ). Allows (Kept t) slots id me w (λ z. either (eqb z 0) 2 z) (plays.reached (step slots w 0 2 maybe.none) me)) (sym e)
      (reaches t slots id q me low idle some_part)

  pub fetches_at : (t : Terms) (slots id q i : ℕ) (me : Standing E) → i ≡ t.nodes + q → q < clients_of t → me.0.stage ≡ Idle → 0 < me.0.parts
      → Allows (Kept t) slots id me i (λ z. either (eqb z 1) 2 z) (plays.fetched (step slots i 1 2 maybe.none) me)
  fetches_at t slots id q i me e low idle some_part =
      subst (λ (w : ℕ). Allows (Kept t) slots id me w (λ z. either (eqb z 1) 2 z) (plays.fetched (step slots w 1 2 maybe.none) me)) (sym e)
      (fetches t slots id q me low idle some_part)

  -- with the cell in hand, and the answer in its slot
  pub posts_at : (t : Terms) (slots id q i : ℕ) (a : Answer) (me : Standing E) → i ≡ t.nodes + q → me.0.stage ≡ HasCell q → me.1 ≡ (i, Reply a) ∷ rest me.1
      → IsTrueOf t me.0.seen (suc q) a → 0 < me.0.parts
      → Allows (Kept t) slots id me i (λ _. 1) (plays.posted (step slots i 1 0 maybe.none) me)
  posts_at t slots id q i a me e stage has true_ some_part =
      subst (λ (w : ℕ). Allows (Kept t) slots id me w (λ _. 1) (plays.posted (step slots w 1 0 maybe.none) me)) (sym e)
      (posts t slots id q a me stage (subst (λ (w : ℕ). me.1 ≡ (w, Reply a) ∷ rest me.1) e has) true_ some_part)

  pub clears_at : (t : Terms) (slots id q i : ℕ) (me : Standing E) → i ≡ t.nodes + q → me.0.stage ≡ HasCell q → me.1 ≡ (i, Nothing) ∷ rest me.1 → 0 < me.0.parts
      → Allows (Kept t) slots id me i (λ _. 0) (plays.left_cell (step slots i 0 0 maybe.none) me)
  clears_at t slots id q i me e stage has some_part =
      subst (λ (w : ℕ). Allows (Kept t) slots id me w (λ _. 0) (plays.left_cell (step slots w 0 0 maybe.none) me)) (sym e)
      (clears t slots id q me stage (subst (λ (w : ℕ). me.1 ≡ (w, Nothing) ∷ rest me.1) e has) some_part)

  -- the seat has the empty cell, and then what is to be posted lies there
  pub record Reached (old me : Standing E) (i place : ℕ) : Type 0 where
    pub known : me.0 ≡ reaching i place old.0
    pub slots : me.1 ≡ (i, Nothing) ∷ old.1

  pub reached_is : (old me : Standing E) (slots i found : ℕ) → plays.reached (step slots i 0 2 maybe.none) old found me → found ≡ 0
      → Reached old me i (i - old.0.terms.nodes)
  reached_is old me slots i found told e = record { known = (told.0 e).0; slots = (told.0 e).1 }

  pub record FetchedIt (t : Terms) (old me : Standing E) (i place client : ℕ) : Type 0 where
    pub answer : Answer
    pub at : World
    pub now : IsNow old.0 at
    pub true_ : IsTrueOf t at client answer
    pub known : me.0 ≡ fetching i place answer at old.0
    pub slots : me.1 ≡ (i, Reply answer) ∷ old.1

  pub fetched_is : (old me : Standing E) (slots i found : ℕ) → plays.fetched (step slots i 1 2 maybe.none) old found me → found ≡ 1
      → FetchedIt old.0.terms old me i (i - old.0.terms.nodes) (suc (i - old.0.terms.nodes))
  fetched_is old me slots i found told e = let t = told.0 e in
      record { answer = t.0; at = t.1; now = t.2; true_ = t.3; known = t.4; slots = t.5 }

  pub post_ready : (t : Terms) (slots id q i client : ℕ) (a : Answer) (old me now : Standing E) → i ≡ t.nodes + q → client ≡ suc q → old.0.terms ≡ t
      → Reached old me i (i - old.0.terms.nodes) → now ≡ (me.0, (i, Reply a) ∷ rest me.1) → IsTrueOf t old.0.seen client a → 0 < old.0.parts
      → Allows (Kept t) slots id now i (λ _. 1) (plays.posted (step slots i 1 0 maybe.none) now)
  post_ready t slots id q i client a old me now e is_client terms r is true_ some_part =
      let place : i - old.0.terms.nodes ≡ q = let n = ap (λ (u : Terms). u.nodes) terms in omega (arith, n, e) in
      let known : now.0 ≡ reaching i (i - old.0.terms.nodes) old.0 = ap (λ (s : Standing E). s.0) is ∙ r.known in
      posts_at t slots id q i a now e (ap (λ (v : Knowledge). v.stage) known ∙ ap HasCell place)
      (ap (λ (s : Standing E). s.1) is ∙ ap (λ (l : List (ℕ × Slot E)). (i, Reply a) ∷ l) (sym (ap (λ (s : Standing E). rest s.1) is)))
      (subst (λ (v : Knowledge). IsTrueOf t v.seen (suc q) a) (sym known) (subst (λ (n : ℕ). IsTrueOf t old.0.seen n a) is_client true_))
      (subst (λ (v : Knowledge). 0 < v.parts) (sym known) some_part)

  pub clear_ready : (t : Terms) (slots id q i client : ℕ) (old me now : Standing E) → i ≡ t.nodes + q → old.0.terms ≡ t
      → FetchedIt old.0.terms old me i (i - old.0.terms.nodes) client → now ≡ (me.0, (i, Nothing) ∷ rest me.1) → 0 < old.0.parts
      → Allows (Kept t) slots id now i (λ _. 0) (plays.left_cell (step slots i 0 0 maybe.none) now)
  clear_ready t slots id q i client old me now e terms r is some_part =
      let place : i - old.0.terms.nodes ≡ q = let n = ap (λ (u : Terms). u.nodes) terms in omega (arith, n, e) in
      let known : now.0 ≡ fetching i (i - old.0.terms.nodes) r.answer r.at old.0 = ap (λ (s : Standing E). s.0) is ∙ r.known in
      clears_at t slots id q i now e (ap (λ (v : Knowledge). v.stage) known ∙ ap HasCell place)
      (ap (λ (s : Standing E). s.1) is ∙ ap (λ (l : List (ℕ × Slot E)). (i, Nothing) ∷ l) (sym (ap (λ (s : Standing E). rest s.1) is)))
      (subst (λ (v : Knowledge). 0 < v.parts) (sym known) some_part)

  -- what lay in the slot is the answer
  pub lay_there : (t : Terms) (old me : Standing E) (i place client : ℕ) (y : Slot E) → (r : FetchedIt t old me i place client)
      → me.1 ≡ (i, y) ∷ rest me.1 → y ≡ Reply r.answer
  lay_there t old me i place client y r is = ap top (sym is ∙ r.slots)
    where
      top : List (ℕ × Slot E) → Slot E
      top [] = Nothing
      top (x ∷ xs) = x.1

  -- after the cell went home the seat is at rest
  pub record Rested (old now : Standing E) (v : Knowledge) : Type 0 where
    pub known : now.0 ≡ at_rest v
    pub none : now.1 ≡ []

  pub record PostedIt (old now : Standing E) (i place : ℕ) (a : Answer) : Type 0 where
    pub known : now.0 ≡ posting i a (reaching i place old.0)
    pub none : now.1 ≡ []

  pub post_done : (slots i : ℕ) (a : Answer) (old me now after : Standing E) (found : ℕ) → old.1 ≡ slots_at old.0.stage → old.0.stage ≡ Idle
      → Reached old me i (i - old.0.terms.nodes) → now ≡ (me.0, (i, Reply a) ∷ rest me.1)
      → plays.posted (step slots i 1 0 maybe.none) now found after → PostedIt old after i (i - old.0.terms.nodes) a
  post_done slots i a old me now after found calm idle r is told =
      let done = (subst (λ (s : Standing E). plays.posted (step slots i 1 0 maybe.none) s found after) is told) a refl in record {
        known = done.0 ∙ ap (posting i a) r.known;
        none = done.1 ∙ ap rest r.slots ∙ calm ∙ ap slots_at idle;
      }

  pub fetch_done : (slots i client : ℕ) (old me now after : Standing E) (found : ℕ) → old.1 ≡ slots_at old.0.stage → old.0.stage ≡ Idle
      → (r : FetchedIt old.0.terms old me i (i - old.0.terms.nodes) client) → now ≡ (me.0, (i, Nothing) ∷ rest me.1)
      → plays.left_cell (step slots i 0 0 maybe.none) now found after → Rested old after (fetching i (i - old.0.terms.nodes) r.answer r.at old.0)
  fetch_done slots i client old me now after found calm idle r is told = record {
    known = told.0 ∙ ap at_rest (ap (λ (s : Standing E). s.0) is ∙ r.known);
    none = told.1 ∙ ap (λ (s : Standing E). rest s.1) is ∙ ap rest r.slots ∙ calm ∙ ap slots_at idle;
  }
