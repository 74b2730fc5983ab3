-- What a closed switch leaves.
use Rattle.std.proofs.Common.{◌≡◌, ℕ, zero, suc, ◌+◌, ◌-◌, ◌<◌, ◌≤◌, Bool, false, List, [], ◌∷◌, ◌++◌, length, set, get_or, refl, ap, sym, ◌∙◌, arith, subst, slice_index_or, slice_get, take, Some}
use Rattle.std.proofs.lemmas.List.{get_or-set_other}
use mathlib.Core.Option as maybe
use mathlib.Core.Option.{some-injective, some-ne-none}
use mathlib.Core.Logic.{dite}
use native.Mathlib.Decide.{ℕ_discrete}
use lib.ListN.{get_elem?}
use Rattle.atomic_table.specs.Table.{State, Final, Seen}
use Rattle.rp_passes.proofs.Tally.{no_part, alone}
use Rattle.rp_clients.specs.Tries.{Try}
use Rattle.rp_clients.specs.declared.answers.Answer.{Answer}
use Rattle.rp_events.specs.Nodes.{Node}
use Rattle.rp_events.specs.Worlds.{World, node_of}
use Rattle.rp_events.specs.Lawful.{IsReached}
use Rattle.rp_journals.proofs.Growing.{some_node}
use Rattle.rp_node.specs.Steps.{Held}
use Rattle.rp_race.specs.Gives.{Tried, AllSeen}
use Rattle.rp_race.specs.Played.{IsTriesOf}
use Rattle.rp_race.specs.Race.{IsRace}
use Rattle.rp_switch.specs.Openings.{bare}
use Rattle.rp_switch.specs.Closings.{body_in, bodies, IsEmptiedTo}
use Rattle.rp_switch.specs.Seats.{Closes, is_broken}
use Rattle.rp_switch.specs.Gifts.{tries_known, IsTries}
use Rattle.rp_switch.specs.declared.slots.Slot.{Slot}
use Rattle.rp_switch.specs.declared.slots.Slot.TheVariants.{Nothing, Body, Reply}
use Rattle.rp_switch.specs.declared.terms.Terms.{Terms}
use Rattle.rp_switch.specs.Views.{Right, Lacks, Tries, Rounds, BrokenOff, Stage, Idle, HasNode, Knowledge, all_parts, right_at}
use Rattle.rp_switch.specs.Rules.{Phase, home, out, InPhase, RightOf, AllHeard, IsWhole, weight, right_on, Kept, clients_of, size_of}
use Rattle.rp_switch.proofs.Nows.{agrees, some_nodes}
use Rattle.rp_switch.proofs.Lifts.{reached_length, low_node}
use Rattle.rp_switch.proofs.Parting.{none_at}

append_nothing : {X : Type 0} (xs : List X) → xs ≡ xs ++ []
append_nothing [] = refl
append_nothing (x ∷ xs) = ap (λ l. x ∷ l) (append_nothing xs)

append_assoc : {X : Type 0} (xs ys zs : List X) → (xs ++ ys) ++ zs ≡ xs ++ (ys ++ zs)
append_assoc [] ys zs = refl
append_assoc (x ∷ xs) ys zs = ap (λ l. x ∷ l) (append_assoc xs ys zs)

set_false : (fs : List Bool) (i : ℕ) → get_or (set fs i false) i false ≡ false
set_false [] zero = refl
set_false [] (suc i) = refl
set_false (f ∷ fs) zero = refl
set_false (f ∷ fs) (suc i) = set_false fs i

-- one more slot is emptied
pub emptied_next : (filled after : List Bool) (place count : ℕ) → after ≡ set filled place false → IsEmptiedTo place count filled → IsEmptiedTo (place + 1) count after
emptied_next filled after place count is known = record {
  rest = λ k low high. ap (λ (l : List Bool). slice_index_or l k false) is ∙ get_or-set_other filled place k false false (λ e. omega (arith, e, low)) ∙ known.rest k (omega (arith, low)) high;
  gone = λ k low. ap (λ (l : List Bool). slice_index_or l k false) is ∙ dite (ℕ_discrete k place)
      (λ e. subst (λ z. get_or (set filled place false) z false ≡ false) (sym e) (set_false filled place))
      (λ away. get_or-set_other filled place k false false away ∙ known.gone k (omega (arith, low, away)));
}

found_slot : {X : Type 0} (xs : List X) (k : ℕ) (x d : X) → get_elem? xs k ≡ maybe.some x → slice_index_or xs k d ≡ x
found_slot [] k x d e = absurd (some-ne-none x (sym e))
found_slot (y ∷ ys) zero x d e = some-injective y x e
found_slot (y ∷ ys) (suc k) x d e = found_slot ys k x d e

module _ {E : Type 0} where
  pub found_there : (xs : List (Slot E)) (k : ℕ) (x : Slot E) → get_elem? xs k ≡ maybe.some x → slice_index_or xs k Nothing ≡ x
  found_there xs k x e = found_slot xs k x Nothing e

  pub body_there : (xs : List (Slot E)) (k : ℕ) (y : Slot E) (x : Held E) (now was : List (Held E)) → get_elem? xs k ≡ maybe.some y → y ≡ Body x
      → now ≡ was ++ x ∷ [] → now ≡ was ++ body_in (slice_index_or xs k Nothing)
  body_there xs k y x now was e is pushed = pushed ∙ ap (λ (z : Slot E). was ++ body_in z) (sym (found_there xs k y e ∙ is))

  pub nothing_there : (xs : List (Slot E)) (k : ℕ) (y : Slot E) (was : List (Held E)) → get_elem? xs k ≡ maybe.some y → y ≡ Nothing
      → was ≡ was ++ body_in (slice_index_or xs k Nothing)
  nothing_there xs k y was e is = append_nothing was ∙ ap (λ (z : Slot E). was ++ body_in z) (sym (found_there xs k y e ∙ is))

  pub reply_there : (xs : List (Slot E)) (k : ℕ) (y : Slot E) (a : Answer) (was : List (Held E)) → get_elem? xs k ≡ maybe.some y → y ≡ Reply a
      → was ≡ was ++ body_in (slice_index_or xs k Nothing)
  reply_there xs k y a was e is = append_nothing was ∙ ap (λ (z : Slot E). was ++ body_in z) (sym (found_there xs k y e ∙ is))

  pub bodies_none : (slots : List (Slot E)) (xs : List (Held E)) → xs ≡ xs ++ bodies 0 slots
  unfolding bodies
  bodies_none slots xs = append_nothing xs

  pub bodies_next : (k : ℕ) (slots : List (Slot E)) (before now after : List (Held E)) → now ≡ before ++ bodies k slots
      → after ≡ now ++ body_in (slice_index_or slots k Nothing) → after ≡ before ++ bodies (k + 1) slots
  unfolding bodies
  bodies_next k slots before now after is next =
      next ∙ ap (λ l. l ++ body_in (slice_index_or slots k Nothing)) is ∙ append_assoc before (bodies k slots) (body_in (slice_index_or slots k Nothing))
      ∙ ap (λ z. before ++ bodies z slots) (suc_is k)
    where
      suc_is : (n : ℕ) → suc n ≡ n + 1
      suc_is n = omega arith

-- one more of the first nodes
take_next : (w : World) (k : ℕ) (n : Node) → slice_get w k ≡ Some n → take (suc k) w ≡ take k w ++ n ∷ []
take_next [] k n e = absurd (cc)
take_next (x ∷ xs) zero n e = ap (λ (y : Node). y ∷ []) (some_node x n e)
take_next (x ∷ xs) (suc k) n e = ap (λ l. x ∷ l) (take_next xs k n e)

take_all : (w : World) → take (length w) w ≡ w
take_all [] = refl
take_all (x ∷ xs) = ap (λ l. x ∷ l) (take_all xs)

module _ {E : Type 0} where
  bare_append : (xs ys : List (Held E)) → bare (xs ++ ys) ≡ bare xs ++ bare ys
  bare_append [] ys = refl
  bare_append (x ∷ xs) ys = ap (λ l. x.node ∷ l) (bare_append xs ys)

  -- where each of the first slots has the world's node, the nodes in them are the world's
  first_bodies : (w : World) (slots : List (Slot E)) (k : ℕ)
      → ((place : ℕ) → place < k → (x : Held E) × (slice_index_or slots place Nothing ≡ Body x) × (slice_get w place ≡ Some x.node))
      → bare (bodies k slots) ≡ take k w
  unfolding bodies
  first_bodies w slots zero each = refl
  first_bodies w slots (suc k) each =
      let last = each k (omega arith) in
      bare_append (bodies k slots) (body_in (slice_index_or slots k Nothing))
      ∙ ap (λ l. bare (bodies k slots) ++ l) (ap (λ (y : Slot E). bare (body_in y)) last.1)
      ∙ ap (λ l. l ++ last.0.node ∷ []) (first_bodies w slots k (λ place low. each place (omega (arith, low))))
      ∙ sym (take_next w k last.0.node last.2)

  -- no node is out with another seat, where one seat has all parts and none
  nothing_out : (t : Terms) (s : State (Slot E) Knowledge) (k : Kept t s) (id : ℕ) (v : Knowledge) → get_elem? s.views id ≡ maybe.some v
      → v.parts ≡ all_parts → v.stage ≡ Idle → (place : ℕ) (p : Phase) → k.phases place ≡ p → p ≡ home
  nothing_out t s k id v at all idle place home is = refl
  nothing_out t s k id v at all idle place (out j) is =
      let with_it = k.with_seat place j is in
      dite (ℕ_discrete j id)
      (λ e. let same : v ≡ with_it.view = some-injective v with_it.view (sym at ∙ ap (get_elem? s.views) (sym e) ∙ with_it.at) in
      absurd (not_idle (with_it.has) (ap (λ (u : Knowledge). u.stage) (sym same) ∙ idle)))
      (λ away. let none = no_part (λ (u : Knowledge). u.parts) s.views id j v with_it.view away at with_it.at (k.parted ∙ sym all) in
      absurd (not_idle (with_it.has) (ap (λ (u : Knowledge). u.stage) ((k.each_seat j with_it.view with_it.at).spent none))))
    where
      not_idle : {st : Stage} {q : ℕ} {world : World} → st ≡ HasNode q world → st ≡ Idle → ⊥
      not_idle {st} {q} {world} a b = differ (sym b ∙ a)
        where
          differ : Idle ≡ HasNode q world → ⊥
          differ e = cc

  at_home : (t : Terms) (s : State (Slot E) Knowledge) (k : Kept t s) (slots : List (Slot E))
      → ((place : ℕ) (y : Slot E) → get_elem? s.homes place ≡ maybe.some (maybe.some y) → get_elem? slots place ≡ maybe.some y)
      → (place : ℕ) (p : Phase) → p ≡ home → InPhase s.homes k.world place p
      → (x : Held E) × (slice_index_or slots place Nothing ≡ Body x) × (slice_get k.world place ≡ Some x.node)
  at_home t s k slots gives place home e is = (is.0, found_there slots place (Body is.0) (gives place (Body is.0) is.1), is.2)
  at_home t s k slots gives place (out j) e is = absurd (cc)

-- a right to rounds that is whole tells that none was broken off
unbroken : (t : Terms) (tries : Tried) (broken : ℕ → Bool) (k : ℕ) (r : Right) → k < t.nodes → 1 ≤ weight r → RightOf t tries broken k r
    → is_broken r ≡ false → broken (suc k) ≡ false
unbroken t tries broken k Lacks low some known e = absurd (omega (arith, some))
unbroken t tries broken k (Tries ts) low some known e = let past = known.0 in absurd (omega (arith, past, low))
unbroken t tries broken k Rounds low some known e = known.1
unbroken t tries broken k BrokenOff low some known e = absurd (cc)

carried_there : (t : Terms) (tries : Tried) (broken : ℕ → Bool) (k : ℕ) (r : Right) → t.nodes ≤ k → 1 ≤ weight r → RightOf t tries broken k r → IsTries r
carried_there t tries broken k Lacks past some known = absurd (omega (arith, some))
carried_there t tries broken k (Tries ts) past some known = tt
carried_there t tries broken k Rounds past some known = let low = known.0 in absurd (omega (arith, past, low))
carried_there t tries broken k BrokenOff past some known = absurd (omega (arith, past, known))

module _ {E : Type 0} where
  -- the seat that has all parts has each right
  has_each : (t : Terms) (s : State (Slot E) Knowledge) (k : Kept t s) (id : ℕ) (v : Knowledge) → get_elem? s.views id ≡ maybe.some v
      → v.parts ≡ all_parts → (q : ℕ) → q < size_of t → 1 ≤ weight (right_at v.rights q)
  has_each t s k id v at all q low =
      let sum = alone (right_on q) (λ (u : Knowledge). u.parts) s.views id v at (k.parted ∙ sym all)
      (λ j u e none_left. ap (right_on q) ((k.each_seat j u e).spent none_left) ∙ ap weight (none_at q)) in
      let some = k.there q low in omega (arith, sum, some)

  pub settles : (t : Terms) (id : ℕ) (v : Knowledge) (words : List ℕ) (slots : List (Slot E)) → v.parts ≡ all_parts → v.stage ≡ Idle
      → Final (Seen (Kept t) id v) words slots → Closes v (bare (bodies t.nodes slots))
  settles t id v words slots all idle final =
      let s = final.0 in
      let k = final.1.0 in
      let at = final.1.1 in
      let known = k.each_seat id v at in
      let full_ : IsWhole t k.world v = known.whole (omega (arith, all)) in
      let terms = full_.terms in
      let nodes : v.terms.nodes ≡ t.nodes = ap (λ (u : Terms). u.nodes) terms in
      let clients : clients_of v.terms ≡ clients_of t = ap clients_of terms in
      let some = some_nodes t k.world k.reached in
      let there : bare (bodies t.nodes slots) ≡ k.world =
      first_bodies k.world slots t.nodes (λ place low. at_home t s k slots final.4 place (k.phases place) (nothing_out t s k id v at all idle place (k.phases place) refl) (k.nodes place low).1)
      ∙ ap (λ m. take m k.world) (sym (reached_length t.nodes k.world k.reached)) ∙ take_all k.world in
      subst (λ (w : World). Closes v w) (sym there) (record {
        reached = subst (λ (u : Terms). IsReached u.nodes k.world) (sym terms) k.reached;
        race = subst (λ (u : Terms). IsRace u.rules (λ node. is_broken (right_at v.rights (node - 1))) k.world) (sym terms) (record {
          order = k.race.order;
          heard = k.race.heard;
          whole = λ node n has e. k.race.whole node n has (whole_at t s k id v at all node n has e);
          owed = k.race.owed;
          in_turn = k.race.in_turn;
        });
        past = subst (λ (u : Terms). AllSeen u.nodes v.seen k.world) (sym terms) full_.seen;
        heard = subst (λ (u : Terms). AllHeard u.nodes v.joined k.world) (sym terms) full_.heard;
        admitted = full_.admitted;
        carries = λ client first last.
            carried_there t k.tries k.broken (v.terms.nodes + client - 1) (right_at v.rights (v.terms.nodes + client - 1)) (omega (arith, nodes, first))
            (has_each t s k id v at all (v.terms.nodes + client - 1) (omega (arith, nodes, clients, first, last))) (known.rights (v.terms.nodes + client - 1));
        tries = λ client carries. subst (λ (u : Terms). IsTriesOf u.rules k.world client (tries_known v client)) (sym terms)
            (subst (λ (ts : List Try). IsTriesOf t.rules k.world client ts) (sym (agrees t k.tries k.broken v some terms known.rights client carries)) (k.each_client client));
        each_client = λ client. (k.tries client, subst (λ (u : Terms). IsTriesOf u.rules k.world client (k.tries client)) (sym terms) (k.each_client client));
      })
    where
      whole_at : (t : Terms) (s : State (Slot E) Knowledge) (k : Kept t s) (id : ℕ) (v : Knowledge) → get_elem? s.views id ≡ maybe.some v
          → v.parts ≡ all_parts → (node : ℕ) (n : Node) → node_of k.world node ≡ Some n → is_broken (right_at v.rights (node - 1)) ≡ false → k.broken node ≡ false
      whole_at t s k id v at all zero n has e = absurd (cc)
      whole_at t s k id v at all (suc q) n has e =
          let low = low_node k.world q n has in
          let long = reached_length t.nodes k.world k.reached in
          unbroken t k.tries k.broken q (right_at v.rights q) (omega (arith, low, long))
          (has_each t s k id v at all q (omega (arith, low, long))) ((k.each_seat id v at).rights q)
          (ap (λ i. is_broken (right_at v.rights i)) (omega arith) ∙ e)
