-- What shows that no more is to be waited for, as a test of nodes.
use Rattle.std.proofs.Common.{◌≡◌, ℕ, zero, suc, ◌+◌, ◌<◌, ◌≤◌, Bool, true, false, ◌&&◌, ◌||◌, List, [], ◌∷◌, ◌++◌, refl, sym, ap, subst, ◌∙◌, arith, slice_get, Some, None, le-leb}
use Rattle.std.specs.Prelude.{nat_le}
use Rattle.std.specs.List.{list_any, list_all}
use Rattle.std.proofs.lemmas.Bool.{leb-true}
use Rattle.rp_events.specs.Lawful.{IsReached}
use Rattle.rp_events.specs.Nodes.{Node}
use Rattle.rp_events.specs.Worlds.{World, node_of}
use Rattle.rp_race.specs.Ends.{IsWaitedOutForGood, patience}
use Rattle.rp_switch.specs.Rules.{AllHeard}
use Rattle.rp_switch.specs.Views.{Knowledge, both}
use Rattle.rp_tried.proofs.Seen.{seen_waited}
use Rattle.rp_desks.specs.Onward.{is_waited_out, heard_over}

module _ {X : Type 0} (p : X → Bool) where
  pub both_true : (a b : Bool) → a ≡ true → b ≡ true → (a && b) ≡ true
  both_true true b e f = f
  both_true false b e f = absurd cc

  pub left_true : (a b : Bool) → (a && b) ≡ true → a ≡ true
  left_true true b e = refl
  left_true false b e = absurd cc

  pub right_true : (a b : Bool) → (a && b) ≡ true → b ≡ true
  right_true true b e = e
  right_true false b e = absurd cc

  all_so : (xs : List X) → ((k : ℕ) (x : X) → slice_get xs k ≡ Some x → p x ≡ true) → list_all p xs ≡ true
  all_so [] each = refl
  all_so (x ∷ xs) each = both_true (p x) (list_all p xs) (each 0 x refl) (all_so xs (λ k y e. each (suc k) y e))

  some_x : (a b : X) → ◌≡◌ {A = _} (Some a) (Some b) → a ≡ b
  some_x a b e = cc

  all_is : (xs : List X) → list_all p xs ≡ true → (k : ℕ) (x : X) → slice_get xs k ≡ Some x → p x ≡ true
  all_is [] all k x e = absurd cc
  all_is (y ∷ xs) all zero x e = subst (λ z. p z ≡ true) (some_x y x e) (left_true (p y) (list_all p xs) all)
  all_is (y ∷ xs) all (suc k) x e = all_is xs (right_true (p y) (list_all p xs) all) k x e

  or_left : (a b : Bool) → a ≡ true → (a || b) ≡ true
  or_left true b e = refl
  or_left false b e = absurd cc

  or_right : (a b : Bool) → b ≡ true → (a || b) ≡ true
  or_right true b e = refl
  or_right false b e = e

  any_so : (xs : List X) (k : ℕ) (x : X) → slice_get xs k ≡ Some x → p x ≡ true → list_any p xs ≡ true
  any_so [] k x e is = absurd cc
  any_so (y ∷ xs) zero x e is = or_left (p y) (list_any p xs) (subst (λ z. p z ≡ true) (sym (some_x y x e)) is)
  any_so (y ∷ xs) (suc k) x e is = or_right (p y) (list_any p xs) (any_so xs k x e is)

  -- one that passes stands at a place
  pub record Passes (xs : List X) : Type 0 where
    pub place : ℕ
    pub one : X
    pub here : slice_get xs place ≡ Some one
    pub is : p one ≡ true

  pub any_is : (xs : List X) → list_any p xs ≡ true → Passes xs
  any_is [] e = absurd cc
  any_is (y ∷ xs) e = go (any_is xs) (p y) refl where
    go : (list_any p xs ≡ true → Passes xs) → (b : Bool) → p y ≡ b → Passes (y ∷ xs)
    go more true is = record { place = 0; one = y; here = refl; is = is }
    go more false is =
        let s = more (ap (λ b. b || list_any p xs) (sym is) ∙ e) in
        record { place = suc s.place; one = s.one; here = s.here; is = s.is }

  pub any_front : (xs ys : List X) → list_any p xs ≡ true → list_any p (xs ++ ys) ≡ true
  any_front [] ys e = absurd cc
  any_front (x ∷ xs) ys e = go (any_front xs ys) (p x) refl where
    go : (list_any p xs ≡ true → list_any p (xs ++ ys) ≡ true) → (b : Bool) → p x ≡ b → list_any p (x ∷ xs ++ ys) ≡ true
    go more true is = or_left (p x) (list_any p (xs ++ ys)) is
    go more false is = or_right (p x) (list_any p (xs ++ ys)) (more (ap (λ b. b || list_any p xs) (sym is) ∙ e))

  pub any_back : (xs ys : List X) → list_any p ys ≡ true → list_any p (xs ++ ys) ≡ true
  any_back [] ys e = e
  any_back (x ∷ xs) ys e = or_right (p x) (list_any p (xs ++ ys)) (any_back xs ys e)

node_at : (w : World) (node : ℕ) (n : Node) → node_of w node ≡ Some n → (k : ℕ) × (slice_get w k ≡ Some n)
node_at w zero n e = absurd cc
node_at w (suc k) n e = (k, e)

pub waited_so : (rounds : ℕ) (w : World) → IsWaitedOutForGood rounds w → is_waited_out rounds w ≡ true
waited_so rounds w h =
    let there = node_at w h.node h.n h.has in
    both_true {X = Node} (λ n. true) _ _
    (all_so (λ (n : Node). nat_le rounds n.rounds) w (λ k n e. le-leb rounds n.rounds (h.each (suc k) n e)))
    (any_so (λ (n : Node). nat_le rounds n.waited) w there.0 h.n there.1 (le-leb rounds h.n.waited h.waited))

pub waited_is : (rounds : ℕ) (w : World) → is_waited_out rounds w ≡ true → IsWaitedOutForGood rounds w
waited_is rounds w e =
    let all = left_true {X = Node} (λ n. true) (list_all (λ (n : Node). nat_le rounds n.rounds) w) (list_any (λ (n : Node). nat_le rounds n.waited) w) e in
    let any = any_is (λ (n : Node). nat_le rounds n.waited) w
    (right_true {X = Node} (λ n. true) (list_all (λ (n : Node). nat_le rounds n.rounds) w) (list_any (λ (n : Node). nat_le rounds n.waited) w) e) in
    record {
      each = λ node n has. let there = node_at w node n has in leb-true rounds n.rounds (all_is (λ (n : Node). nat_le rounds n.rounds) w all there.0 n there.1);
      node = suc any.place;
      n = any.one;
      has = any.here;
      waited = leb-true rounds any.one.waited any.is;
    }

pub heard_left : (v w : Knowledge) → heard_over v ≡ true → heard_over (both v w) ≡ true
heard_left v w e = any_front (is_waited_out (patience v.terms.rules)) v.joined (w.seen ∷ w.joined) e

pub heard_right : (v w : Knowledge) → w.terms ≡ v.terms → heard_over w ≡ true → heard_over (both v w) ≡ true
heard_right v w same e =
    any_back (is_waited_out (patience v.terms.rules)) v.joined (w.seen ∷ w.joined)
    (or_right {X = Node} (λ n. true) _ _ (subst (λ t. list_any (is_waited_out (patience t.rules)) w.joined ≡ true) same e))

pub heard_so : (v : Knowledge) (w : World) → IsReached v.terms.nodes w → AllHeard v.terms.nodes v.joined w → heard_over v ≡ true
    → IsWaitedOutForGood (patience v.terms.rules) w
heard_so v w reached heard e =
    let s = any_is (is_waited_out (patience v.terms.rules)) v.joined e in
    seen_waited v.terms.nodes (patience v.terms.rules) s.one w reached (heard s.place s.one s.here) (waited_is (patience v.terms.rules) s.one s.is)
