-- Queues, as attempts come and go, and the first of all.
use Rattle.std.proofs.Common.{◌≡◌, ℕ, zero, suc, ◌+◌, ◌<◌, ◌≤◌, ◌==◌, eqb, ◌&&◌, ◌||◌, not, Bool, true, false, cond, List, [], ◌∷◌, length, Option, None, Some, IsTrue, refl, sym, ap, subst, ◌∙◌, arith, eqb-true}
use Rattle.std.specs.Prelude.{slice_index_or, slice_set, sum_by}
use Rattle.std.specs.List.{list_any}
use Rattle.std.specs.Ordering.{is_lt, is_gt, ordering_reverse}
use Rattle.std.specs.declared.cmp.Ordering.{Ordering}
use Rattle.std.specs.declared.cmp.Ordering.TheVariants.{Less, Equal, Greater}
use Rattle.std.specs.BTreeMap.{is_at}
use Rattle.std.proofs.lemmas.Bool.{eqb-false}
use Rattle.std.proofs.lemmas.List.Sums.{sum_by-set}
use Rattle.rp_base.specs.Ids.{cmd_cmp, same_id}
use Rattle.rp_base.specs.declared.ids.CmdId.{CmdId}
use Rattle.rp_base.proofs.IdLaws.{at_same, same_back, cmd_not_both, cmd_before_too, cmd_total}
use Rattle.rp_book.specs.Queueing.{Queued, has, holds, is_passed, earlier_of, IsHead, IsFirst}

-- the order's test for being at an id, and that for being one with it, find the same
pub any_at : (id : CmdId) (ids : List CmdId) → list_any (is_at (cmd_cmp id)) ids ≡ has id ids
any_at id [] = refl
any_at id (x ∷ ids) = (λ i. at_same id x i || any_at id ids i)

or_is : (a b : Bool) → cond a true b ≡ (a || b)
or_is true b = refl
or_is false b = refl

and_is : (a b : Bool) → cond a false b ≡ (not a && b)
and_is true b = refl
and_is false b = refl

-- one queue changes
holds_here : (q : Queued) (queue : ℕ) (ids : List CmdId) (id : CmdId) → queue < length q → holds (slice_set q queue ids) queue id ≡ has id ids
holds_here [] queue ids id lt = absurd (omega (arith, lt))
holds_here (x ∷ q) zero ids id lt = refl
holds_here (x ∷ q) (suc queue) ids id lt = holds_here q queue ids id (omega (arith, lt))

holds_apart : (q : Queued) (queue k : ℕ) (ids : List CmdId) (id : CmdId) → (k ≡ queue → ⊥) → holds (slice_set q queue ids) k id ≡ holds q k id
holds_apart [] queue k ids id ne = refl
holds_apart (x ∷ q) zero zero ids id ne = absurd (ne refl)
holds_apart (x ∷ q) zero (suc k) ids id ne = refl
holds_apart (x ∷ q) (suc queue) zero ids id ne = refl
holds_apart (x ∷ q) (suc queue) (suc k) ids id ne = holds_apart q queue k ids id (λ e. ne (omega (arith, e)))

pub holds_set : (q : Queued) (queue k : ℕ) (ids : List CmdId) (id : CmdId) → queue < length q → holds (slice_set q queue ids) k id ≡ cond (k == queue) (has id ids) (holds q k id)
holds_set q queue k ids id lt = go (k == queue) refl where
  go : (b : Bool) → (k == queue) ≡ b → holds (slice_set q queue ids) k id ≡ cond b (has id ids) (holds q k id)
  go true e = ap (λ n. holds (slice_set q queue ids) n id) (eqb-true k queue e) ∙ holds_here q queue ids id lt
  go false e = holds_apart q queue k ids id (eqb-false k queue e)

pub inserted : (q : Queued) (queue : ℕ) (ids : List CmdId) (id : CmdId) → queue < length q
    → ((other : CmdId) → has other ids ≡ (same_id other id || holds q queue other))
    → (k : ℕ) (other : CmdId) → holds (slice_set q queue ids) k other ≡ ((k == queue && same_id other id) || holds q k other)
inserted q queue ids id lt new k other = holds_set q queue k ids other lt ∙ go (k == queue) refl where
  go : (b : Bool) → (k == queue) ≡ b → cond b (has other ids) (holds q k other) ≡ ((b && same_id other id) || holds q k other)
  go true e = new other ∙ ap (λ n. same_id other id || holds q n other) (sym (eqb-true k queue e))
  go false e = refl

pub removed : (q : Queued) (queue : ℕ) (ids : List CmdId) (id : CmdId) → queue < length q
    → ((other : CmdId) → has other ids ≡ (not (same_id other id) && holds q queue other))
    → (k : ℕ) (other : CmdId) → holds (slice_set q queue ids) k other ≡ (not (k == queue && same_id other id) && holds q k other)
removed q queue ids id lt new k other = holds_set q queue k ids other lt ∙ go (k == queue) refl where
  go : (b : Bool) → (k == queue) ≡ b → cond b (has other ids) (holds q k other) ≡ (not (b && same_id other id) && holds q k other)
  go true e = new other ∙ ap (λ n. not (same_id other id) && holds q n other) (sym (eqb-true k queue e))
  go false e = refl

-- nothing stands behind the queues
pub none_behind : (q : Queued) (k : ℕ) (id : CmdId) → length q ≤ k → holds q k id ≡ false
none_behind [] k id le = refl
none_behind (x ∷ q) zero id le = absurd (omega (arith, le))
none_behind (x ∷ q) (suc k) id le = none_behind q k id (omega (arith, le))

-- the order goes on
before_trans : (x y z : CmdId) → is_lt (cmd_cmp x y) ≡ true → is_lt (cmd_cmp y z) ≡ true → is_lt (cmd_cmp x z) ≡ true
before_trans x y z h e = cmd_before_too x y z (cmd_not_both x y h) e

-- what is not before a second, which is not before a third, is not before the third
behind_too : (x y z : CmdId) → is_lt (cmd_cmp x y) ≡ false → is_lt (cmd_cmp y z) ≡ false → is_lt (cmd_cmp x z) ≡ false
behind_too x y z h e = go (is_lt (cmd_cmp x z)) refl where
  go : (b : Bool) → is_lt (cmd_cmp x z) ≡ b → b ≡ false
  go true l = let both : is_lt (cmd_cmp y z) ≡ true = cmd_before_too y x z h l in cc
  go false l = refl

below_next : (k n : ℕ) → k < n + 1 → (k ≡ n → ⊥) → k < n
below_next k n lt ne = omega (arith, lt, ne)

-- a queue that is passed over changes nothing
pub first_passed : (q : Queued) (passed : List Bool) (n : ℕ) (found : Option (ℕ × CmdId)) → IsFirst q passed n found → is_passed passed n ≡ true → IsFirst q passed (n + 1) found
first_passed q passed n None h p = λ k id lt left. h k id (below_next k n lt (λ e. let l : is_passed passed n ≡ false = ap (is_passed passed) (sym e) ∙ left in cc)) left
first_passed q passed n (Some r) h p = record {
  queue_is = (let lt = h.queue_is in omega (arith, lt));
  left = h.left;
  stands = h.stands;
  least = λ k other lt left has. h.least k other (below_next k n lt (λ e. let l : is_passed passed n ≡ false = ap (is_passed passed) (sym e) ∙ left in cc)) left has;
}

-- what is not before one thing is not before an earlier one
not_before : (x y z : CmdId) → is_lt (cmd_cmp x y) ≡ false → is_lt (cmd_cmp z y) ≡ true → is_lt (cmd_cmp x z) ≡ false
not_before x y z h e = go (is_lt (cmd_cmp x z)) refl where
  go : (b : Bool) → is_lt (cmd_cmp x z) ≡ b → b ≡ false
  go true l = let both : is_lt (cmd_cmp x y) ≡ true = before_trans x z y l e in cc
  go false l = refl

-- a queue is looked at
nobody_here : (q : Queued) (passed : List Bool) (n k : ℕ) (id : CmdId) → IsHead (slice_index_or q n []) None → k ≡ n → holds q k id ≡ false
nobody_here q passed n k id h e = subst (λ j. holds q j id ≡ false) (sym e) (h id)

split : (k n : ℕ) {goal : Type 0} → k < n + 1 → (k < n → goal) → (k ≡ n → goal) → goal
split k n {goal = goal} lt below here = go (eqb k n) refl where
  go : (b : Bool) → eqb k n ≡ b → goal
  go true e = here (eqb-true k n e)
  go false e = below (below_next k n lt (λ same. absurd (eqb-false k n e same)))

-- what is before nothing of what was found, and the found one not before it
pub first_looked : (q : Queued) (passed : List Bool) (n : ℕ) (found : Option (ℕ × CmdId)) (head : Option CmdId)
    → IsFirst q passed n found → is_passed passed n ≡ false → IsHead (slice_index_or q n []) head → IsFirst q passed (n + 1) (earlier_of found n head)
first_looked q passed n None None h p l = λ k id lt left. split k n lt (λ below. h k id below left) (λ here. nobody_here q passed n k id l here)
first_looked q passed n (Some r) None h p l = record {
  queue_is = (let lt = h.queue_is in omega (arith, lt));
  left = h.left;
  stands = h.stands;
  least = λ k other lt left stands. split k n lt (λ below. h.least k other below left stands)
      (λ here. absurd (let no : holds q k other ≡ false = nobody_here q passed n k other l here in cc));
}
first_looked q passed n None (Some id) h p l = record {
  queue_is = omega arith;
  left = p;
  stands = l.0;
  least = λ k other lt left stands. split k n lt (λ below. absurd (let no : holds q k other ≡ false = h k other below left in cc))
      (λ here. l.1 other (subst (λ j. holds q j other ≡ true) here stands));
}
first_looked q passed n (Some r) (Some id) h p l = go (is_lt (cmd_cmp id r.1)) refl where
  go : (b : Bool) → is_lt (cmd_cmp id r.1) ≡ b → IsFirst q passed (n + 1) (cond b (Some (n, id)) (Some (r.0, r.1)))
  go true e = record {
    queue_is = omega arith;
    left = p;
    stands = l.0;
    least = λ k other lt left stands. split k n lt
        (λ below. not_before other r.1 id (h.least k other below left stands) e)
        (λ here. l.1 other (subst (λ j. holds q j other ≡ true) here stands));
  }
  go false e = record {
    queue_is = (let lt = h.queue_is in omega (arith, lt));
    left = h.left;
    stands = h.stands;
    least = λ k other lt left stands. split k n lt (λ below. h.least k other below left stands)
        (λ here. behind_too other id r.1 (l.1 other (subst (λ j. holds q j other ≡ true) here stands)) e);
  }

-- what a set of ids has, as one is put in or taken out
pub has_inserted : (id : CmdId) (ids new : List CmdId)
    → ((other : CmdId) → list_any (is_at (cmd_cmp other)) new ≡ cond (is_at (cmd_cmp id) other) true (list_any (is_at (cmd_cmp other)) ids))
    → (other : CmdId) → has other new ≡ (same_id other id || has other ids)
has_inserted id ids new h other =
    sym (any_at other new) ∙ h other
    ∙ ap (λ b. cond b true (list_any (is_at (cmd_cmp other)) ids)) (at_same id other ∙ same_back id other)
    ∙ ap (λ b. cond (same_id other id) true b) (any_at other ids)
    ∙ or_is (same_id other id) (has other ids)

pub has_removed : (id : CmdId) (ids new : List CmdId)
    → ((other : CmdId) → list_any (is_at (cmd_cmp other)) new ≡ cond (is_at (cmd_cmp id) other) false (list_any (is_at (cmd_cmp other)) ids))
    → (other : CmdId) → has other new ≡ (not (same_id other id) && has other ids)
has_removed id ids new h other =
    sym (any_at other new) ∙ h other
    ∙ ap (λ b. cond b false (list_any (is_at (cmd_cmp other)) ids)) (at_same id other ∙ same_back id other)
    ∙ ap (λ b. cond (same_id other id) false b) (any_at other ids)
    ∙ and_is (same_id other id) (has other ids)

-- the first id of a set
not_less : (o : Ordering) → is_gt (ordering_reverse o) ≡ false → is_lt o ≡ false
not_less Less h = h
not_less Equal h = refl
not_less Greater h = refl

pub head_is : (id : CmdId) (ids : List CmdId) → IsTrue (list_any (is_at (cmd_cmp id)) ids)
    → ((other : CmdId) → IsTrue (list_any (is_at (cmd_cmp other)) ids) → is_gt (cmd_cmp id other) ≡ false)
    → IsHead ids (Some id)
head_is id ids there least = (
  sym (any_at id ids) ∙ there,
  λ other stands. not_less (cmd_cmp other id) (ap is_gt (sym (cmd_total.antisymm id other)) ∙ least other (any_at other ids ∙ stands)),
)

default_apart : {X : Type 0} (xs : List X) (i : ℕ) (d e : X) → i < length xs → slice_index_or xs i d ≡ slice_index_or xs i e
default_apart [] i d e lt = absurd (omega (arith, lt))
default_apart (x ∷ xs) zero d e lt = refl
default_apart (x ∷ xs) (suc i) d e lt = default_apart xs i d e (omega (arith, lt))

pub looked_first : (inside q : Queued) (passed : List Bool) (n : ℕ) (found : Option (ℕ × CmdId)) (head : Option CmdId) (result : Option (ℕ × CmdId)) (ids : List CmdId)
    → inside ≡ q → result ≡ earlier_of found n head → IsHead ids head → ids ≡ slice_index_or inside n ids → n < length inside → is_passed passed n ≡ false
    → IsFirst q passed n found → IsFirst q passed (n + 1) result
looked_first inside q passed n found head result ids view is h at lt p f =
    let here : ids ≡ slice_index_or q n [] = at ∙ default_apart inside n ids [] lt ∙ ap (λ l. slice_index_or l n []) view in
    subst (λ r. IsFirst q passed (n + 1) r) (sym is) (first_looked q passed n found head f p (subst (λ l. IsHead l head) here h))

-- one id fewer
pub fewer_by : (was : Bool) (new old : ℕ) → was ≡ true → new + cond was 1 0 ≡ old → new + 1 ≡ old
fewer_by true new old is e = e
fewer_by false new old is e = absurd cc

-- a queue is one shorter, and the queues hold one fewer
pub size_set : (q : Queued) (queue : ℕ) (ids was : List CmdId) → queue < length q → was ≡ slice_index_or q queue [] → length ids + 1 ≡ length was → sum_by (λ l. length l) (slice_set q queue ids) + 1 ≡ sum_by (λ l. length l) q
size_set q queue ids was lt is one =
    let all : sum_by (λ l. length l) (slice_set q queue ids) + length (slice_index_or q queue []) ≡ sum_by (λ l. length l) q + length ids = sum_by-set (λ (l : List CmdId). length l) q queue ids [] lt in
    let same : length was ≡ length (slice_index_or q queue []) = ap (λ (l : List CmdId). length l) is in
    omega (arith, all, same, one)
