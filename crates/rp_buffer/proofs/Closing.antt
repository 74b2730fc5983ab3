-- What a closed table leaves is what was put and not taken.
use Rattle.std.proofs.Common.{◌≡◌, ◌≢◌, ℕ, zero, suc, ◌+◌, ◌*◌, ◌/◌, ◌%◌, ◌<◌, ◌≤◌, cond, Bool, true, false, List, [], ◌∷◌, ◌++◌, length, map, get_or, set, sum_by, count_by, refl, ap, sym, ◌∙◌, arith, subst, slice_index, slice_index_or, Option, Some, None}
use Rattle.std.proofs.lemmas.List.{append_assoc, map-append, get_or-set_same, get_or-set_other}
use Rattle.std.proofs.lemmas.List.Sums.{sum_by-append, sum_by-cons}
use Rattle.std.proofs.lemmas.List.Recursion.{is_count_by}
use mathlib.Core.Option as maybe
use mathlib.Core.Option.{some-injective, some-ne-none}
use mathlib.Core.Logic.{dite}
use native.Mathlib.Decide.{ℕ_discrete}
use lib.ListN.{get_elem?}
use Rattle.atomic_table.specs.Table.{State, Final, Seen}
use Rattle.rp_passes.proofs.Tally.{alone}
use Rattle.rp_base.specs.declared.items.Item.{Item}
use Rattle.rp_buffer.specs.declared.lefts.LeftItem.{LeftItem}
use Rattle.rp_buffer.specs.declared.rule.Hand.{Hand}
use Rattle.rp_buffer.specs.Hands.{Put, all_parts}
use Rattle.rp_buffer.specs.Slots.{Phase, free, drawn, published, taking, taken, up, InPhase, Knows, lies, left_in, weight_put, weight_taken, Kept}
use Rattle.rp_buffer.proofs.Collecting.{append_nothing}
use Rattle.rp_buffer.specs.Lefts.{lies_there, found_at, lying, pair_of, PutIsTakenOrLeft}

module _ {A : Type 0} where
  pub found : (l : List A) (i : ℕ) (x d : A) → get_elem? l i ≡ maybe.some x → slice_index_or l i d ≡ x
  found [] i x d e = absurd (some-ne-none x (sym e))
  found (y ∷ ys) zero x d e = some-injective y x e
  found (y ∷ ys) (suc i) x d e = found ys i x d e

weigh : (Put → ℕ) → List LeftItem → ℕ
weigh h left = sum_by h (map pair_of left)

-- what is found at a place weighs what lies there
place_weighs : (h : Put → ℕ) (k d word : ℕ) (homes : List (maybe.Option (Option Item))) (slots : List (Option Item)) (p : Phase)
    → word ≡ up p → InPhase d homes k p
    → ((y : Option Item) → get_elem? homes k ≡ maybe.some (maybe.some y) → get_elem? slots k ≡ maybe.some y)
    → sum_by h (map pair_of (found_at k word (slice_index_or slots k None))) ≡ lies h k p
place_weighs h k d word homes slots free e is at_home = ap (λ z. sum_by h (map pair_of (found_at k z (slice_index_or slots k None)))) e
place_weighs h k d word homes slots (drawn j) e is at_home = ap (λ z. sum_by h (map pair_of (found_at k z (slice_index_or slots k None)))) e
place_weighs h k d word homes slots (published x) e is at_home =
    ap (λ z. sum_by h (map pair_of (found_at k z (slice_index_or slots k None)))) e
    ∙ ap (λ y. sum_by h (map pair_of (lies_there k y))) (found slots k (Some x) None (at_home (Some x) is.1))
    ∙ (let s = sum_by-cons h (k / 16, x) [] in omega (arith, s))
place_weighs h k d word homes slots (taking j) e is at_home = ap (λ z. sum_by h (map pair_of (found_at k z (slice_index_or slots k None)))) e
place_weighs h k d word homes slots taken e is at_home = ap (λ z. sum_by h (map pair_of (found_at k z (slice_index_or slots k None)))) e

all_weigh : (m : ℕ) (h : Put → ℕ) (s : State (Option Item) Hand) (k : Kept 40 s) (slots : List (Option Item)) → m ≤ 640
    → ((o : ℕ) (y : Option Item) → get_elem? s.homes o ≡ maybe.some (maybe.some y) → get_elem? slots o ≡ maybe.some y)
    → sum_by h (map pair_of (lying m s.words slots)) ≡ left_in m k.phases h
unfolding lying left_in
all_weigh zero h s k slots most at_home = refl
all_weigh (suc m) h s k slots most at_home =
    let below = all_weigh m h s k slots (omega (arith, most)) at_home in
    let here : sum_by h (map pair_of (found_at m (slice_index s.words (40 + m)) (slice_index_or slots m None))) ≡ lies h m (k.phases m)
    = place_weighs h m (k.rings (m / 16)).drawn_to (slice_index s.words (40 + m)) s.homes slots (k.phases m) (k.places m (omega (arith, most))).0 (k.places m (omega (arith, most))).1 (at_home m) in
    let more : List LeftItem = found_at m (slice_index s.words (40 + m)) (slice_index_or slots m None) in
    let split : map pair_of (lying m s.words slots ++ more) ≡ map pair_of (lying m s.words slots) ++ map pair_of more = map-append pair_of (lying m s.words slots) more in
    let sum = sum_by-append h (map pair_of (lying m s.words slots)) (map pair_of more) in
    let a : left_in (suc m) k.phases h ≡ left_in m k.phases h + lies h m (k.phases m) = refl in
    ap (sum_by h) split ∙ omega (arith, sum, below, here, a)

-- what one was put weighs what was taken and is left
settled : (h : Put → ℕ) (id : ℕ) (v : Hand) (words : List ℕ) (slots : List (Option Item)) → v.parts ≡ all_parts → Final (Seen (Kept 40) id v) words slots
    → sum_by h v.put ≡ sum_by h v.taken + sum_by h (map pair_of (lying 640 words slots))
settled h id v words slots all final =
    let s = final.0 in
    let k = final.1.0 in
    let at = final.1.1 in
    let put_alone = alone (weight_put h) (λ (x : Hand). x.parts) s.views id v at (k.parted ∙ sym all) (λ j x e none_left. ap (sum_by h) ((k.each_pass j x e).idle none_left).1) in
    let taken_alone = alone (weight_taken h) (λ (x : Hand). x.parts) s.views id v at (k.parted ∙ sym all) (λ j x e none_left. ap (sum_by h) ((k.each_pass j x e).idle none_left).2) in
    let left = all_weigh 640 h s k slots (omega arith) final.4 in
    let same : sum_by h (map pair_of (lying 640 s.words slots)) ≡ sum_by h (map pair_of (lying 640 words slots)) = ap (λ ws. sum_by h (map pair_of (lying 640 ws slots))) final.2 in
    let even = k.balanced h in
    omega (arith, put_alone, taken_alone, left, same, even)

count_is_sum : (test : Put → Bool) (xs : List Put) → sum_by (λ x. cond (test x) 1 0) xs ≡ count_by test xs
count_is_sum test xs = is_count_by (sum_by (λ x. cond (test x) 1 0)) test refl (λ x ys. sum_by-cons (λ y. cond (test y) 1 0) x ys ∙ by_test (test x) (sum_by (λ y. cond (test y) 1 0) ys)) xs
  where
    by_test : (b : Bool) (n : ℕ) → cond b 1 0 + n ≡ cond b (1 + n) n
    by_test true n = refl
    by_test false n = omega arith

pub settles : (id : ℕ) (v : Hand) (words : List ℕ) (slots : List (Option Item)) → v.parts ≡ all_parts → Final (Seen (Kept 40) id v) words slots
    → PutIsTakenOrLeft v (lying 640 words slots)
settles id v words slots all final test =
    let even = settled (λ x. cond (test x) 1 0) id v words slots all final in
    let a = count_is_sum test v.put in let b = count_is_sum test v.taken in let c = count_is_sum test (map pair_of (lying 640 words slots)) in
    omega (arith, even, a, b, c)

-- one more place is emptied
pub lying_none : (words : List ℕ) (slots : List (Option Item)) (xs : List LeftItem) → xs ≡ xs ++ lying 0 words slots
unfolding lying
lying_none words slots xs = append_nothing xs

pub lying_next : (k : ℕ) (words : List ℕ) (slots : List (Option Item)) (before now after : List LeftItem)
    → now ≡ before ++ lying k words slots → after ≡ now ++ found_at k (slice_index words (40 + k)) (slice_index_or slots k None)
    → after ≡ before ++ lying (k + 1) words slots
unfolding lying
lying_next k words slots before now after is next =
    next ∙ ap (λ l. l ++ more) is ∙ append_assoc before (lying k words slots) more ∙ ap (λ z. before ++ lying z words slots) (suc_is k)
  where
    more : List LeftItem
    more = found_at k (slice_index words (40 + k)) (slice_index_or slots k None)

    suc_is : (n : ℕ) → suc n ≡ n + 1
    suc_is n = omega arith

-- which slots are empty so far
pub record Emptied (filled : List Bool) (place : ℕ) : Type 0 where
  pub rest : (k : ℕ) → place ≤ k → k < 640 → slice_index_or filled k false ≡ true
  pub gone : (k : ℕ) → k < place → slice_index_or filled k false ≡ false

set_false : (fs : List Bool) (i : ℕ) → get_or (set fs i false) i false ≡ false
set_false [] zero = refl
set_false [] (suc i) = refl
set_false (f ∷ fs) zero = refl
set_false (f ∷ fs) (suc i) = set_false fs i

pub emptied_next : (filled after : List Bool) (place : ℕ) → after ≡ set filled place false → Emptied filled place → Emptied after (place + 1)
emptied_next filled after place is known = record {
  rest = λ k low high. ap (λ (l : List Bool). slice_index_or l k false) is ∙ get_or-set_other filled place k false false (λ e. omega (arith, e, low)) ∙ known.rest k (omega (arith, low)) high;
  gone = λ k low. ap (λ (l : List Bool). slice_index_or l k false) is ∙ dite (ℕ_discrete k place)
      (λ e. subst (λ z. get_or (set filled place false) z false ≡ false) (sym e) (set_false filled place))
      (λ away. get_or-set_other filled place k false false away ∙ known.gone k (omega (arith, low, away)));
}
