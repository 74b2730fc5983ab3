-- A table starts by the rule, and splits and joins keep it.
use Rattle.std.proofs.Common.{◌≡◌, ◌≢◌, ◌⊎◌, inl, inr, ⊎_elim, ℕ, zero, suc, ◌+◌, ◌-◌, ◌*◌, ◌/◌, ◌%◌, ◌<◌, ◌≤◌, Bool, true, false, List, [], ◌∷◌, ◌++◌, length, map, get_or, set, sum_by, replicate, refl, ap, sym, ◌∙◌, arith, subst, slice_index, slice_index_or, slice_set, Option, Some, None}
use Rattle.std.proofs.lemmas.List.{length-set, length-replicate, length-map, set-get_or, get_or-set_same, get_or-set_other}
use Rattle.std.proofs.lemmas.List.Sums.{sum_by_push, sum_by-append, sum_by-cons}
use mathlib.Core.Option as maybe
use mathlib.Core.Option.{some-injective, some-ne-none}
use mathlib.Core.Logic.{dite}
use native.Mathlib.Decide.{ℕ_discrete, dec_lt}
use lib.ListN.{get_elem?}
use Rattle.atomic_table.proofs.Lists.{set_else}
use Rattle.atomic_table.specs.Table.{State, Splits, Joins, opening}
use Rattle.rp_passes.proofs.Tally.{total_set, part_le, each_set, each_snoc}
use Rattle.rp_base.specs.declared.items.Item.{Item}
use Rattle.rp_buffer.specs.declared.rule.Hand.{Hand}
use Rattle.rp_buffer.specs.declared.rule.Stage.{Stage}
use Rattle.rp_buffer.specs.declared.rule.Stage.TheVariants.{Idle, Drew, Taking}
use Rattle.rp_buffer.specs.declared.rights.Right.{Right}
use Rattle.rp_buffer.specs.declared.rights.Right.TheVariants.{Lacks, Carries}
use Rattle.rp_buffer.specs.declared.rights.Keep.{Keep}
use Rattle.rp_buffer.specs.declared.rights.Keep.TheVariants.{Open, Closed}
use Rattle.rp_buffer.specs.Hands.{Put, hand, bare_hand, right_at, keep_in, no_rights, least_of, least, others, one_of, with_one, together, all_rights, all_parts}
use Rattle.rp_buffer.specs.Slots.{Phase, free, drawn, published, taking, taken, Ring, face, up, InPhase, AtStage, KeepOf, RightOf, Knows, weight, right_on, lies, left_in, weight_put, weight_taken, Kept, first}
use Rattle.rp_buffer.specs.Plays.{left, right, both, spent}
use Rattle.rp_buffer.proofs.Showing.{opening_ring, opening_phase, at_first}
use Rattle.rp_buffer.proofs.Places.{left_none}

no_right_at : (rights : List Right) (i : ℕ) → right_at (no_rights rights) i ≡ Lacks
no_right_at [] zero = refl
no_right_at [] (suc i) = refl
no_right_at (r ∷ rs) zero = refl
no_right_at (r ∷ rs) (suc i) = no_right_at rs i

-- what is set at a number is there, or the list is too short
set_at : (rights : List Right) (p i : ℕ) (r : Right) → i ≡ p → (right_at (set rights p r) i ≡ r) ⊎ ((right_at (set rights p r) i ≡ Lacks) × (right_at rights i ≡ Lacks))
set_at [] zero zero r e = inr (refl, refl)
set_at [] zero (suc i) r e = inr (refl, refl)
set_at [] (suc p) zero r e = inr (refl, refl)
set_at [] (suc p) (suc i) r e = inr (refl, refl)
set_at (x ∷ xs) zero zero r e = inl refl
set_at (x ∷ xs) zero (suc i) r e = absurd (omega (arith, e))
set_at (x ∷ xs) (suc p) zero r e = absurd (omega (arith, e))
set_at (x ∷ xs) (suc p) (suc i) r e = set_at xs p i r (omega (arith, e))

-- each right is in one half: the least, or the others
one_half : (rights : List Right) (i : ℕ)
    → ((right_at (least rights) i ≡ right_at rights i) × (right_at (others rights) i ≡ Lacks))
    ⊎ ((right_at (least rights) i ≡ Lacks) × (right_at (others rights) i ≡ right_at rights i))
one_half rights i =
    let p : ℕ = least_of rights in
    dite (ℕ_discrete i p)
    (λ e. ⊎_elim
    (λ here. ⊎_elim
    (λ gone. inl (here ∙ ap (right_at rights) (sym e), gone))
    (λ short. inl (here ∙ ap (right_at rights) (sym e), short.0))
    (set_at rights p i Lacks e))
    (λ short. ⊎_elim
    (λ gone. ⊎_elim
    (λ same. inr (short.0, gone ∙ sym same))
    (λ same. absurd (same))
    (lost rights p i e short.0))
    (λ none. inr (short.0, none.0 ∙ sym none.1))
    (set_at rights p i Lacks e))
    (set_at (no_rights rights) p i (right_at rights p) e))
    (λ away. inr (get_or-set_other (no_rights rights) p i (right_at rights p) Lacks away ∙ no_right_at rights i, get_or-set_other rights p i Lacks Lacks away))
  where
    lost : (rights : List Right) (p i : ℕ) → i ≡ p → right_at (set (no_rights rights) p (right_at rights p)) i ≡ Lacks → (right_at rights i ≡ Lacks) ⊎ ⊥
    lost [] p zero e is = inl refl
    lost [] p (suc i) e is = inl refl
    lost (x ∷ xs) zero zero e is = inl is
    lost (x ∷ xs) zero (suc i) e is = inr (omega (arith, e))
    lost (x ∷ xs) (suc p) zero e is = inr (omega (arith, e))
    lost (x ∷ xs) (suc p) (suc i) e is = lost xs p i (omega (arith, e)) is

least_keeps : (n : ℕ) (rings : ℕ → Ring) (phases : ℕ → Phase) (rights : List Right) (i : ℕ) → RightOf n rings phases i (right_at rights i) → RightOf n rings phases i (right_at (least rights) i)
least_keeps n rings phases rights i known = ⊎_elim
    (λ h. subst (λ r. RightOf n rings phases i r) (sym h.0) known)
    (λ h. subst (λ r. RightOf n rings phases i r) (sym h.0) tt)
    (one_half rights i)

others_keep : (n : ℕ) (rings : ℕ → Ring) (phases : ℕ → Phase) (rights : List Right) (i : ℕ) → RightOf n rings phases i (right_at rights i) → RightOf n rings phases i (right_at (others rights) i)
others_keep n rings phases rights i known = ⊎_elim
    (λ h. subst (λ r. RightOf n rings phases i r) (sym h.1) tt)
    (λ h. subst (λ r. RightOf n rings phases i r) (sym h.1) known)
    (one_half rights i)

halves_weigh : (rights : List Right) (i : ℕ) → weight (right_at (least rights) i) + weight (right_at (others rights) i) ≡ weight (right_at rights i)
halves_weigh rights i = ⊎_elim
    (λ h. let a = ap weight h.0 in let b = ap weight h.1 in omega (arith, a, b))
    (λ h. let a = ap weight h.0 in let b = ap weight h.1 in omega (arith, a, b))
    (one_half rights i)

pub splits : (n id : ℕ) (v : Hand) → 2 ≤ v.parts → Splits (Kept n) id v (left v) (right v)
splits n id v two s k at =
    let known = k.each_pass id v at in
    let p = total_set (λ (x : Hand). x.parts) s.views id v (left v) at in
    let parted = k.parted in
    let views : List Hand = set s.views id (left v) in
    let more_parts = sum_by_push (λ (x : Hand). x.parts) views (right v) in
    record {
      rings = k.rings;
      phases = k.phases;
      wide = k.wide;
      long = k.long;
      counters = k.counters;
      places = k.places;
      machine = k.machine;
      each_pass = each_snoc (λ j x. Knows n k.rings k.phases j x) views (right v)
          (record { stage = tt; rights = λ i. least_keeps n k.rings k.phases v.rights i (known.rights i); idle = λ e. (refl, refl, refl) })
          (each_set (λ j x. Knows n k.rings k.phases j x) s.views id (left v)
          (record { stage = known.stage; rights = λ i. others_keep n k.rings k.phases v.rights i (known.rights i); idle = λ none_left. absurd (omega (arith, none_left, two)) })
          (λ j x away e. k.each_pass j x e));
      parted = omega (arith, p, parted, more_parts, two);
      once = λ i. let r = total_set (right_on i) s.views id v (left v) at in let more = sum_by_push (right_on i) views (right v) in
          let o = k.once i in let h = halves_weigh v.rights i in omega (arith, r, more, o, h);
      balanced = λ h. let a = total_set (weight_put h) s.views id v (left v) at in let b = total_set (weight_taken h) s.views id v (left v) at in
          let c = sum_by_push (weight_put h) views (right v) in let d = sum_by_push (weight_taken h) views (right v) in
          let was = k.balanced h in omega (arith, a, b, c, d, was);
    }

together_at : (a b : List Right) (i : ℕ) → right_at (together a b) i ≡ one_of (right_at a i) (right_at b i)
together_at [] [] zero = refl
together_at [] [] (suc i) = refl
together_at [] (q ∷ qs) i = one_of_none [] (q ∷ qs) i
  where
    one_of_none : (a b : List Right) (i : ℕ) → right_at b i ≡ one_of (right_at [] i) (right_at b i)
    one_of_none a b zero = refl
    one_of_none a b (suc i) = refl
together_at (r ∷ rs) [] zero = one_of_lacks r
  where
    one_of_lacks : (r : Right) → r ≡ one_of r Lacks
    one_of_lacks Lacks = refl
    one_of_lacks (Carries ks) = refl
together_at (r ∷ rs) [] (suc i) = one_of_lacks (right_at rs i) ∙ ap (one_of (right_at rs i)) (none_at i)
  where
    one_of_lacks : (r : Right) → r ≡ one_of r Lacks
    one_of_lacks Lacks = refl
    one_of_lacks (Carries ks) = refl

    none_at : (i : ℕ) → Lacks ≡ right_at [] (suc i)
    none_at i = refl
together_at (r ∷ rs) (q ∷ qs) zero = refl
together_at (r ∷ rs) (q ∷ qs) (suc i) = together_at rs qs i

one_keeps : (n : ℕ) (rings : ℕ → Ring) (phases : ℕ → Phase) (i : ℕ) (a b : Right) → RightOf n rings phases i a → RightOf n rings phases i b → RightOf n rings phases i (one_of a b)
one_keeps n rings phases i Lacks b one two = two
one_keeps n rings phases i (Carries ks) b one two = one

one_weighs : (a b : Right) → weight (one_of a b) ≤ weight a + weight b
one_weighs Lacks b = omega arith
one_weighs (Carries ks) b = omega arith

nothing_at : (i : ℕ) → right_at [] i ≡ Lacks
nothing_at zero = refl
nothing_at (suc i) = refl

pub joins : (n id : ℕ) (v : Hand) (other : ℕ) (w : Hand) → 0 < v.parts → Joins (Kept n) id v other w (both v w) spent
joins n id v other w some_part s k at away there =
    let views : List Hand = set s.views id (both v w) in
    let known = k.each_pass id v at in
    let there_before : get_elem? s.views other ≡ maybe.some w = sym (set_else s.views id other (both v w) away) ∙ there in
    let theirs = k.each_pass other w there_before in
    let p = total_set (λ (x : Hand). x.parts) s.views id v (both v w) at in
    let more_parts = total_set (λ (x : Hand). x.parts) views other w spent there in
    let parted = k.parted in
    record {
      rings = k.rings;
      phases = k.phases;
      wide = k.wide;
      long = k.long;
      counters = k.counters;
      places = k.places;
      machine = k.machine;
      each_pass = each_set (λ j x. Knows n k.rings k.phases j x) views other spent
          (record { stage = tt; rights = λ i. subst (λ r. RightOf n k.rings k.phases i r) (sym (nothing_at i)) tt; idle = λ e. (refl, refl, refl) })
          (λ j x _ e. each_set (λ i y. Knows n k.rings k.phases i y) s.views id (both v w)
          (record {
            stage = known.stage;
            rights = λ i. subst (λ r. RightOf n k.rings k.phases i r) (sym (together_at v.rights w.rights i))
                (one_keeps n k.rings k.phases i (right_at v.rights i) (right_at w.rights i) (known.rights i) (theirs.rights i));
            idle = λ none_left. absurd (omega (arith, none_left, some_part));
          })
          (λ i y _ d. k.each_pass i y d) j x e);
      parted = omega (arith, p, parted, more_parts);
      once = λ i. let r = total_set (right_on i) s.views id v (both v w) at in let more = total_set (right_on i) views other w spent there in
          let o = k.once i in let h = one_weighs (right_at v.rights i) (right_at w.rights i) in let e = ap weight (together_at v.rights w.rights i) in
          omega (arith, r, more, o, h, e);
      balanced = λ h. let a = total_set (weight_put h) s.views id v (both v w) at in let b = total_set (weight_taken h) s.views id v (both v w) at in
          let c = total_set (weight_put h) views other w spent there in let d = total_set (weight_taken h) views other w spent there in
          let x = sum_by-append h v.put w.put in let y = sum_by-append h v.taken w.taken in
          let was = k.balanced h in omega (arith, a, b, c, d, was, x, y);
    }

abbrev naughts : ℕ → List ℕ
naughts m = replicate m 0

naught_at : (m i : ℕ) → slice_index (naughts m) i ≡ 0
naught_at zero zero = refl
naught_at zero (suc i) = refl
naught_at (suc m) zero = refl
naught_at (suc m) (suc i) = naught_at m i

abbrev empty_slots : ℕ → List (Option Item)
empty_slots m = replicate m None

empty_at : (m k : ℕ) → k < m → get_elem? (map maybe.some (empty_slots m)) k ≡ maybe.some (maybe.some None)
empty_at zero k low = absurd (omega (arith, low))
empty_at (suc m) zero low = refl
empty_at (suc m) (suc k) low = empty_at m k (omega (arith, low))

open_keep : (m r : ℕ) → keep_in (replicate m Open) r ≡ Open
open_keep zero zero = refl
open_keep zero (suc r) = refl
open_keep (suc m) zero = refl
open_keep (suc m) (suc r) = open_keep m r

first_rights : (m i : ℕ) → ((right_at (all_rights m) i ≡ Lacks) ⊎ ((right_at (all_rights m) i ≡ Carries (replicate 8 Open)) × (i < m)))
first_rights zero zero = inl refl
first_rights zero (suc i) = inl refl
first_rights (suc m) zero = inr (refl, omega arith)
first_rights (suc m) (suc i) = ⊎_elim (λ h. inl h) (λ h. let low = h.1 in inr (h.0, omega (arith, low))) (first_rights m i)

first_knows : (n id : ℕ) → Knows n opening_ring opening_phase id (first n)
first_knows n id = record {
  stage = tt;
  rights = λ i. ⊎_elim
      (λ h. subst (λ r. RightOf n opening_ring opening_phase i r) (sym h) tt)
      (λ h. let low = h.1 in subst (λ r. RightOf n opening_ring opening_phase i r) (sym h.0)
      (omega (arith, low), refl, λ r fits. subst (λ (y : Keep). KeepOf (opening_ring (8 * i + r)) opening_phase (8 * i + r) y) (sym (open_keep 8 r)) refl))
      (first_rights (n / 8) i);
  idle = λ e. (refl, refl, refl);
}

weighs_one : (r : Right) → weight r ≤ 1
weighs_one Lacks = omega arith
weighs_one (Carries ks) = omega arith

pub opens : (n words slots : ℕ) → words ≡ 17 * n → slots ≡ 16 * n → Kept n (opening (naughts words) (empty_slots slots) (first n))
opens n words slots wide long = record {
  rings = opening_ring;
  phases = opening_phase;
  wide = length-replicate words 0 ∙ wide;
  long = length-map (empty_slots slots) maybe.some ∙ length-replicate slots None ∙ long;
  counters = λ b fits. (omega arith, naught_at words b);
  places = λ k fits. (naught_at words (n + k), (omega arith, empty_at slots k (omega (arith, fits, long))));
  machine = λ b fits. at_first b;
  each_pass = only_first;
  parted = let e = sum_by-cons (λ (x : Hand). x.parts) (first n) [] in omega (arith, e);
  once = λ i. let e = sum_by-cons (right_on i) (first n) [] in let m = weighs_one (right_at (first n).rights i) in omega (arith, e, m);
  balanced = λ h. let a = sum_by-cons (weight_put h) (first n) [] in let b = sum_by-cons (weight_taken h) (first n) [] in
      let l = left_none (16 * n) opening_phase h (λ k low. refl) in omega (arith, a, b, l);
}
  where
    only_first : (id : ℕ) (v : Hand) → get_elem? (first n ∷ []) id ≡ maybe.some v → Knows n opening_ring opening_phase id v
    only_first zero v e = subst (λ (x : Hand). Knows n opening_ring opening_phase 0 x) (some-injective (first n) v e) (first_knows n 0)
    only_first (suc id) v e = absurd (some-ne-none v (sym e))

abbrev five_lack : List Right
five_lack = Lacks ∷ Lacks ∷ Lacks ∷ Lacks ∷ Lacks ∷ []

none_of_five : (rights : List Right) → length rights ≡ 5 → no_rights rights ≡ five_lack
none_of_five [] e = absurd (omega (arith, e))
none_of_five (a ∷ []) e = absurd (omega (arith, e))
none_of_five (a ∷ b ∷ []) e = absurd (omega (arith, e))
none_of_five (a ∷ b ∷ c ∷ []) e = absurd (omega (arith, e))
none_of_five (a ∷ b ∷ c ∷ d ∷ []) e = absurd (omega (arith, e))
none_of_five (a ∷ b ∷ c ∷ d ∷ f ∷ []) e = refl
none_of_five (a ∷ b ∷ c ∷ d ∷ f ∷ g ∷ gs) e = absurd (omega (arith, e))

set_past : (rights : List Right) (i : ℕ) (r : Right) → length rights ≤ i → set rights i r ≡ rights
set_past [] i r e = refl
set_past (x ∷ xs) zero r e = absurd (omega (arith, e))
set_past (x ∷ xs) (suc i) r e = ap (λ (l : List Right). x ∷ l) (set_past xs i r (omega (arith, e)))

pub alone_then : (rights : List Right) (n : ℕ) → length rights ≡ 5 → n ≡ least_of rights → set five_lack n (right_at rights n) ≡ least rights
alone_then rights n long is = ap (λ (l : List Right). set l n (right_at rights n)) (sym (none_of_five rights long)) ∙ ap (λ z. set (no_rights rights) z (right_at rights z)) is

pub alone_else : (rights : List Right) (n : ℕ) → length rights ≡ 5 → n ≡ least_of rights → 5 ≤ n → five_lack ≡ least rights
alone_else rights n long is past = sym (none_of_five rights long) ∙ sym (set_past (no_rights rights) (least_of rights) (right_at rights (least_of rights))
    (let l = length-map rights (λ (r : Right). Lacks) in omega (arith, l, long, is, past)))

pub others_else : (rights : List Right) (n : ℕ) → length rights ≡ 5 → n ≡ least_of rights → 5 ≤ n → rights ≡ others rights
others_else rights n long is past = sym (set_past rights (least_of rights) Lacks (omega (arith, long, is, past)))

-- the first n rights are taken in
unfoldable pub merged : ℕ → List Right → List Right → List Right
merged zero rights more = rights
merged (suc n) rights more = with_one (merged n rights more) more n

pub merged_none : (rights more : List Right) → rights ≡ merged 0 rights more
unfolding merged
merged_none rights more = refl

pub merged_next : (n : ℕ) (now after rights more : List Right) → now ≡ merged n rights more → after ≡ with_one now more n → after ≡ merged (n + 1) rights more
unfolding merged
merged_next n now after rights more is next = next ∙ ap (λ (l : List Right). with_one l more n) is ∙ ap (λ z. merged z rights more) (suc_is n)
  where
    suc_is : (n : ℕ) → suc n ≡ n + 1
    suc_is n = omega arith

five_of : (rights : List Right) → length rights ≡ 5 → (a : Right) × (b : Right) × (c : Right) × (d : Right) × (f : Right) × (rights ≡ a ∷ b ∷ c ∷ d ∷ f ∷ [])
five_of [] e = absurd (omega (arith, e))
five_of (a ∷ []) e = absurd (omega (arith, e))
five_of (a ∷ b ∷ []) e = absurd (omega (arith, e))
five_of (a ∷ b ∷ c ∷ []) e = absurd (omega (arith, e))
five_of (a ∷ b ∷ c ∷ d ∷ []) e = absurd (omega (arith, e))
five_of (a ∷ b ∷ c ∷ d ∷ f ∷ []) e = (a, b, c, d, f, refl)
five_of (a ∷ b ∷ c ∷ d ∷ f ∷ g ∷ gs) e = absurd (omega (arith, e))

pub merged_all : (rights more : List Right) → length rights ≡ 5 → length more ≡ 5 → merged 5 rights more ≡ together rights more
unfolding merged
merged_all rights more long too =
    let x = five_of rights long in let y = five_of more too in
    subst (λ (l : List Right). merged 5 l more ≡ together l more) (sym x.5)
    (subst (λ (l : List Right). merged 5 (x.0 ∷ x.1 ∷ x.2 ∷ x.3 ∷ x.4 ∷ []) l ≡ together (x.0 ∷ x.1 ∷ x.2 ∷ x.3 ∷ x.4 ∷ []) l) (sym y.5) refl)
