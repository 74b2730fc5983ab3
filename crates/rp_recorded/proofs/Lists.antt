-- The one list of a range is told by the nodes.
use Rattle.std.proofs.Common.{◌≡◌, ℕ, zero, suc, ◌+◌, ◌-◌, ◌<◌, ◌≤◌, ◌⊎◌, inl, inr, ⊎_elim, Option, Some, List, [], ◌∷◌, length, refl, ap, subst, ◌∙◌, arith}
use Rattle.std.specs.Prelude.{slice_get}
use Rattle.std.proofs.lemmas.Bool.{cases_lt}
use Rattle.std.proofs.lemmas.Option.{slice_get_within}
use Rattle.rp_request.specs.declared.items.Record.{Record}
use Rattle.rp_events.specs.Worlds.{World}
use Rattle.rp_events.specs.Lawful.{IsReached}
use Rattle.rp_events.specs.Lists.{base_of, IsOneList}
use Rattle.rp_promise.proofs.Along.{kept_by_reached}
use Rattle.rp_recorded.specs.Recorded.{HasOneList, IsAllApplied}

some_is : {A : Type 0} (a b : A) → ◌≡◌ {A = Option A} (Some a) (Some b) → a ≡ b
some_is a b e = cc

-- what stands at a place below the end
pub get_inside : {X : Type 0} (xs : List X) (place : ℕ) → place < length xs → (x : X) × (slice_get xs place ≡ Some x)
get_inside [] place lt = absurd (omega (arith, lt))
get_inside (x ∷ xs) zero lt = (x, refl)
get_inside (x ∷ xs) (suc place) lt = get_inside xs place (omega (arith, lt))

-- two lists of one length with the same at each place are one
pub same_places : {X : Type 0} (xs ys : List X) → length xs ≡ length ys → ((place : ℕ) (x : X) → slice_get ys place ≡ Some x → slice_get xs place ≡ Some x) → xs ≡ ys
same_places [] [] long h = refl
same_places [] (y ∷ ys) long h = absurd (omega (arith, long))
same_places (x ∷ xs) [] long h = absurd (omega (arith, long))
same_places (x ∷ xs) (y ∷ ys) long h =
    ap (λ z. z ∷ xs) (some_is x y (h 0 y refl))
    ∙ ap (λ zs. y ∷ zs) (same_places xs ys (omega (arith, long)) (λ place z e. h (suc place) z e))

pub one_list : (nodes : ℕ) (w : World) → IsReached nodes w → (range : ℕ) → HasOneList w range
one_list nodes w reached range = let p = kept_by_reached nodes w reached in record { list = p.records range; is = p.states.one_list range }

module _ (w : World) (range : ℕ) where
  -- a record of one list stands in each other one
  pub in_other : (list other : List Record) → IsOneList w range list → IsOneList w range other → (place : ℕ) (kept : Record) → slice_get list place ≡ Some kept → slice_get other place ≡ Some kept
  in_other list other a b place kept here =
      let k = a.whole place kept here in
      let at = b.agrees k.0 (base_of range + place + 1) kept k.1 in
      let same : base_of range + place + 1 - base_of range - 1 ≡ place = omega arith in
      subst (λ i. slice_get other i ≡ Some kept) same at.1

  no_longer : (list other : List Record) → IsOneList w range list → IsOneList w range other → length list ≤ length other
  no_longer list other a b = ⊎_elim
      (λ (lt : length other < length list).
      let x = get_inside list (length other) lt in
      let within = slice_get_within other (length other) x.0 (in_other list other a b (length other) x.0 x.1) in
      absurd (omega (arith, within)))
      (λ (le : length list ≤ length other). le)
      (cases_lt (length other) (length list))

  pub only_one : (list other : List Record) → IsOneList w range list → IsOneList w range other → list ≡ other
  only_one list other a b =
      let one = no_longer list other a b in
      let two = no_longer other list b a in
      same_places list other (omega (arith, one, two)) (in_other other list b a)

  pub all_applied : (list : List Record) → IsOneList w range list → (list ≡ []) ⊎ IsAllApplied w range list
  all_applied [] a = inl refl
  all_applied (r ∷ rs) a =
      let list : List Record = r ∷ rs in
      let x = get_inside list (length rs) (omega arith) in
      let k = a.whole (length rs) x.0 x.1 in
      let known = a.known k.0 (base_of range + length rs + 1) x.0 k.1.history k.1 k.1.applied in
      let reach = a.reaches k.0 k.1.history k.1.applied in
      let most = reach.1 in
      inr (record { node = k.0; history = k.1.history; applied = k.1.applied; all = omega (arith, known, most) })
