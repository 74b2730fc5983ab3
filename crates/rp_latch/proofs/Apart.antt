-- Two holds that stand at two places are apart, whichever is the older.
use Rattle.std.proofs.Common.{◌≡◌, ◌≢◌, ℕ, ◌<◌, Bool, true, false, nat_lt, List, get_or, Option, None, Some, IsFalse, refl, sym, ap, subst, ◌∙◌, arith}
use Rattle.std.specs.Prelude.{slice_get, map}
use Rattle.std.specs.List.{AllPairs}
use Rattle.std.specs.Option.{option_map}
use Rattle.std.proofs.lemmas.Option.{get_or_from_slice_get, slice_get_within, slice_get-map}
use Rattle.std.proofs.lemmas.Bool.Decides.{nat_tests}
use Rattle.rp_base.specs.Spans.{any_meet}
use Rattle.rp_base.proofs.SpanLaws.{any_meet_back}
use Rattle.rp_latch.specs.declared.holds.Hold.{Hold}
use Rattle.rp_latch.specs.declared.ages.Numbered.{Numbered}
use Rattle.rp_latch.specs.Indexes.{hold_of, AreApart}

-- holds of two places
module _ (hs : List Numbered) (h : AllPairs AreApart hs) where
  in_order : (i j : ℕ) (x y : Numbered) → i < j → slice_get hs i ≡ Some x → slice_get hs j ≡ Some y → IsFalse (any_meet x.hold.spans y.hold.spans)
  in_order i j x y l e f =
      subst (λ (v : Numbered). IsFalse (any_meet v.hold.spans y.hold.spans)) (get_or_from_slice_get hs i x x e)
      (subst (λ (w : Numbered). IsFalse (any_meet (get_or hs i x).hold.spans w.hold.spans)) (get_or_from_slice_get hs j y x f) (h i j x l (slice_get_within hs j y f)))

  apart : (i j : ℕ) (x y : Numbered) → i ≢ j → slice_get hs i ≡ Some x → slice_get hs j ≡ Some y → (b : Bool) → nat_lt i j ≡ b → IsFalse (any_meet x.hold.spans y.hold.spans)
  apart i j x y n e f true t = in_order i j x y (grind (arith, nat_tests)) e f
  apart i j x y n e f false t = any_meet_back x.hold.spans y.hold.spans ∙ in_order j i y x (grind (arith, nat_tests)) f e

  -- the hold of a place, with its number
  there : (i : ℕ) (x : Hold) → slice_get (map hold_of hs) i ≡ Some x → (n : Numbered) × (slice_get hs i ≡ Some n) × (n.hold ≡ x)
  there i x e = go (slice_get hs i) refl (sym (slice_get-map hold_of hs i) ∙ e) where
    go : (o : Option Numbered) → slice_get hs i ≡ o → option_map hold_of o ≡ Some x → (n : Numbered) × (slice_get hs i ≡ Some n) × (n.hold ≡ x)
    go None is m = absurd cc
    go (Some n) is m = let same : n.hold ≡ x = cc in (n, is, same)

  pub apart_at : (i j : ℕ) (x y : Hold) → i ≢ j → slice_get (map hold_of hs) i ≡ Some x → slice_get (map hold_of hs) j ≡ Some y → IsFalse (any_meet x.spans y.spans)
  apart_at i j x y n e f =
      let one = there i x e in let other = there j y f in
      subst (λ (v : Hold). IsFalse (any_meet v.spans y.spans)) one.2
      (subst (λ (w : Hold). IsFalse (any_meet (one.0).hold.spans w.spans)) other.2 (apart i j one.0 other.0 n one.1 other.1 (nat_lt i j) refl))

  pub ids_apart : (i j : ℕ) (x y : Hold) → x.id ≢ y.id → slice_get (map hold_of hs) i ≡ Some x → slice_get (map hold_of hs) j ≡ Some y → IsFalse (any_meet x.spans y.spans)
  ids_apart i j x y n e f = apart_at i j x y (λ same. n (ids_same i j x y same e f)) e f where
    ids_same : (i j : ℕ) (x y : Hold) → i ≡ j → slice_get (map hold_of hs) i ≡ Some x → slice_get (map hold_of hs) j ≡ Some y → x.id ≡ y.id
    ids_same i j x y same e f =
        let one : Some x ≡ Some y = sym e ∙ ap (slice_get (map hold_of hs)) same ∙ f in
        let same_hold : x ≡ y = cc in
        ap (λ (v : Hold). v.id) same_hold
