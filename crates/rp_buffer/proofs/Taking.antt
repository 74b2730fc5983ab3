-- What the steps that empty a place tell together.
use Rattle.std.proofs.Common.{◌≡◌, ◌≢◌, ℕ, ◌+◌, ◌-◌, ◌*◌, ◌/◌, ◌%◌, ◌<◌, ◌≤◌, List, [], ◌∷◌, ◌++◌, Bool, refl, ap, sym, ◌∙◌, arith, subst, Option, Some, None}
use mathlib.Core.Option as maybe
use Rattle.atomic_table.specs.Table.{Me, Step, step, rest}
use Rattle.rp_base.specs.declared.items.Item.{Item}
use Rattle.rp_buffer.specs.declared.rule.Hand.{Hand}
use Rattle.rp_buffer.specs.declared.rule.Stage.{Stage}
use Rattle.rp_buffer.specs.declared.rule.Stage.TheVariants.{Idle, Drew, Taking}
use Rattle.rp_buffer.specs.declared.rights.Keep.{Keep}
use Rattle.rp_buffer.specs.declared.rights.Keep.TheVariants.{Open, Closed}
use Rattle.rp_buffer.specs.Hands.{hand, right_at, keep_at, IsCarried, IsClosed}
use Rattle.rp_buffer.specs.Plays as plays
use Rattle.rp_buffer.specs.Plays.{Standing, noted, having_taken, having_emptied}
use Rattle.rp_buffer.specs.Collects.{Sweeping}

abbrev top_value : List (ℕ × Option Item) → Option Item
top_value [] = None
top_value (t ∷ ts) = t.1

top_same : (cs tl um : List (ℕ × Option Item)) (k o : ℕ) (y z : Option Item) → cs ≡ (k, y) ∷ tl → cs ≡ (o, z) ∷ um → y ≡ z
top_same cs tl um k o y z a b = ap top_value (sym a ∙ b)

-- the slot whose item was taken is out
pub is_out : (i q seen : ℕ) (m0 m1 : Standing) → seen ≡ 1 → i ≡ 40 + q
    → plays.took (step 640 i 1 0 maybe.none) m0 seen m1
    → (y : Option Item) × (m1.1 ≡ (q, y) ∷ rest m1.1)
is_out i q seen m0 m1 same word took =
    let hit = took.0 same in
    let place : i - 640 / 16 ≡ q = omega (arith, word) in
    (Some hit.0, hit.2 ∙ (λ j. (place j, Some hit.0) ∷ sym (ap rest hit.2) j))

-- the slot whose item was taken is out, and it is empty once it was read
pub emptied : (i q seen : ℕ) (y : Option Item) (m0 m1 m2 : Standing) → seen ≡ 1 → i ≡ 40 + q
    → plays.took (step 640 i 1 0 maybe.none) m0 seen m1
    → m1.1 ≡ (q, y) ∷ rest m1.1
    → m2 ≡ (m1.0, (q, None) ∷ rest m1.1)
    → (x : Item) × (y ≡ Some x) × (m2.0 ≡ having_taken m0.0 q x) × (m2.1 ≡ (q, None) ∷ rest m2.1) × (rest m2.1 ≡ m0.1)
emptied i q seen y m0 m1 m2 same word took lies written =
    let hit = took.0 same in
    let x = hit.0 in
    let place : i - 640 / 16 ≡ q = omega (arith, word) in
    let out : m2.1 ≡ (q, None) ∷ rest m1.1 = ap (λ (m : Standing). m.1) written in
    let under : rest m2.1 ≡ rest m1.1 = ap rest out in (
      x,
      top_same m1.1 (rest m1.1) m0.1 q (i - 640 / 16) y (Some x) lies hit.2,
      ap (λ (m : Standing). m.0) written ∙ hit.1 ∙ ap (λ z. having_taken m0.0 z x) place,
      out ∙ ap (λ (cs : List (ℕ × Option Item)). (q, None) ∷ cs) (sym under),
      under ∙ ap rest hit.2,
    )

-- the closed buffer of a place
pub closed_at : (k : Keep) → IsClosed k → (count : ℕ) × (gone : List Bool) × (k ≡ Closed count gone)
closed_at Open is = absurd is
closed_at (Closed count gone) is = (count, gone, refl)

-- the buffer of the emptied place
pub of_buffer : (b p q : ℕ) (v w : Hand) (x : Item) → q ≡ 16 * b + p → p < 16 → w ≡ having_taken v q x → Sweeping v b
    → (IsCarried (right_at w.rights (q / 16 / 8))) × (IsClosed (keep_at w.rights (q / 16)))
of_buffer b p q v w x is low told can =
    let buffer : b ≡ q / 16 = omega (arith, is, low) in (
      subst (λ c. IsCarried (right_at w.rights (c / 8))) buffer (subst (λ (y : Hand). IsCarried (right_at y.rights (b / 8))) (sym told) can.carried),
      subst (λ c. IsClosed (keep_at w.rights c)) buffer (subst (λ (y : Hand). IsClosed (keep_at y.rights b)) (sym told) can.closed),
    )
