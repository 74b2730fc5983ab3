-- What the steps of an insert tell together.
use Rattle.std.proofs.Common.{◌≡◌, ◌≢◌, ℕ, ◌+◌, ◌-◌, ◌*◌, ◌/◌, ◌%◌, ◌<◌, ◌≤◌, List, [], ◌∷◌, ◌++◌, refl, ap, sym, ◌∙◌, arith, subst, Option, Some, None}
use mathlib.Core.Option as maybe
use Rattle.atomic_table.specs.Table.{Me, Step, step, rest}
use Rattle.rp_base.specs.declared.items.Item.{Item}
use Rattle.rp_buffer.specs.declared.rule.Hand.{Hand}
use Rattle.rp_buffer.specs.declared.rule.Stage.{Stage}
use Rattle.rp_buffer.specs.declared.rule.Stage.TheVariants.{Idle, Drew, Taking}
use Rattle.rp_buffer.specs.declared.rule.Look.TheVariants.{Loaded, Asked}
use Rattle.rp_buffer.specs.Hands.{hand}
use Rattle.rp_buffer.specs.Plays as plays
use Rattle.rp_buffer.specs.Plays.{Standing, noted, with_stage, having_put}

-- the view after a place was drawn
abbrev pub after_draw : Hand → ℕ → ℕ → Hand
after_draw v b r = with_stage (noted (noted v (Loaded b r)) (Asked b r r)) (Drew (16 * b + r))

-- the view after the item was put there
abbrev pub after_put : Hand → ℕ → ℕ → Item → Hand
after_put v b r x = hand v.parts v.stage (v.put ++ (b, x) ∷ []) v.taken ((v.looks ++ Loaded b r ∷ []) ++ Asked b r r ∷ []) v.rights

-- a place is drawn, and the item lies in its slot
pub ready : (b r seen : ℕ) (x : Item) (m0 m1 m2 m3 : Standing) → seen ≡ r
    → plays.loaded (step 0 b 0 0 maybe.none) m0 r m1
    → plays.drew (step 0 b r (r + 1) maybe.none) m1 seen m2
    → m3 ≡ (m2.0, (16 * b + r, Some x) ∷ rest m2.1)
    → (m3.0 ≡ after_draw m0.0 b r) × (m3.1 ≡ (16 * b + r, Some x) ∷ rest m3.1) × (rest m3.1 ≡ m0.1)
ready b r seen x m0 m1 m2 m3 same load draw written =
    let q : ℕ = 16 * b + r in
    let hit = draw.0 same in
    let lies_there : m3.1 ≡ (q, Some x) ∷ rest m2.1 = ap (λ (m : Standing). m.1) written in
    let under : rest m3.1 ≡ rest m2.1 = ap rest lies_there in (
      ap (λ (m : Standing). m.0) written ∙ hit.0 ∙ ap (λ (v : Hand). with_stage (noted v (Asked b r seen)) (Drew q)) load.1 ∙ ap (λ z. with_stage (noted (noted m0.0 (Loaded b r)) (Asked b r z)) (Drew q)) same,
      lies_there ∙ ap (λ (cs : List (ℕ × Option Item)). (q, Some x) ∷ cs) (sym under),
      under ∙ ap rest hit.1 ∙ load.2,
    )

-- and then it is put
pub done : (slots b r i : ℕ) (x : Item) (m0 m3 m4 : Standing) → slots ≡ 640 → i ≡ 40 + (16 * b + r) → r < 16 → m0.1 ≡ [] → m0.0.stage ≡ Idle
    → (m3.0 ≡ after_draw m0.0 b r) × (m3.1 ≡ (16 * b + r, Some x) ∷ rest m3.1) × (rest m3.1 ≡ m0.1)
    → plays.published (step slots i 1 0 maybe.none) m3 0 m4
    → (m4.0 ≡ after_put m0.0 b r x) × (m4.1 ≡ [])
done slots b r i x m0 m3 m4 count word low none_out idle was told =
    let q : ℕ = 16 * b + r in
    let place : i - slots / 16 ≡ q = omega (arith, count, word) in
    let of_b : q / 16 ≡ b = omega (arith, low) in
    let out = told x (was.1 ∙ ap (λ z. (z, Some x) ∷ rest m3.1) (sym place)) in (
      out.0 ∙ ap (λ z. having_put m3.0 (z / 16, x)) place ∙ ap (λ z. having_put m3.0 (z, x)) of_b ∙ ap (λ v. having_put v (b, x)) was.0
          ∙ ap (λ st. hand m0.0.parts st (m0.0.put ++ (b, x) ∷ []) m0.0.taken ((m0.0.looks ++ Loaded b r ∷ []) ++ Asked b r r ∷ []) m0.0.rights) (sym idle),
      out.1 ∙ was.2 ∙ none_out,
    )
