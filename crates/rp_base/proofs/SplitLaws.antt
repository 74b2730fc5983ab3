-- The two parts of a range.
use Rattle.std.proofs.Common.{◌≡◌, ℕ, ◌+◌, ◌*◌, ◌%◌, ◌^◌, ◌<◌, ◌≤◌, ◌≢◌, ◌-◌, subst, ◌⊎◌, ◌↔◌, inl, inr, Bool, true, false, eqb, Ok, Err, arith, refl, sym, ap, ◌∙◌}
use Rattle.std.proofs.lemmas.Bool.{cases_lt}
use Rattle.std.proofs.lemmas.Bool.Decides.{nat_tests, eqb_tells}
use Rattle.rp_base.specs.declared.ranges.Desc.{Desc}
use Rattle.rp_base.specs.declared.ranges.SplitFault.TheVariants.{NotInside, SplitLimit}
use Rattle.std.specs.Prelude.{nat_lt}
use Rattle.std.proofs.Math.Nat.{mod-eq_of_lt, add-mul-mod_self_left}
use Rattle.std.proofs.lemmas.Nat.{pow-add}
use Rattle.std.proofs.Math.Pow.{pow_pos}
use Rattle.std.specs.Coded.{le_prop}
use Rattle.rp_base.specs.Splits.{InBounds, ComesFrom, itself, by_left, by_right, left_part, right_part, parts_of, split_of}

-- what the parts of a split are
pub record AreParts (d : Desc) (key : ℕ) (left right : Desc) : Type 0 where
  pub inside : key ≢ d.start
  pub level : d.level < 3
  pub left_id : left.id ≡ d.id
  pub left_level : left.level ≡ d.level + 1
  pub left_start : left.start ≡ d.start
  pub left_end : left.end ≡ key
  pub right_id : right.id ≡ d.id + 2 ^ d.level
  pub right_level : right.level ≡ d.level + 1
  pub right_start : right.start ≡ key
  pub right_end : right.end ≡ d.end

pub parts_below : (d : Desc) (key : ℕ) (low : Bool) (e : nat_lt d.level 3 ≡ low) (left right : Desc) → key ≢ d.start → parts_of d key low e ≡ Ok (left, right) → AreParts d key left right
parts_below d key true e left right inside h =
    let made : ◌≡◌ {A = Desc × Desc} (left_part d key e, right_part d key e) (left, right) = cc in
    let made_left : left_part d key e ≡ left = ap (λ p. p.0) made in
    let made_right : right_part d key e ≡ right = ap (λ p. p.1) made in
    rw (← made_left, ← made_right) (record {
      inside = inside;
      level = grind (arith, nat_tests);
      left_id = refl;
      left_level = refl;
      left_start = refl;
      left_end = refl;
      right_id = refl;
      right_level = refl;
      right_start = refl;
      right_end = refl;
    })
parts_below d key false e left right inside h = absurd cc

pub parts : (d : Desc) (key : ℕ) (left right : Desc) → split_of d key ≡ Ok (left, right) → AreParts d key left right
parts d key left right h = elim (eqb_tells key d.start) [
  | inl start ↦ absurd (let e = rw start.0 at h in cc)
  | inr inside ↦ parts_below d key (nat_lt d.level 3) refl left right inside.1 (rw inside.0 at h)
]

-- the parts have no number in common, and together all of the range's
pub parts_apart : (d : Desc) (key : ℕ) (left right : Desc) → split_of d key ≡ Ok (left, right) → (n : ℕ) → InBounds left n → ¬ (InBounds right n)
parts_apart d key left right h n here there = let p = parts d key left right h in omega arith

pub parts_together : (d : Desc) (key : ℕ) (left right : Desc) → split_of d key ≡ Ok (left, right) → InBounds d key → (n : ℕ) → InBounds d n ↔ (InBounds left n ⊎ InBounds right n)
parts_together d key left right h inside n = let p = parts d key left right h in (
  (λ here. elim (cases_lt n key) [ inl below ↦ inl (omega arith, omega arith) | inr above ↦ inr (omega arith, omega arith) ]),
  (λ there. elim there [ inl left ↦ (omega arith, omega arith) | inr right ↦ (omega arith, omega arith) ]),
)

-- how the code finds the split
pub split_at_start : (d : Desc) (key : ℕ) → key ≡ d.start → split_of d key ≡ Err NotInside
split_at_start d key start = grind (arith, nat_tests)

pub parts_high : (d : Desc) (key : ℕ) (low : Bool) (e : nat_lt d.level 3 ≡ low) → 3 ≤ d.level → parts_of d key low e ≡ Err (SplitLimit d.level)
parts_high d key true e high = absurd (grind (arith, nat_tests))
parts_high d key false e high = refl

pub split_at_limit : (d : Desc) (key : ℕ) → key ≢ d.start → 3 ≤ d.level → split_of d key ≡ Err (SplitLimit d.level)
split_at_limit d key inside high =
    let other : eqb key d.start ≡ false = grind (arith, nat_tests) in
    rw other (parts_high d key (nat_lt d.level 3) refl high)

-- a higher power of two leaves the lower bits
pub lower_bits : (id low high : ℕ) → low ≤ high → (id + 2 ^ high) % 2 ^ low ≡ id % 2 ^ low
lower_bits id low high up =
    let e : high ≡ low + (high - low) = omega arith in
    let power : 2 ^ high ≡ 2 ^ low * 2 ^ (high - low) = ap (λ n. 2 ^ n) e ∙ pow-add 2 low (high - low) in
    rw power (add-mul-mod_self_left id (2 ^ low) (2 ^ (high - low)))

-- a range that comes from another by splits has the other's id in the lower bits of its own
pub below_id : (d a : Desc) → ComesFrom d a → (d.level ≤ a.level) × (a.id % 2 ^ d.level ≡ d.id)
below_id d a (itself) = (omega arith, mod-eq_of_lt d.id_of_level)
below_id d a (by_left x key left right from split) =
    let p = parts x key a right split in
    let below = below_id d x from in
    (omega arith, ap (λ n. n % 2 ^ d.level) p.left_id ∙ below.1)
below_id d a (by_right x key left right from split) =
    let p = parts x key left a split in
    let below = below_id d x from in
    (omega arith, ap (λ n. n % 2 ^ d.level) p.right_id ∙ lower_bits x.id d.level x.level below.0 ∙ below.1)

-- no id stands below both parts of a split
pub ids_apart : (d : Desc) (key : ℕ) (left right a b : Desc) → split_of d key ≡ Ok (left, right) → ComesFrom left a → ComesFrom right b → a.id ≢ b.id
ids_apart d key left right a b split from_left from_right same =
    let p = parts d key left right split in
    let here = below_id left a from_left in
    let there = below_id right b from_right in
    let level : left.level ≡ right.level = p.left_level ∙ sym p.right_level in
    let one : left.id ≡ right.id = sym here.1 ∙ ap (λ n. n % 2 ^ left.level) same ∙ ap (λ n. b.id % 2 ^ n) level ∙ there.1 in
    omega (arith, pow_pos d.level)

-- the right part's id
pub right_id : (d : Desc) (key : ℕ) (left right : Desc) → split_of d key ≡ Ok (left, right) → right.id ≡ left.id + 2 ^ d.level
right_id d key left right split = let p = parts d key left right split in p.right_id ∙ ap (λ n. n + 2 ^ d.level) (sym p.left_id)

-- descriptions are the same where their fields are
abbrev desc_of : (id level start end : ℕ) → level ≤ 3 → id < 2 ^ level → Desc
desc_of id level start end low fits = record { id = id; level = level; start = start; end = end; level_to_three = low; id_of_level = fits }

desc_of-fields : (i j : ℕ) → i ≡ j → (k l : ℕ) → k ≡ l → (s t : ℕ) → s ≡ t → (u v : ℕ) → u ≡ v → (p : k ≤ 3) (q : l ≤ 3) (r : i < 2 ^ k) (w : j < 2 ^ l) → desc_of i k s u p r ≡ desc_of j l t v q w
desc_of-fields i j id k l level s t start u v end p q r w =
    subst (λ (j : ℕ). (w : j < 2 ^ l) → desc_of i k s u p r ≡ desc_of j l t v q w) id (λ w.
    subst (λ (l : ℕ). (q : l ≤ 3) (w : i < 2 ^ l) → desc_of i k s u p r ≡ desc_of i l t v q w) level (λ q w.
    subst (λ (t : ℕ). desc_of i k s u p r ≡ desc_of i k t v q w) start (
    subst (λ (v : ℕ). desc_of i k s u p r ≡ desc_of i k s v q w) end (
    ap (λ (x : k ≤ 3). desc_of i k s u x r) (le_prop p q) ∙ ap (λ (y : i < 2 ^ k). desc_of i k s u q y) (le_prop r w)))) q w) w

pub desc_same : (a b : Desc) → a.id ≡ b.id → a.level ≡ b.level → a.start ≡ b.start → a.end ≡ b.end → a ≡ b
desc_same a b id level start end = desc_of-fields a.id b.id id a.level b.level level a.start b.start start a.end b.end end a.level_to_three b.level_to_three a.id_of_level b.id_of_level

pub split_below : (d : Desc) (key : ℕ) (low : Bool) (e : nat_lt d.level 3 ≡ low) → low ≡ true → (left right : Desc) → AreParts d key left right → parts_of d key low e ≡ Ok (left, right)
split_below d key true e is left right p =
    let same_left : left_part d key e ≡ left = desc_same (left_part d key e) left (sym p.left_id) (sym p.left_level) (sym p.left_start) (sym p.left_end) in
    let same_right : right_part d key e ≡ right = desc_same (right_part d key e) right (sym p.right_id) (sym p.right_level) (sym p.right_start) (sym p.right_end) in
    cc
split_below d key false e is left right p = absurd cc

-- what has the parts' fields is the split
pub split_is : (d : Desc) (key : ℕ) (left right : Desc) → AreParts d key left right → split_of d key ≡ Ok (left, right)
split_is d key left right p =
    let other : eqb key d.start ≡ false = let inside : key ≢ d.start = p.inside in grind (arith, nat_tests) in
    let low : nat_lt d.level 3 ≡ true = let h : d.level < 3 = p.level in grind (arith, nat_tests) in
    rw other (split_below d key (nat_lt d.level 3) refl low left right p)
