-- Each step on the free units keeps the rule.
use Rattle.std.proofs.Common.{◌≡◌, ◌≢◌, ℕ, zero, suc, ◌+◌, ◌-◌, ◌%◌, ◌^◌, ◌<◌, ◌≤◌, eqb, List, [], ◌∷◌, ◌++◌, length, get_or, set, sum_by, refl, ap, sym, ◌∙◌, arith, subst, slice_index, slice_set}
use Rattle.std.proofs.lemmas.List.{length-set}
use Rattle.std.proofs.lemmas.List.Sums.{sum_by_push}
use mathlib.Core.Option.{Option, some, none, some-injective, some-ne-none}
use prog.Atomic.{either}
use lib.ListN.{get_elem?}
use Rattle.atomic_table.specs.Table.{State, Me, Step, step, Act, keeps, Valid, Allows, Splits, Joins, Final, Seen, stepped, carried_after, opening}
use Rattle.atomic_table.proofs.Lists.{exchanged, set_here, set_else}
use Rattle.rp_passes.proofs.Tally.{total_set, part_le, alone, each_set, each_snoc}
use Rattle.rp_quota.specs.declared.rule.Holding.{Holding}
use Rattle.rp_quota.specs.declared.rule.Look.TheVariants.{Loaded, Asked}
use Rattle.rp_quota.specs.Units.{Kept, Standing, holding, loaded, took, gave, left, right, both, spent, first, all_parts, most_units}

units : Holding → ℕ
units v = v.units

parts : Holding → ℕ
parts v = v.parts

front : (ws : List ℕ) (n : ℕ) → length ws ≡ 1 → slice_index (set ws 0 n) 0 ≡ n
front [] n e = absurd (omega arith)
front (x ∷ xs) n e = refl

-- the word becomes n and one view w
placed : (capacity id n : ℕ) (s : State (Unit {0}) Holding) (homes : List (Option (Unit {0}))) (v w : Holding)
    → Kept capacity s → get_elem? s.views id ≡ some v → n + w.units ≡ slice_index s.words 0 + v.units → w.parts ≡ v.parts → 0 < v.parts
    → Kept capacity record { words = set s.words 0 n; homes = homes; views = set s.views id w }
placed capacity id n s homes v w k at same_units same_parts some_part =
    let u = total_set (λ (x : Holding). x.units) s.views id v w at in
    let p = total_set (λ (x : Holding). x.parts) s.views id v w at in
    let whole = k.whole in
    let parted = k.parted in
    let now : slice_index (set s.words 0 n) 0 ≡ n = front s.words n k.one_word in
    record {
      one_word = length-set s.words 0 n ∙ k.one_word;
      within = k.within;
      whole = omega (arith, u, whole, now, same_units);
      parted = omega (arith, p, parted, same_parts);
      idle = each_set (λ j x. x.parts ≡ 0 → x.units ≡ 0) s.views id w (λ none_left. absurd (omega (arith, none_left, same_parts, some_part))) (λ j x away e. k.idle j x e);
    }

pub loads : (capacity slots id : ℕ) (me : Standing) → 0 < me.0.parts
    → Allows (Kept capacity) slots id me 0 (λ n. n) (loaded (step slots 0 0 0 none) me)
loads capacity slots id me some_part s k long at small =
    let n : ℕ = slice_index s.words 0 in
    let w = holding me.0.parts me.0.units (me.0.looks ++ Loaded n ∷ []) in
    (w, keeps, tt, placed capacity id n s s.homes me.0 w k at refl refl some_part, (refl, refl))

pub takes : (capacity slots id : ℕ) (me : Standing) (old new : ℕ) → new ≤ old → 0 < me.0.parts
    → Allows (Kept capacity) slots id me 0 (λ n. either (eqb n old) new n) (took (step slots 0 old new none) me)
takes capacity slots id me old new less some_part s k long at small =
    let n : ℕ = slice_index s.words 0 in
    exchanged n old new (λ z. (w : Holding) × (a : Act (Unit {0})) × Valid s.homes me.1 a × Kept capacity (stepped s 0 z id me.1 w a) × took (step slots 0 old new none) me n (w, carried_after me.1 a))
    (λ hit. let w = holding me.0.parts (me.0.units + (old - new)) (me.0.looks ++ Asked old n ∷ []) in
    (w, keeps, tt, placed capacity id new s s.homes me.0 w k at (omega (arith, hit, less)) refl some_part, ((λ _. refl), (λ miss. absurd (miss hit)), refl)))
    (λ miss. let w = holding me.0.parts me.0.units (me.0.looks ++ Asked old n ∷ []) in
    (w, keeps, tt, placed capacity id n s s.homes me.0 w k at refl refl some_part, ((λ hit. absurd (miss hit)), (λ _. refl), refl)))

pub gives : (capacity slots id : ℕ) (me : Standing) (count : ℕ) → count ≤ me.0.units → 0 < me.0.parts
    → Allows (Kept capacity) slots id me 0 (λ n. (n + count) % 2 ^ 64) (gave (step slots 0 count 0 none) me)
gives capacity slots id me count held some_part s k long at small =
    let n : ℕ = slice_index s.words 0 in
    let some_units = part_le (λ (x : Holding). x.units) s.views id me.0 at in
    let whole = k.whole in
    let within = k.within in
    let sum : (n + count) % 2 ^ 64 ≡ n + count = omega (arith, some_units, whole, within, held) in
    let w = holding me.0.parts (me.0.units - count) me.0.looks in
    (w, keeps, tt, placed capacity id ((n + count) % 2 ^ 64) s s.homes me.0 w k at (omega (arith, sum, held)) refl some_part, (refl, refl))

pub splits : (capacity id : ℕ) (v : Holding) → 2 ≤ v.parts → Splits (Kept capacity) id v (left v) (right v)
splits capacity id v two s k at =
    let u = total_set (λ (x : Holding). x.units) s.views id v (left v) at in
    let p = total_set (λ (x : Holding). x.parts) s.views id v (left v) at in
    let whole = k.whole in
    let parted = k.parted in
    let views : List Holding = set s.views id (left v) in
    let more_units = sum_by_push (λ (x : Holding). x.units) views (right v) in
    let more_parts = sum_by_push (λ (x : Holding). x.parts) views (right v) in
    record {
      one_word = k.one_word;
      within = k.within;
      whole = omega (arith, u, whole, more_units);
      parted = omega (arith, p, parted, more_parts, two);
      idle = each_snoc (λ j x. x.parts ≡ 0 → x.units ≡ 0) views (right v) (λ _. refl)
          (each_set (λ j x. x.parts ≡ 0 → x.units ≡ 0) s.views id (left v) (λ none_left. absurd (omega (arith, none_left, two))) (λ j x away e. k.idle j x e));
    }

pub joins : (capacity id : ℕ) (v : Holding) (other : ℕ) (w : Holding) → 0 < v.parts → Joins (Kept capacity) id v other w (both v w) spent
joins capacity id v other w some_part s k at away there =
    let views : List Holding = set s.views id (both v w) in
    let u = total_set (λ (x : Holding). x.units) s.views id v (both v w) at in
    let p = total_set (λ (x : Holding). x.parts) s.views id v (both v w) at in
    let more_units = total_set (λ (x : Holding). x.units) views other w spent there in
    let more_parts = total_set (λ (x : Holding). x.parts) views other w spent there in
    let whole = k.whole in
    let parted = k.parted in
    record {
      one_word = k.one_word;
      within = k.within;
      whole = omega (arith, u, whole, more_units);
      parted = omega (arith, p, parted, more_parts);
      idle = each_set (λ j x. x.parts ≡ 0 → x.units ≡ 0) views other spent (λ _. refl)
          (λ j x _ e. each_set (λ i y. y.parts ≡ 0 → y.units ≡ 0) s.views id (both v w) (λ none_left. absurd (omega (arith, none_left, some_part))) (λ i y _ d. k.idle i y d) j x e);
    }

front_is : (ws : List ℕ) (n : ℕ) → get_elem? ws 0 ≡ some n → slice_index ws 0 ≡ n
front_is [] n e = absurd (some-ne-none n (sym e))
front_is (x ∷ xs) n e = some-injective x n e

-- the last share and the free units have all
pub closes : (capacity id : ℕ) (v : Holding) (words : List ℕ) (slots : List (Unit {0})) (free : ℕ) → v.parts ≡ all_parts
    → Final (Seen (Kept capacity) id v) words slots → get_elem? words 0 ≡ some free → free + v.units ≡ capacity
closes capacity id v words slots free all final at_word =
    let s = final.0 in
    let k = final.1.0 in
    let at = final.1.1 in
    let units_alone = alone (λ (x : Holding). x.units) (λ (x : Holding). x.parts) s.views id v at (k.parted ∙ sym all) (λ j x e none_left. k.idle j x e none_left) in
    let word : slice_index s.words 0 ≡ free = front_is s.words free (subst (λ (ws : List ℕ). get_elem? ws 0 ≡ some free) (sym final.2) at_word) in
    let whole = k.whole in
    omega (arith, units_alone, word, whole)
