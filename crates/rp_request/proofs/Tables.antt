-- Tables as maps: what they answer at a key.
use Rattle.std.proofs.Common.{◌≡◌, ℕ, Bool, cond, nat_lt, nat_le, Option, Some, None, Equal, sym, ap, ◌∙◌, arith}
use Rattle.std.proofs.lemmas.Bool.Decides.{nat_tests}
use Rattle.std.specs.Ordering.{nat_cmp, eq_by_cmp}
use Rattle.std.specs.Cmp.{nat_cmp_total}
use Rattle.std.specs.FinMap.{get, insert, remove, retain_keys, get-insert, get-remove, get-retain_keys, same_map, nat_cmp-IsAntisymmetric}
use Rattle.rp_base.specs.Tables.{Table, below, from_on}
use Rattle.rp_base.specs.declared.values.Value.{Value}

-- two tables with the same values are one
pub same_table : (s t : Table) → ((q : ℕ) → get s q ≡ get t q) → s ≡ t
same_table s t h = same_map nat_cmp_total nat_cmp-IsAntisymmetric s t h

-- a test answers alike at keys that tie, since they are equal
pub alike : (p : ℕ → Bool) (q x : ℕ) → nat_cmp q x ≡ Equal → p x ≡ p q
alike p q x e = ap p (sym (nat_cmp-IsAntisymmetric q x e))

-- the value of a key in the part that passes a test
pub get_kept : (t : Table) (p : ℕ → Bool) (q : ℕ) → get (retain_keys t p) q ≡ cond (p q) (get t q) None
get_kept t p q = get-retain_keys t p q (alike p q)

pub get_inserted : (t : Table) (k : ℕ) (v : Value) (q : ℕ) → get (insert t k v) q ≡ cond (eq_by_cmp nat_cmp q k) (Some v) (get t q)
get_inserted t k v q = get-insert nat_cmp_total t k v q

pub get_removed : (t : Table) (k q : ℕ) → get (remove t k) q ≡ cond (eq_by_cmp nat_cmp q k) None (get t q)
get_removed t k q = get-remove nat_cmp_total t k q

-- a value stands in the part below a key, or else in the part from it on
either : (key q : ℕ) (o : Option Value) → o ≡ cond (nat_lt q key) (cond (nat_lt q key) o None) (cond (nat_le key q) o None)
either key q o = grind (arith, nat_tests)

pub in_parts : (t : Table) (key q : ℕ) → get t q ≡ cond (nat_lt q key) (get (below t key) q) (get (from_on t key) q)
in_parts t key q =
    either key q (get t q)
    ∙ ap (λ o. cond (nat_lt q key) o (cond (nat_le key q) (get t q) None)) (sym (get_kept t (λ k. nat_lt k key) q))
    ∙ ap (λ o. cond (nat_lt q key) (get (below t key) q) o) (sym (get_kept t (λ k. nat_le key k) q))
