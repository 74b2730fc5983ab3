-- The rows of a table, one after another.
use Rattle.std.proofs.Common.{◌≡◌, ℕ, ◌+◌, ◌<◌, List, [], ◌∷◌, ◌++◌, Some, length, take, refl, ap, ◌∙◌, sym, subst}
use Rattle.std.specs.Prelude.{map, slice_get}
use Rattle.std.specs.FinMap.{entries, len, len-entries}
use Rattle.std.proofs.lemmas.List.{take_more, map-append}
use Rattle.std.proofs.lemmas.Option.{get_or_from_slice_get}
use Rattle.rp_base.specs.Tables.{Table}
use Rattle.rp_base.specs.declared.values.Value.{Value}
use Rattle.rp_report.specs.declared.views.Row.{Row}
use Rattle.rp_lines.specs.Views.{row_of}

-- one row more
pub rows_more : (t : Table) (rows : List Row) (i : ℕ) (e : ℕ × Value) → rows ≡ map row_of (take i (entries t)) → i < len t → slice_get (entries t) i ≡ Some e
    → rows ++ row_of e ∷ [] ≡ map row_of (take (i + 1) (entries t))
rows_more t rows i e so_far here is =
    let within : i < length (entries t) = subst (λ (n : ℕ). i < n) (len-entries t) here in
    ap (λ r. r ++ row_of e ∷ []) so_far
    ∙ sym (map-append row_of (take i (entries t)) (e ∷ []))
    ∙ ap (map row_of) (ap (λ x. take i (entries t) ++ x ∷ []) (sym (get_or_from_slice_get (entries t) i e e is)) ∙ sym (take_more (entries t) i e within))

take_length : {X : Type 0} (xs : List X) → take (length xs) xs ≡ xs
take_length [] = refl
take_length (x ∷ xs) = ap (λ ys. x ∷ ys) (take_length xs)

-- all rows
pub rows_all : (t : Table) (rows : List Row) (i : ℕ) → rows ≡ map row_of (take i (entries t)) → i ≡ len t → rows ≡ map row_of (entries t)
rows_all t rows i so_far all = so_far ∙ ap (λ n. map row_of (take n (entries t))) (all ∙ len-entries t) ∙ ap (map row_of) (take_length (entries t))
