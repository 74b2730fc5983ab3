-- What an edit of rows in order makes of the map that contracts see.
use Rattle.std.proofs.Common.{◌≡◌, ℕ, ◌-◌, ◌≤◌, Bool, true, false, cond, not, ◌&&◌, nat_lt, nat_le, T, IsTrue, List, ◌++◌, map, length, take, drop, Option, None, Equal, refl, sym, ap, subst, ◌∙◌, arith}
use Rattle.std.proofs.lemmas.List.{length-drop, length-take}
use Rattle.std.proofs.lemmas.Bool.Decides.{nat_tests}
use Rattle.std.specs.Ordering.{nat_cmp, eq_by_cmp}
use Rattle.std.specs.Cmp.{nat_cmp_total}
use Rattle.std.specs.FinMap.{entries, entries_sorted, from_sorted, insert, remove, get, len, keys, retain_keys, entries-from_sorted, same_entries_map, same_map, entries-insert, get-from_sorted, get-retain_keys, get-remove, len-entries, nat_cmp-IsAntisymmetric}
use Rattle.std.specs.FinMap.Entries.{put, find, is_sorted, where_key, is_sorted-where_key, find-where_key}
use Rattle.rp_base.specs.Tables.{Table}
use Rattle.rp_base.specs.declared.values.Value.{Value}
use Rattle.rp_table.specs.Place.{IsPlace}
use Rattle.rp_table.proofs.Rows.{between_places, from_place, in_two_parts}

-- a test that holds, as the library has it, and back
told : (b : Bool) → b ≡ true → T b
told true e = tt
told false e = absurd (cc)

holds : (b : Bool) → T b → b ≡ true
holds true t = refl
holds false t = absurd t

-- rows that are some map's entries are in order and make that map
pub from_entries_of : (fs : List (ℕ × Value)) (m : Table) → entries m ≡ fs → IsTrue (is_sorted nat_cmp fs) × (from_sorted {R = nat_cmp} fs ≡ m)
from_entries_of fs m e =
    let ordered : T (is_sorted nat_cmp fs) = subst (λ es. T (is_sorted nat_cmp es)) e (entries_sorted m) in
    (holds _ ordered, same_entries_map _ _ (entries-from_sorted nat_cmp fs ordered ∙ sym e))

module _ (es : List (ℕ × Value)) (ordered : IsTrue (is_sorted nat_cmp es)) where
  -- the map's entries are the rows
  pub entries_here : entries (from_sorted {R = nat_cmp} es) ≡ es
  entries_here = entries-from_sorted nat_cmp es (told _ ordered)

  pub len_here : len (from_sorted {R = nat_cmp} es) ≡ length es
  len_here = len-entries (from_sorted es) ∙ ap length entries_here

  pub get_here : (key : ℕ) → get (from_sorted {R = nat_cmp} es) key ≡ find nat_cmp key es
  get_here key = get-from_sorted nat_cmp es key (told _ ordered)

  -- rows with an entry put in its place make the map with that entry
  pub written : (fs : List (ℕ × Value)) (k : ℕ) (v : Value) → fs ≡ put nat_cmp k v es
      → IsTrue (is_sorted nat_cmp fs) × (from_sorted {R = nat_cmp} fs ≡ insert (from_sorted es) k v)
  written fs k v e = from_entries_of fs _ (entries-insert nat_cmp_total (from_sorted es) k v ∙ ap (put nat_cmp k v) entries_here ∙ sym e)

  -- a test answers alike at keys that tie, since they are equal
  alike : (p : ℕ → Bool) (q x : ℕ) → nat_cmp q x ≡ Equal → p x ≡ p q
  alike p q x e = ap p (sym (nat_cmp-IsAntisymmetric q x e))

  -- rows whose keys pass a test make the map of those keys
  pub retained : (fs : List (ℕ × Value)) (p : ℕ → Bool) → fs ≡ where_key nat_cmp p es
      → IsTrue (is_sorted nat_cmp fs) × (from_sorted {R = nat_cmp} fs ≡ retain_keys (from_sorted es) p)
  retained fs p e =
      let ordered' : T (is_sorted nat_cmp fs) = subst (λ gs. T (is_sorted nat_cmp gs)) (sym e) (is_sorted-where_key nat_cmp p es (told _ ordered)) in (
        holds _ ordered',
        same_map nat_cmp_total nat_cmp-IsAntisymmetric _ _ (λ q.
            get-from_sorted nat_cmp fs q ordered'
            ∙ ap (find nat_cmp q) e
            ∙ find-where_key nat_cmp p q (alike p q) es
            ∙ ap (λ o. cond (p q) o None) (sym (get_here q))
            ∙ sym (get-retain_keys (from_sorted es) p q (alike p q))),
      )

  -- and these are its entries
  pub entries_retained : (p : ℕ → Bool) → entries (retain_keys (from_sorted {R = nat_cmp} es) p) ≡ where_key nat_cmp p es
  entries_retained p =
      let r = retained (where_key nat_cmp p es) p refl in
      sym (ap entries r.1) ∙ entries-from_sorted nat_cmp _ (told _ r.0)

  turned : (k q : ℕ) (o : Option Value) → cond (not (eq_by_cmp nat_cmp k q)) o None ≡ cond (eq_by_cmp nat_cmp q k) None o
  turned k q o = grind (arith, nat_tests)

  -- rows without those of a key make the map without the key
  pub removed : (fs : List (ℕ × Value)) (k : ℕ) → fs ≡ where_key nat_cmp (λ x. not (eq_by_cmp nat_cmp k x)) es
      → IsTrue (is_sorted nat_cmp fs) × (from_sorted {R = nat_cmp} fs ≡ remove (from_sorted es) k)
  removed fs k e =
      let p : ℕ → Bool = λ x. not (eq_by_cmp nat_cmp k x) in
      let r = retained fs p e in (
        r.0,
        same_map nat_cmp_total nat_cmp-IsAntisymmetric _ _ (λ q.
            ap (λ m. get m q) r.1
            ∙ get-retain_keys (from_sorted es) p q (alike p q)
            ∙ turned k q (get (from_sorted es) q)
            ∙ sym (get-remove nat_cmp_total (from_sorted es) k q)),
      )

  -- the places of two keys tell how many keys are between
  pub count_between : (low high n m : ℕ) → low ≤ high → IsPlace es low n → IsPlace es high m
      → m - n ≡ len (retain_keys (from_sorted {R = nat_cmp} es) (λ k. nat_le low k && nat_lt k high))
  count_between low high n m l p q =
      let between : ℕ → Bool = λ k. nat_le low k && nat_lt k high in
      let count : length (drop n (take m es)) ≡ m - n = omega (arith, length-drop {A = ℕ × Value}, length-take {A = ℕ × Value}, p.within, q.within) in
      sym count ∙ ap length (between_places es low high n m l p q ∙ sym (entries_retained between)) ∙ sym (len-entries (retain_keys (from_sorted es) between))

  -- rows copied from a key's place on make the part of the map from the key on
  pub kept_from : (fs : List (ℕ × Value)) (key n : ℕ) → IsPlace es key n → fs ≡ drop n es
      → IsTrue (is_sorted nat_cmp fs) × (from_sorted {R = nat_cmp} fs ≡ retain_keys (from_sorted es) (λ k. nat_le key k))
  kept_from fs key n p e = retained fs (λ k. nat_le key k) (e ∙ from_place es key n p)

  -- the keys of the rows between two keys' places are the map's keys between them
  pub keys_between : (ks : List ℕ) (low high n m : ℕ) → low ≤ high → IsPlace es low n → IsPlace es high m
      → ks ≡ map (λ (e : ℕ × Value). e.0) (drop n (take m es))
      → ks ≡ keys (retain_keys (from_sorted {R = nat_cmp} es) (λ k. nat_le low k && nat_lt k high))
  keys_between ks low high n m l p q e =
      let between : ℕ → Bool = λ k. nat_le low k && nat_lt k high in
      e ∙ ap (map (λ (r : ℕ × Value). r.0)) (between_places es low high n m l p q ∙ sym (entries_retained between))

-- the rows below a key and then those from it on are the rows
pub parts_are_whole : (t : Table) (key : ℕ) → entries (retain_keys t (λ k. nat_lt k key)) ++ entries (retain_keys t (λ k. nat_le key k)) ≡ entries t
parts_are_whole t key =
    let ordered : IsTrue (is_sorted nat_cmp (entries t)) = holds _ (entries_sorted t) in
    let same : from_sorted {R = nat_cmp} (entries t) ≡ t = (from_entries_of (entries t) t refl).1 in
    let low = ap (λ m. entries (retain_keys m (λ k. nat_lt k key))) (sym same) ∙ entries_retained (entries t) ordered (λ k. nat_lt k key) in
    let high = ap (λ m. entries (retain_keys m (λ k. nat_le key k))) (sym same) ∙ entries_retained (entries t) ordered (λ k. nat_le key k) in
    ap (λ es. es ++ entries (retain_keys t (λ k. nat_le key k))) low
    ∙ ap (λ es. where_key nat_cmp (λ k. nat_lt k key) (entries t) ++ es) high
    ∙ in_two_parts (entries t) key ordered
