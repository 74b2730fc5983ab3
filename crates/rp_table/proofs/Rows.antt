-- Rows in the order of their keys: what an edit at a key's place makes of them.
use Rattle.std.proofs.Common.{◌≡◌, ◌≢◌, ℕ, zero, suc, ◌+◌, ◌<◌, ◌≤◌, Bool, true, false, not, ◌&&◌, nat_lt, nat_le, IsTrue, List, [], ◌∷◌, ◌++◌, length, take, drop, set, get_or, Some, None, refl, sym, ap, ◌∙◌, arith}
use Rattle.std.proofs.lemmas.Bool.Decides.{nat_tests}
use Rattle.std.specs.Ordering.{nat_cmp, is_lt, eq_by_cmp}
use Rattle.std.specs.List.{remove, insert}
use Rattle.std.specs.FinMap.Entries.{put, find, is_sorted, below_all, where_key}
use Rattle.rp_base.specs.declared.values.Value.{Value}
use Rattle.rp_base.specs.declared.values.Value.TheVariants.{Number}
use Rattle.rp_table.specs.Place.{key_at, IsPlace, IsFound, IsGap}

-- the parts of a test that holds
both : (a b : Bool) → IsTrue (a && b) → IsTrue a × IsTrue b
both true true h = (refl, refl)
both true false h = (refl, h)
both false b h = absurd (cc)

-- the tail of rows in order is in order, and its keys are above the first
tail_sorted : (e : ℕ × Value) (es : List (ℕ × Value)) → IsTrue (is_sorted nat_cmp (e ∷ es)) → IsTrue (below_all nat_cmp e.0 es) × IsTrue (is_sorted nat_cmp es)
tail_sorted e es h = both (below_all nat_cmp e.0 es) (is_sorted nat_cmp es) h

lower : (a b : ℕ) → IsTrue (is_lt (nat_cmp a b)) → a < b
lower a b h = grind (arith, nat_tests)

-- the first of rows in order is below each later one
head_below : (x : ℕ) (es : List (ℕ × Value)) (j : ℕ) → IsTrue (below_all nat_cmp x es) → j < length es → x < key_at es j
head_below x [] j h b = absurd (omega arith)
head_below x (e ∷ es) zero h b = lower x e.0 (both (is_lt (nat_cmp x e.0)) (below_all nat_cmp x es) h).0
head_below x (e ∷ es) (suc j) h b = head_below x es j (both (is_lt (nat_cmp x e.0)) (below_all nat_cmp x es) h).1 (omega arith)

-- keys rise
pub rises : (es : List (ℕ × Value)) (i j : ℕ) → IsTrue (is_sorted nat_cmp es) → i < j → j < length es → key_at es i < key_at es j
rises [] i j h l b = absurd (omega arith)
rises (e ∷ es) i zero h l b = absurd (omega arith)
rises (e ∷ es) zero (suc j) h l b = head_below e.0 es j (tail_sorted e es h).0 (omega arith)
rises (e ∷ es) (suc i) (suc j) h l b = rises es i j (tail_sorted e es h).1 (omega arith) (omega arith)

-- keys do not fall
pub rises_or_same : (es : List (ℕ × Value)) (i j : ℕ) → IsTrue (is_sorted nat_cmp es) → i ≤ j → j < length es → key_at es i ≤ key_at es j
rises_or_same es i j h l b = go (nat_lt i j) refl where
  go : (t : Bool) → nat_lt i j ≡ t → key_at es i ≤ key_at es j
  go true e = let lt : i < j = grind (arith, nat_tests) in let r = rises es i j h lt b in omega arith
  go false e = let same : i ≡ j = grind (arith, nat_tests) in rw same (omega arith)

tail_place : (e : ℕ × Value) (es : List (ℕ × Value)) (key n : ℕ) → IsPlace (e ∷ es) key (suc n) → IsPlace es key n
tail_place e es key n p = record {
  within = (let w = p.within in omega arith);
  before = λ j l. p.before (suc j) (omega arith);
  after = λ j l b. p.after (suc j) (omega arith) (omega arith);
}

-- what the key's place says of the first row
head_before : (e : ℕ × Value) (es : List (ℕ × Value)) (key n : ℕ) → IsPlace (e ∷ es) key (suc n) → e.0 < key
head_before e es key n p = p.before 0 (omega arith)

head_after : (e : ℕ × Value) (es : List (ℕ × Value)) (key : ℕ) → IsPlace (e ∷ es) key 0 → key ≤ e.0
head_after e es key p = p.after 0 (omega arith) (omega arith)

tail_found : (e : ℕ × Value) (es : List (ℕ × Value)) (key n : ℕ) → IsFound (e ∷ es) key (suc n) → IsFound es key n
tail_found e es key n f = record { place = tail_place e es key n f.place; here = (let h = f.here in omega arith); same = f.same }

tail_gap : (e : ℕ × Value) (es : List (ℕ × Value)) (key n : ℕ) → IsGap (e ∷ es) key (suc n) → IsGap es key n
tail_gap e es key n g = record { place = tail_place e es key n g.place; new = λ b. g.new (omega arith) }

-- to write over the key's row is to put it
pub put_found : (es : List (ℕ × Value)) (key n : ℕ) (v : Value) → IsFound es key n → set es n (key, v) ≡ put nat_cmp key v es
put_found [] key n v f = absurd (let h = f.here in omega arith)
put_found (e ∷ es) key zero v f = let s : e.0 ≡ key = f.same in grind (arith, nat_tests)
put_found (e ∷ es) key (suc n) v f =
    let rest = put_found es key n v (tail_found e es key n f) in
    let lt = head_before e es key n f.place in
    grind (arith, nat_tests, rest)

-- to insert at the key's place is to put it
pub put_absent : (es : List (ℕ × Value)) (key n : ℕ) (v : Value) → IsGap es key n → insert es n (key, v) ≡ put nat_cmp key v es
put_absent [] key zero v g = refl
put_absent [] key (suc n) v g = absurd (let w = g.place.within in omega arith)
put_absent (e ∷ es) key zero v g =
    let le = head_after e es key g.place in
    let ne : e.0 ≢ key = g.new (omega arith) in
    grind (arith, nat_tests)
put_absent (e ∷ es) key (suc n) v g =
    let rest = put_absent es key n v (tail_gap e es key n g) in
    let lt = head_before e es key n g.place in
    grind (arith, nat_tests, rest)

-- the key's row is the one that is found
pub find_found : (es : List (ℕ × Value)) (key n : ℕ) → IsFound es key n → find nat_cmp key es ≡ Some (get_or es n (0, Number 0)).1
find_found [] key n f = absurd (let h = f.here in omega arith)
find_found (e ∷ es) key zero f = let s : e.0 ≡ key = f.same in grind (arith, nat_tests)
find_found (e ∷ es) key (suc n) f =
    let rest = find_found es key n (tail_found e es key n f) in
    let lt = head_before e es key n f.place in
    grind (arith, nat_tests, rest)

-- a key below all rows is not found
find_below : (es : List (ℕ × Value)) (key : ℕ) → IsTrue (below_all nat_cmp key es) → find nat_cmp key es ≡ None
find_below [] key h = refl
find_below (e ∷ es) key h =
    let p = both (is_lt (nat_cmp key e.0)) (below_all nat_cmp key es) h in
    let lt = lower key e.0 p.0 in
    let rest = find_below es key p.1 in
    grind (arith, nat_tests, rest)

-- what is above rows' first key is above theirs
all_below : (x y : ℕ) (es : List (ℕ × Value)) → x ≤ y → IsTrue (below_all nat_cmp y es) → IsTrue (below_all nat_cmp x es)
all_below x y [] l h = refl
all_below x y (e ∷ es) l h =
    let p = both (is_lt (nat_cmp y e.0)) (below_all nat_cmp y es) h in
    let lt = lower y e.0 p.0 in
    let rest = all_below x y es l p.1 in
    grind (arith, nat_tests, rest)

-- a key with a gap is not found
pub find_absent : (es : List (ℕ × Value)) (key n : ℕ) → IsTrue (is_sorted nat_cmp es) → IsGap es key n → find nat_cmp key es ≡ None
find_absent [] key n h g = refl
find_absent (e ∷ es) key zero h g =
    let le = head_after e es key g.place in
    let ne : e.0 ≢ key = g.new (omega arith) in
    let rest = find_below es key (all_below key e.0 es le (tail_sorted e es h).0) in
    grind (arith, nat_tests, rest)
find_absent (e ∷ es) key (suc n) h g =
    let rest = find_absent es key n (tail_sorted e es h).1 (tail_gap e es key n g) in
    let lt = head_before e es key n g.place in
    grind (arith, nat_tests, rest)

-- a row that is there is read whatever is said for one that is not
pub same_read : (es : List (ℕ × Value)) (m : ℕ) (d e : ℕ × Value) → m < length es → get_or es m d ≡ get_or es m e
same_read [] m d e b = absurd (omega arith)
same_read (x ∷ es) zero d e b = refl
same_read (x ∷ es) (suc m) d e b = same_read es m d e (omega arith)

-- a row below the key has only rows below the key before it
pub below_to : (es : List (ℕ × Value)) (key m : ℕ) (r : ℕ × Value) → IsTrue (is_sorted nat_cmp es) → m < length es → (get_or es m r).0 < key → (j : ℕ) → j < m + 1 → key_at es j < key
below_to es key m r h b l j k =
    let up = rises_or_same es j m h (omega arith) b in
    let same : (get_or es m r).0 ≡ key_at es m = ap (λ (x : ℕ × Value). x.0) (same_read es m r (0, Number 0) b) in
    omega arith

-- a row not below the key has only such rows behind it
pub above_from : (es : List (ℕ × Value)) (key m : ℕ) (r : ℕ × Value) → IsTrue (is_sorted nat_cmp es) → m < length es → key ≤ (get_or es m r).0 → (j : ℕ) → m ≤ j → j < length es → key ≤ key_at es j
above_from es key m r h b l j k c =
    let up = rises_or_same es m j h k c in
    let same : (get_or es m r).0 ≡ key_at es m = ap (λ (x : ℕ × Value). x.0) (same_read es m r (0, Number 0) b) in
    omega arith

-- where every key is at or above a key, no row is below it
none_below : (es : List (ℕ × Value)) (key : ℕ) → ((j : ℕ) → 0 ≤ j → j < length es → key ≤ key_at es j) → where_key nat_cmp (λ k. nat_lt k key) es ≡ []
none_below [] key h = refl
none_below (e ∷ es) key h =
    let rest = none_below es key (λ j l b. h (suc j) (omega arith) (omega arith)) in
    let here : key ≤ e.0 = h 0 (omega arith) (omega arith) in
    grind (arith, nat_tests, rest)

-- and every row is from it on
all_from : (es : List (ℕ × Value)) (key : ℕ) → ((j : ℕ) → 0 ≤ j → j < length es → key ≤ key_at es j) → es ≡ where_key nat_cmp (λ k. nat_le key k) es
all_from [] key h = refl
all_from (e ∷ es) key h =
    let rest = all_from es key (λ j l b. h (suc j) (omega arith) (omega arith)) in
    let here : key ≤ e.0 = h 0 (omega arith) (omega arith) in
    grind (arith, nat_tests, rest)

-- the rows before the key's place are those below the key
pub below_place : (es : List (ℕ × Value)) (key n : ℕ) → IsPlace es key n → take n es ≡ where_key nat_cmp (λ k. nat_lt k key) es
below_place [] key zero p = refl
below_place [] key (suc n) p = refl
below_place (e ∷ es) key zero p = sym (none_below (e ∷ es) key p.after)
below_place (e ∷ es) key (suc n) p =
    let rest = below_place es key n (tail_place e es key n p) in
    let lt = head_before e es key n p in
    grind (arith, nat_tests, rest)

-- the rows from the key's place on are those from the key on
pub from_place : (es : List (ℕ × Value)) (key n : ℕ) → IsPlace es key n → drop n es ≡ where_key nat_cmp (λ k. nat_le key k) es
from_place [] key zero p = refl
from_place [] key (suc n) p = refl
from_place (e ∷ es) key zero p = all_from (e ∷ es) key p.after
from_place (e ∷ es) key (suc n) p =
    let rest = from_place es key n (tail_place e es key n p) in
    let lt = head_before e es key n p in
    grind (arith, nat_tests, rest)

-- the places of two keys are in the order of the keys
pub places_in_order : (es : List (ℕ × Value)) (low high n m : ℕ) → low ≤ high → IsPlace es low n → IsPlace es high m → n ≤ m
places_in_order es low high n m l p q = go (nat_lt m n) refl where
  go : (t : Bool) → nat_lt m n ≡ t → n ≤ m
  go true e =
      let lt : m < n = grind (arith, nat_tests) in
      let a = p.before m lt in
      let w = p.within in
      let b = q.after m (omega arith) (omega arith) in
      omega arith
  go false e = grind (arith, nat_tests)

-- where every key is at or above the higher one, no row is between
none_between : (es : List (ℕ × Value)) (low high : ℕ) → ((j : ℕ) → 0 ≤ j → j < length es → high ≤ key_at es j) → [] ≡ where_key nat_cmp (λ k. nat_le low k && nat_lt k high) es
none_between [] low high h = refl
none_between (e ∷ es) low high h =
    let rest = none_between es low high (λ j l b. h (suc j) (omega arith) (omega arith)) in
    let here : high ≤ e.0 = h 0 (omega arith) (omega arith) in
    grind (arith, nat_tests, rest)

-- where the key's place is before all rows, it is before those behind the first
tail_place_first : (e : ℕ × Value) (es : List (ℕ × Value)) (key : ℕ) → IsPlace (e ∷ es) key 0 → IsPlace es key 0
tail_place_first e es key p = record {
  within = omega arith;
  before = λ j l. absurd (omega arith);
  after = λ j l b. p.after (suc j) (omega arith) (omega arith);
}

-- the rows between two keys' places are those between the keys
pub between_places : (es : List (ℕ × Value)) (low high n m : ℕ) → low ≤ high → IsPlace es low n → IsPlace es high m
    → drop n (take m es) ≡ where_key nat_cmp (λ k. nat_le low k && nat_lt k high) es
between_places [] low high zero zero l p q = refl
between_places [] low high zero (suc m) l p q = refl
between_places [] low high (suc n) zero l p q = refl
between_places [] low high (suc n) (suc m) l p q = refl
between_places (e ∷ es) low high zero zero l p q = none_between (e ∷ es) low high q.after
between_places (e ∷ es) low high (suc n) zero l p q = none_between (e ∷ es) low high q.after
between_places (e ∷ es) low high zero (suc m) l p q =
    let rest = between_places es low high 0 m l (tail_place_first e es low p) (tail_place e es high m q) in
    let above = head_after e es low p in
    let under = head_before e es high m q in
    grind (arith, nat_tests, rest)
between_places (e ∷ es) low high (suc n) (suc m) l p q =
    let rest = between_places es low high n m l (tail_place e es low n p) (tail_place e es high m q) in
    let under = head_before e es low n p in
    grind (arith, nat_tests, rest)

-- where every key is above a key, all rows are of other keys
all_others : (es : List (ℕ × Value)) (key : ℕ) → IsTrue (below_all nat_cmp key es) → es ≡ where_key nat_cmp (λ k. not (eq_by_cmp nat_cmp key k)) es
all_others [] key h = refl
all_others (e ∷ es) key h =
    let p = both (is_lt (nat_cmp key e.0)) (below_all nat_cmp key es) h in
    let rest = all_others es key p.1 in
    let lt = lower key e.0 p.0 in
    grind (arith, nat_tests, rest)

-- to take the key's row out is to keep the rows of all other keys
pub without_found : (es : List (ℕ × Value)) (key n : ℕ) → IsTrue (is_sorted nat_cmp es) → IsFound es key n → remove es n ≡ where_key nat_cmp (λ k. not (eq_by_cmp nat_cmp key k)) es
without_found [] key n h f = absurd (let b = f.here in omega arith)
without_found (e ∷ es) key zero h f =
    let s : e.0 ≡ key = f.same in
    let rest = all_others es key (all_below key e.0 es (omega arith) (tail_sorted e es h).0) in
    grind (arith, nat_tests, rest)
without_found (e ∷ es) key (suc n) h f =
    let rest = without_found es key n (tail_sorted e es h).1 (tail_found e es key n f) in
    let lt = head_before e es key n f.place in
    grind (arith, nat_tests, rest)

-- where the key has no row, all rows are of other keys
pub without_absent : (es : List (ℕ × Value)) (key n : ℕ) → IsTrue (is_sorted nat_cmp es) → IsGap es key n → es ≡ where_key nat_cmp (λ k. not (eq_by_cmp nat_cmp key k)) es
without_absent [] key n h g = refl
without_absent (e ∷ es) key zero h g =
    let le = head_after e es key g.place in
    let ne : e.0 ≢ key = g.new (omega arith) in
    let rest = all_others es key (all_below key e.0 es le (tail_sorted e es h).0) in
    grind (arith, nat_tests, rest)
without_absent (e ∷ es) key (suc n) h g =
    let rest = without_absent es key n (tail_sorted e es h).1 (tail_gap e es key n g) in
    let lt = head_before e es key n g.place in
    grind (arith, nat_tests, rest)

-- the row that is read at the key's place has its value
pub read_found : (es : List (ℕ × Value)) (key n : ℕ) (r : ℕ × Value) → IsFound es key n → r ≡ get_or es n r → find nat_cmp key es ≡ Some r.1
read_found es key n r f e = find_found es key n f ∙ ap (λ (x : ℕ × Value). Some x.1) (same_read es n (0, Number 0) r f.here ∙ sym e)

-- rows in order are those below a key, and then those from it on
pub in_two_parts : (es : List (ℕ × Value)) (key : ℕ) → IsTrue (is_sorted nat_cmp es) → where_key nat_cmp (λ k. nat_lt k key) es ++ where_key nat_cmp (λ k. nat_le key k) es ≡ es
in_two_parts [] key h = refl
in_two_parts (e ∷ es) key h = go (in_two_parts es key (tail_sorted e es h).1) (nat_lt e.0 key) refl where
  first_above : key ≤ e.0 → (j : ℕ) → 0 ≤ j → j < length (e ∷ es) → key ≤ key_at (e ∷ es) j
  first_above le j l b = let up = rises_or_same (e ∷ es) 0 j h l b in omega arith

  go : where_key nat_cmp (λ k. nat_lt k key) es ++ where_key nat_cmp (λ k. nat_le key k) es ≡ es
      → (t : Bool) → nat_lt e.0 key ≡ t → where_key nat_cmp (λ k. nat_lt k key) (e ∷ es) ++ where_key nat_cmp (λ k. nat_le key k) (e ∷ es) ≡ e ∷ es
  go rest true t = grind (arith, nat_tests, rest)
  go rest false t =
      let le : key ≤ e.0 = grind (arith, nat_tests) in
      ap (λ fs. fs ++ where_key nat_cmp (λ k. nat_le key k) (e ∷ es)) (none_below (e ∷ es) key (first_above le))
      ∙ sym (all_from (e ∷ es) key (first_above le))
