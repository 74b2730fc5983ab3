-- Latches in order: which of them meet a span, and where a latch stands or is put.
use Rattle.std.proofs.Common.{◌≡◌, ℕ, ◌<◌, ◌≤◌, Bool, true, false, ◌&&◌, ◌||◌, ◌==◌, nat_lt, min, ◌+◌, List, [], ◌∷◌, ◌++◌, length, get_or, take, drop, Option, None, Some, refl, sym, ap, subst, ◌∙◌, arith}
use Rattle.std.proofs.lemmas.Bool.Decides.{nat_tests}
use Rattle.std.proofs.lemmas.List.{take-append-drop, take_more, get_or-take, get_or-drop, length-take-le, length-drop}
use Rattle.std.proofs.lemmas.List.Folds.{list_any_none, list_any-append, Any-from_list_any}
use Rattle.std.specs.List.{AllWithin, list_any, insert}
use Rattle.std.specs.List.Sorted.{IsNonDecreasingBy}
use Rattle.rp_base.specs.Spans.{meets}
use Rattle.rp_base.specs.declared.spans.Span.{Span}
use Rattle.rp_base.proofs.SpanLaws.{span_same}
use Rattle.rp_latch.specs.declared.index.Latch.{Latch}
use Rattle.rp_latch.specs.Indexes.{EndsBefore, InOrder, latch_meets, some_meet, is_latch, lesser, IsOldest}
use Rattle.rp_base.proofs.Counts.{none_at, any_less, any_more, any_same, any_or}
use Rattle.rp_latch.proofs.Elements.{left_true, right_true, both_true, same_read, pairs_insert}

-- starts do not fall
module _ (ls : List Latch) (h : InOrder ls) where
  pub starts_rise : IsNonDecreasingBy (λ l. l.span.start) ls
  starts_rise i j d l b = go (nat_lt i j) refl where
    go : (t : Bool) → nat_lt i j ≡ t → (get_or ls i d).span.start ≤ (get_or ls j d).span.start
    go true e = let lt : i < j = grind (arith, nat_tests) in let far = h i j d lt b in let o = (get_or ls i d).span.ordered in omega arith
    go false e = let same : i ≡ j = grind (arith, nat_tests) in rw same (omega arith)

-- what one latch says of those before it, or of those behind it
module _ (ls : List Latch) (h : InOrder ls) (bound m : ℕ) (x : Latch) (l : m < length ls) (is : x ≡ get_or ls m x) where
  read : (d : Latch) → get_or ls m d ≡ x
  read d = same_read ls m d x l ∙ sym is

  pub start_below_to : x.span.start < bound → AllWithin (λ y. y.span.start < bound) ls 0 (m + 1)
  start_below_to low k d a b =
      let up = starts_rise ls h k m d (omega arith) l in
      let same = ap (λ (y : Latch). y.span.start) (read d) in omega arith

  pub start_above_from : bound ≤ x.span.start → AllWithin (λ y. bound ≤ y.span.start) ls m (length ls)
  start_above_from high k d a b =
      let up = starts_rise ls h m k d a b in
      let same = ap (λ (y : Latch). y.span.start) (read d) in omega arith

apart_by : (s t : Span) → s.end ≤ t.start → meets s t ≡ false
apart_by s t l = grind (arith, nat_tests)

apart_behind : (s t : Span) → t.end ≤ s.start → meets s t ≡ false
apart_behind s t l = grind (arith, nat_tests)

meet_both : (s t : Span) → s.start < t.end → t.start < s.end → meets s t ≡ true
meet_both s t l k = grind (arith, nat_tests)

apart_before : (s t : Span) → s.start < t.end → meets s t ≡ false → s.end ≤ t.start
apart_before s t l k = grind (arith, nat_tests)

pub put_in_order : (ls : List Latch) (n : ℕ) (x : Latch) → InOrder ls → n ≤ length ls
    → AllWithin (λ l. l.span.start < x.span.end) ls 0 n → AllWithin (λ l. x.span.end ≤ l.span.start) ls n (length ls)
    → some_meet ls x.span ≡ false → InOrder (insert ls n x)
put_in_order ls n x h w b a clear =
    pairs_insert EndsBefore ls n x w h
    (λ k d l m. apart_before (get_or ls k d).span x.span (b k d l m) (none_at (latch_meets x.span) ls clear k d (omega arith))) a

-- equal numbers and equal spans make equal latches
equals : (a b : ℕ) → (a == b) ≡ true → a ≡ b
equals a b h = grind (arith, nat_tests)

latch_same : (x y : Latch) → is_latch x y ≡ true → y ≡ x
latch_same x y h =
    let bounds = left_true (y.span.start == x.span.start && y.span.end == x.span.end) (y.number == x.number) h in
    let span : y.span ≡ x.span = span_same y.span x.span (equals _ _ (left_true (y.span.start == x.span.start) (y.span.end == x.span.end) bounds)) (equals _ _ (right_true (y.span.start == x.span.start) (y.span.end == x.span.end) bounds)) in
    let number : y.number ≡ x.number = equals _ _ (right_true (y.span.start == x.span.start && y.span.end == x.span.end) (y.number == x.number) h) in
    ap (λ (s : Span). record { span = s; number = y.number }) span ∙ ap (λ (n : ℕ). record { span = x.span; number = n }) number

-- a latch that is there stands at the place of its start
module _ (ls : List Latch) (h : InOrder ls) (x : Latch) (n : ℕ)
    (before : AllWithin (λ l. l.span.start < x.span.start) ls 0 n) (after : AllWithin (λ l. x.span.start ≤ l.span.start) ls n (length ls)) where
  pub stands : list_any (is_latch x) ls ≡ true → (n < length ls) × ((d : Latch) → get_or ls n d ≡ x)
  stands is = go (Any-from_list_any (is_latch x) ls is) where
    at : (j : ℕ) (y : Latch) → j < length ls → get_or ls j y ≡ x → (a b : Bool) → nat_lt j n ≡ a → nat_lt n j ≡ b → j ≡ n
    at j y l e true b t u =
        absurd (let low : j < n = grind (arith, nat_tests) in let far : (get_or ls j y).span.start < x.span.start = before j y (omega arith) low in
        let same = ap (λ (z : Latch). z.span.start) e in omega arith)
    at j y l e false true t u =
        absurd (let high : n < j = grind (arith, nat_tests) in let far = h n j y high l in let o = (get_or ls n y).span.ordered in
        let near : x.span.start ≤ (get_or ls n y).span.start = after n y (omega arith) (omega arith) in
        let same = ap (λ (z : Latch). z.span.start) e in omega arith)
    at j y l e false false t u = grind (arith, nat_tests)

    go : (j : ℕ) × (y : Latch) × (j < length ls) × (get_or ls j y ≡ y) × (is_latch x y ≡ true) → (n < length ls) × ((d : Latch) → get_or ls n d ≡ x)
    go found =
        let j = found.0 in let y = found.1 in
        let is_x : get_or ls j y ≡ x = found.3 ∙ latch_same x y found.4 in
        let here : j ≡ n = at j y found.2 is_x (nat_lt j n) (nat_lt n j) refl refl in
        let far : n < length ls = subst (λ (i : ℕ). i < length ls) here found.2 in
        (far, λ d. same_read ls n d y far ∙ subst (λ (i : ℕ). get_or ls i y ≡ x) here is_x)

-- the least number among those that pass
module _ (p : Latch → Bool) where
  keeps : (a b c : Bool) → (b ≡ true → c ≡ true) → (a && b) ≡ true → (a && c) ≡ true
  keeps a b c imp h = both_true a c (left_true a b h) (imp (right_true a b h))

  lower : (n m k : ℕ) → n ≤ m → nat_lt k n ≡ true → nat_lt k m ≡ true
  lower n m k l h = grind (arith, nat_tests)

  -- none below a number where none passes, or none below a greater one
  none_below : (xs : List Latch) (n : ℕ) → list_any p xs ≡ false → list_any (λ l. p l && nat_lt l.number n) xs ≡ false
  none_below xs n h = any_less (λ l. p l && nat_lt l.number n) p (λ x e. left_true (p x) _ e) xs h

  none_lower : (xs : List Latch) (n m : ℕ) → n ≤ m → list_any (λ l. p l && nat_lt l.number m) xs ≡ false → list_any (λ l. p l && nat_lt l.number n) xs ≡ false
  none_lower xs n m l h = any_less (λ l. p l && nat_lt l.number n) (λ l. p l && nat_lt l.number m) (λ x e. keeps (p x) _ _ (lower n m x.number l) e) xs h

some_or : (a b : Bool) → a ≡ true → (a || b) ≡ true
some_or a b h = ap (λ x. x || b) h

or_some : (a b : Bool) → b ≡ true → (a || b) ≡ true
or_some true b h = refl
or_some false b h = h

neither : (a b : Bool) → a ≡ false → b ≡ false → (a || b) ≡ false
neither a b h k = ap (λ x. x || b) h ∙ k

-- of two lists
pub oldest_append : (p : Latch → Bool) (xs ys : List Latch) (o q : Option ℕ) → IsOldest p xs o → IsOldest p ys q → IsOldest p (xs ++ ys) (lesser o q)
oldest_append p xs ys None None h k = list_any-append p xs ys ∙ neither _ _ h k
oldest_append p xs ys None (Some m) h k = (
  list_any-append (λ l. p l && l.number == m) xs ys ∙ or_some _ _ k.0,
  list_any-append (λ l. p l && nat_lt l.number m) xs ys ∙ neither _ _ (none_below p xs m h) k.1,
)
oldest_append p xs ys (Some n) None h k = (
  list_any-append (λ l. p l && l.number == n) xs ys ∙ some_or _ _ h.0,
  list_any-append (λ l. p l && nat_lt l.number n) xs ys ∙ neither _ _ h.1 (none_below p ys n k),
)
oldest_append p xs ys (Some n) (Some m) h k = go (nat_lt m n) refl where
  go : (b : Bool) → nat_lt m n ≡ b → IsOldest p (xs ++ ys) (Some (min n m))
  go true t =
      let least : m ≡ min n m = grind (arith, nat_tests) in
      subst (λ (i : ℕ). IsOldest p (xs ++ ys) (Some i)) least (
        list_any-append (λ l. p l && l.number == m) xs ys ∙ or_some _ _ k.0,
        list_any-append (λ l. p l && nat_lt l.number m) xs ys ∙ neither _ _ (none_lower p xs m n (grind (arith, nat_tests)) h.1) k.1,
      )
  go false t =
      let least : n ≡ min n m = grind (arith, nat_tests) in
      subst (λ (i : ℕ). IsOldest p (xs ++ ys) (Some i)) least (
        list_any-append (λ l. p l && l.number == n) xs ys ∙ some_or _ _ h.0,
        list_any-append (λ l. p l && nat_lt l.number n) xs ys ∙ neither _ _ h.1 (none_lower p ys n m (grind (arith, nat_tests)) k.1),
      )

-- tests that agree
pub oldest_same : (p q : Latch → Bool) → ((x : Latch) → p x ≡ q x) → (xs : List Latch) (o : Option ℕ) → IsOldest p xs o → IsOldest q xs o
oldest_same p q e xs None h = any_less q p (λ x k. e x ∙ k) xs h
oldest_same p q e xs (Some n) h = (
  any_more (λ l. p l && l.number == n) (λ l. q l && l.number == n) (λ x k. ap (λ b. b && x.number == n) (sym (e x)) ∙ k) xs h.0,
  any_less (λ l. q l && nat_lt l.number n) (λ l. p l && nat_lt l.number n) (λ x k. ap (λ b. b && nat_lt x.number n) (e x) ∙ k) xs h.1,
)

-- of two tests
split_and : (a b c : Bool) → ((a || b) && c) ≡ ((a && c) || (b && c))
split_and true true c = two c where
  two : (c : Bool) → c ≡ (c || c)
  two true = refl
  two false = refl
split_and true false true = refl
split_and true false false = refl
split_and false b c = refl

either : (p q u : Latch → Bool) (xs : List Latch) → list_any (λ l. (p l || q l) && u l) xs ≡ (list_any (λ l. p l && u l) xs || list_any (λ l. q l && u l) xs)
either p q u xs = any_same (λ l. (p l || q l) && u l) (λ l. (p l && u l) || (q l && u l)) (λ l. split_and (p l) (q l) (u l)) xs ∙ any_or (λ l. p l && u l) (λ l. q l && u l) xs

pub oldest_or : (p q : Latch → Bool) (xs : List Latch) (o r : Option ℕ) → IsOldest p xs o → IsOldest q xs r → IsOldest (λ l. p l || q l) xs (lesser o r)
oldest_or p q xs None None h k = any_or p q xs ∙ neither _ _ h k
oldest_or p q xs None (Some m) h k =
    (either p q (λ l. l.number == m) xs ∙ or_some _ _ k.0, either p q (λ l. nat_lt l.number m) xs ∙ neither _ _ (none_below p xs m h) k.1)
oldest_or p q xs (Some n) None h k =
    (either p q (λ l. l.number == n) xs ∙ some_or _ _ h.0, either p q (λ l. nat_lt l.number n) xs ∙ neither _ _ h.1 (none_below q xs n k))
oldest_or p q xs (Some n) (Some m) h k = go (nat_lt m n) refl where
  go : (b : Bool) → nat_lt m n ≡ b → IsOldest (λ l. p l || q l) xs (Some (min n m))
  go true t =
      let least : m ≡ min n m = grind (arith, nat_tests) in
      subst (λ (i : ℕ). IsOldest (λ l. p l || q l) xs (Some i)) least (
        either p q (λ l. l.number == m) xs ∙ or_some _ _ k.0,
        either p q (λ l. nat_lt l.number m) xs ∙ neither _ _ (none_lower p xs m n (grind (arith, nat_tests)) h.1) k.1,
      )
  go false t =
      let least : n ≡ min n m = grind (arith, nat_tests) in
      subst (λ (i : ℕ). IsOldest (λ l. p l || q l) xs (Some i)) least (
        either p q (λ l. l.number == n) xs ∙ some_or _ _ h.0,
        either p q (λ l. nat_lt l.number n) xs ∙ neither _ _ h.1 (none_lower q xs n m (grind (arith, nat_tests)) k.1),
      )

-- the run of latches that meet a span
module _ (ls : List Latch) (s : Span) where
  pub run_begins : (from : ℕ) → AllWithin (λ l. l.span.end ≤ s.start) ls 0 from → from ≤ length ls → list_any (latch_meets s) (take from ls) ≡ false
  run_begins from ended w =
      list_any_none (latch_meets s) (take from ls) (λ k d l.
      let low : k < from = let n = length-take-le from ls w in omega arith in
      subst (λ (x : Latch). latch_meets s x ≡ false) (sym (get_or-take from ls k d low)) (apart_by (get_or ls k d).span s (ended k d (omega arith) low)))

  pub run_goes_on : (at : ℕ) (x : Latch) (o : Option ℕ) → at < length ls → x ≡ get_or ls at x → s.start < x.span.end → x.span.start < s.end
      → IsOldest (latch_meets s) (take at ls) o → IsOldest (latch_meets s) (take (at + 1) ls) (lesser o (Some x.number))
  run_goes_on at x o l is low high h =
      let meeting : latch_meets s x ≡ true = meet_both x.span s high low in
      let whole : take at ls ++ x ∷ [] ≡ take (at + 1) ls = ap (λ (y : Latch). take at ls ++ y ∷ []) is ∙ sym (take_more ls at x l) in
      subst (λ (zs : List Latch). IsOldest (latch_meets s) zs (lesser o (Some x.number))) whole
      (oldest_append (latch_meets s) (take at ls) (x ∷ []) o (Some x.number) h (one x meeting)) where
        itself : (b : Bool) (n : ℕ) → b ≡ true → ((b && n == n) || false) ≡ true
        itself b n h = grind (arith, nat_tests)

        not_below : (b : Bool) (n : ℕ) → ((b && nat_lt n n) || false) ≡ false
        not_below true n = grind (arith, nat_tests)
        not_below false n = refl

        one : (x : Latch) → latch_meets s x ≡ true → IsOldest (latch_meets s) (x ∷ []) (Some x.number)
        one x m = (itself (latch_meets s x) x.number m, not_below (latch_meets s x) x.number)

  pub run_ends : (to : ℕ) (o : Option ℕ) → AllWithin (λ l. s.end ≤ l.span.start) ls to (length ls) → IsOldest (latch_meets s) (take to ls) o → IsOldest (latch_meets s) ls o
  run_ends to o behind h =
      subst (λ (zs : List Latch). IsOldest (latch_meets s) zs o) (take-append-drop to ls)
      (subst (λ (q : Option ℕ). IsOldest (latch_meets s) (take to ls ++ drop to ls) q) (same o)
      (oldest_append (latch_meets s) (take to ls) (drop to ls) o None h
      (list_any_none (latch_meets s) (drop to ls) (λ k d l.
      let far : to + k < length ls = let n = length-drop to ls in omega arith in
      subst (λ (x : Latch). latch_meets s x ≡ false) (sym (get_or-drop to ls k d)) (apart_behind (get_or ls (to + k) d).span s (behind (to + k) d (omega arith) far)))))) where
        same : (o : Option ℕ) → lesser o None ≡ o
        same None = refl
        same (Some n) = refl

-- where the run ends, it has begun
pub run_in_order : (ls : List Latch) (s : Span) (from to : ℕ) → AllWithin (λ l. l.span.end ≤ s.start) ls 0 from → AllWithin (λ l. s.end ≤ l.span.start) ls to (length ls)
    → from ≤ length ls → from ≤ to
run_in_order [] s from to ended behind w = omega arith
run_in_order (x ∷ ls) s from to ended behind w = go (nat_lt to from) refl where
  go : (b : Bool) → nat_lt to from ≡ b → from ≤ to
  go true t =
      absurd (let low : to < from = grind (arith, nat_tests) in
      let e : (get_or (x ∷ ls) to x).span.end ≤ s.start = ended to x (omega arith) low in
      let b : s.end ≤ (get_or (x ∷ ls) to x).span.start = behind to x (omega arith) (omega arith) in
      let o = (get_or (x ∷ ls) to x).span.ordered in let p = s.ordered in omega arith)
  go false t = grind (arith, nat_tests)

-- one latch more of the run
pub run_step : (ls : List Latch) (s : Span) (from to at : ℕ) (x : Latch) (o r : Option ℕ)
    → AllWithin (λ l. s.start < l.span.end) ls from (length ls) → AllWithin (λ l. l.span.start < s.end) ls 0 to → to ≤ length ls
    → from ≤ at → at < to → x ≡ get_or ls at x → IsOldest (latch_meets s) (take at ls) o → r ≡ lesser o (Some x.number) → IsOldest (latch_meets s) (take (at + 1) ls) r
run_step ls s from to at x o r after before w b l is h e =
    subst (λ (q : Option ℕ). IsOldest (latch_meets s) (take (at + 1) ls) q) (sym e)
    (run_goes_on ls s at x o (omega arith) is
    (subst (λ (y : Latch). s.start < y.span.end) (sym is) (after at x b (omega arith)))
    (subst (λ (y : Latch). y.span.start < s.end) (sym is) (before at x (omega arith) l)) h)
