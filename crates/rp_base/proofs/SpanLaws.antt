-- The tests on spans say what they mean of sets of numbers.
use Rattle.std.proofs.Common.{◌≡◌, ℕ, ◌-◌, ◌<◌, ◌≤◌, ◌↔◌, Bool, true, false, ◌&&◌, ◌||◌, nat_lt, IsTrue, List, [], ◌∷◌, ◌∙◌, inl, inr, arith, refl, ap, sym, subst, Option, None, Some}
use Rattle.std.proofs.lemmas.Bool.{cases_lt, or_left, or_right}
use Rattle.std.proofs.lemmas.Bool.Decides.{nat_tests}
use Rattle.std.specs.Coded.{le_prop}
use Rattle.std.specs.List.{list_any}
use Rattle.rp_base.specs.declared.spans.Span.{Span}
use Rattle.rp_base.specs.declared.spans.KeySpan.{KeySpan}
use Rattle.rp_base.specs.declared.spans.Spans.{Spans}
use Rattle.rp_base.specs.Keys.{end_of}
use Rattle.rp_base.specs.Tables.{is_between}
use Rattle.rp_base.proofs.Bools.{either_way}
use Rattle.rp_base.specs.Spans.{Holds, Overlaps, meets, LiesWithin, within, one_key, span_list, any_meet, key_span_by, key_span_of, start_below}

-- the higher start lies in both
pub shared : (s t : Span) → s.start < t.end → t.start < s.end → Overlaps s t
shared s t below above = elim (cases_lt s.start t.start) [
  | inl lower ↦ (t.start, (omega arith, above), (omega arith, t.ordered))
  | inr higher ↦ (s.start, (omega arith, s.ordered), (higher, below))
]

pub meets_overlaps : (s t : Span) → IsTrue (meets s t) ↔ Overlaps s t
meets_overlaps s t = (λ test. shared s t (grind (arith, nat_tests)) (grind (arith, nat_tests)), λ (n, here, there). grind (arith, nat_tests))

pub within_lies : (s : Span) (start end : ℕ) → IsTrue (within s start end) ↔ LiesWithin s start end
within_lies s start end = (
  (λ test n here. grind (arith, nat_tests)),
  (λ lies.
      let first : (start ≤ s.start) × (s.start < end) = lies s.start (omega arith, s.ordered) in
      let last : (start ≤ s.end - 1) × (s.end - 1 < end) = lies (s.end - 1) (omega (arith, s.ordered), omega (arith, s.ordered)) in
      let low : start ≤ s.start = first.0 in
      let high : s.end ≤ end = omega (arith, s.ordered, last.1) in
      grind (arith, nat_tests)),
)

-- a key's span has its number and no other
pub one_key_holds : (key n : ℕ) → Holds (one_key key) n ↔ (n ≡ key)
one_key_holds key n = (λ here. omega arith, λ same. (omega arith, omega arith))

-- spans are the same where their ends are
abbrev span_from : (start end : ℕ) → start < end → Span
span_from start end ordered = record { start = start; end = end; ordered = ordered }

pub span_same : (s t : Span) → s.start ≡ t.start → s.end ≡ t.end → s ≡ t
span_same s t start end =
    subst (λ (n : ℕ). (h : n < t.end) → s ≡ span_from n t.end h) start (λ h.
    subst (λ (m : ℕ). (h : s.start < m) → s ≡ span_from s.start m h) end (λ h.
    ap (λ (x : s.start < s.end). span_from s.start s.end x) (le_prop s.ordered h)) h) t.ordered

abbrev key_span_from : (start : ℕ) (end : Option ℕ) → start < end_of end → KeySpan
key_span_from start end ordered = record { start = start; end = end; ordered = ordered }

pub key_span_same : (s t : KeySpan) → s.start ≡ t.start → s.end ≡ t.end → s ≡ t
key_span_same s t start end =
    subst (λ (n : ℕ). (h : n < end_of t.end) → s ≡ key_span_from n t.end h) start (λ h.
    subst (λ (m : Option ℕ). (h : s.start < end_of m) → s ≡ key_span_from s.start m h) end (λ h.
    ap (λ (x : s.start < end_of s.end). key_span_from s.start s.end x) (le_prop s.ordered h)) h) t.ordered

-- what has this start and this end is the span of keys
key_span_itself : (s : KeySpan) (low : Bool) (test : nat_lt s.start (end_of s.end) ≡ low) → key_span_by s.start s.end low test ≡ Some s
key_span_itself s true test =
    ap (λ (p : s.start < end_of s.end). Some (key_span_from s.start s.end p)) (le_prop (start_below s.start (end_of s.end) test) s.ordered)
key_span_itself s false test = absurd (let h : s.start < end_of s.end = s.ordered in grind (arith, nat_tests))

pub key_span_is : (start : ℕ) (end : Option ℕ) (s : KeySpan) → s.start ≡ start → s.end ≡ end → key_span_of start end ≡ Some s
key_span_is start end s from to =
    subst (λ (x : ℕ). key_span_of x end ≡ Some s) from (subst (λ (y : Option ℕ). key_span_of s.start y ≡ Some s) to (key_span_itself s _ refl))

-- the span of keys has this start and this end
key_span_has_by : (start : ℕ) (end : Option ℕ) (s : KeySpan) (low : Bool) (test : nat_lt start (end_of end) ≡ low)
    → key_span_by start end low test ≡ Some s → (s.start ≡ start) × (s.end ≡ end)
key_span_has_by start end s true test h =
    let one : key_span_from start end (start_below start (end_of end) test) ≡ s = cc in
    (sym (ap (λ (x : KeySpan). x.start) one), sym (ap (λ (x : KeySpan). x.end) one))
key_span_has_by start end s false test h = absurd cc

pub key_span_has : (start : ℕ) (end : Option ℕ) (s : KeySpan) → key_span_of start end ≡ Some s → (s.start ≡ start) × (s.end ≡ end)
key_span_has start end s h = key_span_has_by start end s _ refl h

-- there is none exactly where the end is at or below the start
key_span_none_by : (start : ℕ) (end : Option ℕ) (low : Bool) (test : nat_lt start (end_of end) ≡ low)
    → (key_span_by start end low test ≡ None) ↔ (end_of end ≤ start)
key_span_none_by start end true test =
    (λ h. absurd cc, λ h. absurd (let low : start < end_of end = start_below start (end_of end) test in omega arith))
key_span_none_by start end false test = (λ h. grind (arith, nat_tests), λ h. refl)

pub key_span_none : (start : ℕ) (end : Option ℕ) → (key_span_of start end ≡ None) ↔ (end_of end ≤ start)
key_span_none start end = key_span_none_by start end _ refl

-- two tests on spans say the same from both sides
pub meets_back : (s t : Span) → meets s t ≡ meets t s
meets_back s t = go (nat_lt s.start t.end) (nat_lt t.start s.end) where
  go : (a b : Bool) → (a && b) ≡ (b && a)
  go true true = refl
  go true false = refl
  go false true = refl
  go false false = refl

-- two lists of one span or two meet either way
turned : (a b c d : Bool) → ((a || (b || false)) || ((c || (d || false)) || false)) ≡ ((a || (c || false)) || ((b || (d || false)) || false))
turned true b c d = refl
turned false true true d = refl
turned false true false true = refl
turned false true false false = refl
turned false false true d = refl
turned false false false true = refl
turned false false false false = refl

two_sides : (a b : Bool) → ((a || (b || false)) || false) ≡ ((a || false) || ((b || false) || false))
two_sides true b = refl
two_sides false b = refl

pub any_meet_back : (x y : Spans) → any_meet x y ≡ any_meet y x
any_meet_back x y = go x.first x.second y.first y.second where
  go : (a : Span) (b : Option Span) (c : Span) (d : Option Span) → any_meet (record { first = a; second = b }) (record { first = c; second = d }) ≡ any_meet (record { first = c; second = d }) (record { first = a; second = b })
  go a None c None = ap (λ b. (b || false) || false) (meets_back a c)
  go a None c (Some d) = two_sides (meets a c) (meets a d) ∙ ap (λ b. (b || false) || ((meets a d || false) || false)) (meets_back a c) ∙ ap (λ b. (meets c a || false) || ((b || false) || false)) (meets_back a d)
  go a (Some b) c None = sym (two_sides (meets c a) (meets c b) ∙ ap (λ x. (x || false) || ((meets c b || false) || false)) (meets_back c a) ∙ ap (λ x. (meets a c || false) || ((x || false) || false)) (meets_back c b))
  go a (Some b) c (Some d) =
      turned (meets a c) (meets a d) (meets b c) (meets b d)
      ∙ ap (λ x. (x || (meets b c || false)) || ((meets a d || (meets b d || false)) || false)) (meets_back a c)
      ∙ ap (λ x. (meets c a || (x || false)) || ((meets a d || (meets b d || false)) || false)) (meets_back b c)
      ∙ ap (λ x. (meets c a || (meets c b || false)) || ((x || (meets b d || false)) || false)) (meets_back a d)
      ∙ ap (λ x. (meets c a || (meets c b || false)) || ((meets d a || (x || false)) || false)) (meets_back b d)

-- a number that spans of both have makes them meet
meet_at : (s t : Span) (q : ℕ) → IsTrue (is_between s.start s.end q) → IsTrue (is_between t.start t.end q) → IsTrue (meets s t)
meet_at s t q h k = grind (arith, nat_tests)

meet_one : (s : Span) (ys : List Span) (q : ℕ) → IsTrue (is_between s.start s.end q)
    → IsTrue (list_any (λ t. is_between t.start t.end q) ys) → IsTrue (list_any (meets s) ys)
meet_one s [] q h k = k
meet_one s (t ∷ ys) q h k = either_way (is_between t.start t.end q) (list_any (λ t. is_between t.start t.end q) ys) k
    (λ i. or_left (meets s t) (list_any (meets s) ys) (meet_at s t q h i))
    (λ i. or_right (meets s t) (list_any (meets s) ys) (meet_one s ys q h i))

meet_some : (xs ys : List Span) (q : ℕ) → IsTrue (list_any (λ t. is_between t.start t.end q) xs)
    → IsTrue (list_any (λ t. is_between t.start t.end q) ys) → IsTrue (list_any (λ s. list_any (meets s) ys) xs)
meet_some [] ys q h k = h
meet_some (s ∷ xs) ys q h k = either_way (is_between s.start s.end q) (list_any (λ t. is_between t.start t.end q) xs) h
    (λ i. or_left (list_any (meets s) ys) (list_any (λ s. list_any (meets s) ys) xs) (meet_one s ys q i k))
    (λ i. or_right (list_any (meets s) ys) (list_any (λ s. list_any (meets s) ys) xs) (meet_some xs ys q i k))

pub any_meet_at : (x y : Spans) (q : ℕ) → IsTrue (list_any (λ s. is_between s.start s.end q) (span_list x))
    → IsTrue (list_any (λ s. is_between s.start s.end q) (span_list y)) → IsTrue (any_meet x y)
any_meet_at x y q h k = meet_some (span_list x) (span_list y) q h k
