-- Which keys a request covers.
use Rattle.std.proofs.Common.{◌≡◌, ℕ, ◌+◌, ◌-◌, ◌^◌, ◌<◌, ◌≤◌, Bool, true, false, cond, ◌&&◌, ◌||◌, ◌==◌, nat_lt, nat_le, IsTrue, IsFalse, Some, List, [], ◌∷◌, refl, sym, ap, ◌∙◌, arith}
use Rattle.std.proofs.lemmas.Bool.Decides.{nat_tests}
use Rattle.std.specs.List.{list_any}
use Rattle.rp_base.specs.Keys.{end_of}
use Rattle.rp_base.specs.Spans.{one_key, whole, span_list, meets, any_meet}
use Rattle.rp_base.specs.declared.spans.Span.{Span}
use Rattle.rp_request.specs.declared.requests.Request.{Request}
use Rattle.rp_request.specs.declared.requests.Request.TheVariants.{Put, Add, CPut, Del, Wipe, Move, Split}
use Rattle.rp_request.specs.Covers.{alone, covers, is_split, spans_of, HasKeys, Apart}
use Rattle.rp_base.specs.Tables.{is_between}

same_key : (k : ℕ) → IsTrue (k == k)
same_key k = grind (arith, nat_tests)

first_inside : (a b : ℕ) → a < b → IsTrue (nat_le a a && nat_lt a b)
first_inside a b l = grind (arith, nat_tests)

either_key : (k l : ℕ) → IsTrue (k == k || k == l)
either_key k l = grind (arith, nat_tests)

pub some_key : (r : Request) → (q : ℕ) × IsTrue (covers r q)
some_key (Put key value) = (key, same_key key)
some_key (Add key by) = (key, same_key key)
some_key (CPut key expect value) = (key, same_key key)
some_key (Del key) = (key, same_key key)
some_key (Wipe span) = (span.start, first_inside span.start (end_of span.end) span.ordered)
some_key (Move from to by) = (from, either_key from to)
some_key (Split key) = (key, refl)

-- the span of one key has the key alone
one_key_has : (k q : ℕ) → (q == k) ≡ ((nat_le k q && nat_lt q (k + 1)) || false)
one_key_has k q = grind (arith, nat_tests)

span_has : (a b q : ℕ) → (nat_le a q && nat_lt q b) ≡ ((nat_le a q && nat_lt q b) || false)
span_has a b q = grind (arith, nat_tests)

-- two keys' spans
both_have : (k l q : ℕ) (same : Bool) → (k == l) ≡ same → (q == k || q == l) ≡ list_any (λ s. is_between s.start s.end q) (span_list (cond same (alone (one_key k)) (record { first = one_key k; second = Some (one_key l) })))
both_have k l q true e = grind (arith, nat_tests)
both_have k l q false e = grind (arith, nat_tests)

pub by_spans : (r : Request) (q : ℕ) → q < 2 ^ 128 - 1 → covers r q ≡ list_any (λ s. is_between s.start s.end q) (span_list (spans_of r))
by_spans (Put key value) q l = one_key_has key q
by_spans (Add key by) q l = one_key_has key q
by_spans (CPut key expect value) q l = one_key_has key q
by_spans (Del key) q l = one_key_has key q
by_spans (Wipe span) q l = span_has span.start (end_of span.end) q
by_spans (Move from to by) q l = both_have from to q (from == to) refl
by_spans (Split key) q l = grind (arith, nat_tests)

-- a key of both spans makes them meet
meet_at : (s t : Span) (q : ℕ) → IsTrue (is_between s.start s.end q) → IsTrue (is_between t.start t.end q) → IsTrue (meets s t)
meet_at s t q h k = grind (arith, nat_tests)

-- a test that passes in either way
left_way : (a b : Bool) → IsTrue a → IsTrue (a || b)
left_way a b h = ap (λ x. x || b) h

right_way : (a b : Bool) → IsTrue b → IsTrue (a || b)
right_way true b h = refl
right_way false b h = h

either_way : {P : Type 0} (a b : Bool) → IsTrue (a || b) → (IsTrue a → P) → (IsTrue b → P) → P
either_way true b h l r = l refl
either_way false b h l r = r h

-- a key that two lists of spans have makes spans of them meet
meet_one : (s : Span) (ys : List Span) (q : ℕ) → IsTrue (is_between s.start s.end q) → IsTrue (list_any (λ t. is_between t.start t.end q) ys) → IsTrue (list_any (meets s) ys)
meet_one s [] q h k = k
meet_one s (t ∷ ys) q h k = either_way (is_between t.start t.end q) (list_any (λ t. is_between t.start t.end q) ys) k
    (λ i. left_way (meets s t) (list_any (meets s) ys) (meet_at s t q h i))
    (λ i. right_way (meets s t) (list_any (meets s) ys) (meet_one s ys q h i))

meet_some : (xs ys : List Span) (q : ℕ) → IsTrue (list_any (λ t. is_between t.start t.end q) xs) → IsTrue (list_any (λ t. is_between t.start t.end q) ys) → IsTrue (list_any (λ s. list_any (meets s) ys) xs)
meet_some [] ys q h k = h
meet_some (s ∷ xs) ys q h k = either_way (is_between s.start s.end q) (list_any (λ t. is_between t.start t.end q) xs) h
    (λ i. left_way (list_any (meets s) ys) (list_any (λ s. list_any (meets s) ys) xs) (meet_one s ys q i k))
    (λ i. right_way (list_any (meets s) ys) (list_any (λ s. list_any (meets s) ys) xs) (meet_some xs ys q i k))

-- what is covered but by a split lies in the key space
one_inside : (k q : ℕ) → k < 2 ^ 128 - 1 → IsTrue (q == k) → q < 2 ^ 128 - 1
one_inside k q l h = grind (arith, nat_tests)

span_inside : (a b q : ℕ) → b ≤ 2 ^ 128 - 1 → IsTrue (nat_le a q && nat_lt q b) → q < 2 ^ 128 - 1
span_inside a b q l h = grind (arith, nat_tests)

inside : (r : Request) (q : ℕ) → HasKeys r → IsFalse (is_split r) → IsTrue (covers r q) → q < 2 ^ 128 - 1
inside (Put key value) q h n c = one_inside key q h c
inside (Add key by) q h n c = one_inside key q h c
inside (CPut key expect value) q h n c = one_inside key q h c
inside (Del key) q h n c = one_inside key q h c
inside (Wipe span) q h n c = span_inside span.start (end_of span.end) q h c
inside (Move from to by) q h n c = either_way (q == from) (q == to) c (one_inside from q h.0) (one_inside to q h.1)
inside (Split key) q h n c = absurd cc

-- a split has the whole key space
split_spans : (r : Request) → IsTrue (is_split r) → spans_of r ≡ alone whole
split_spans (Put key value) h = absurd cc
split_spans (Add key by) h = absurd cc
split_spans (CPut key expect value) h = absurd cc
split_spans (Del key) h = absurd cc
split_spans (Wipe span) h = absurd cc
split_spans (Move from to by) h = absurd cc
split_spans (Split key) h = refl

-- so two splits meet
splits_meet : (q r : Request) → IsTrue (is_split q) → IsTrue (is_split r) → IsTrue (any_meet (spans_of q) (spans_of r))
splits_meet q r h k = ap (λ x. any_meet x (spans_of r)) (split_spans q h) ∙ ap (any_meet (alone whole)) (split_spans r k)

-- a key that two requests cover lies in the key space, or the two meet
shared : (q r : Request) (key : ℕ) → HasKeys q → HasKeys r → IsTrue (covers q key) → IsTrue (covers r key) → IsFalse (any_meet (spans_of q) (spans_of r)) → key < 2 ^ 128 - 1
shared q r key h k c d a = go (is_split q) (is_split r) refl refl where
  go : (x y : Bool) → is_split q ≡ x → is_split r ≡ y → key < 2 ^ 128 - 1
  go false y i j = inside q key h i c
  go true false i j = inside r key k j d
  go true true i j = let both : IsTrue (any_meet (spans_of q) (spans_of r)) = splits_meet q r i j in absurd cc

pub apart : (q r : Request) → HasKeys q → HasKeys r → IsFalse (any_meet (spans_of q) (spans_of r)) → Apart (covers q) (covers r)
apart q r h k a key c = go (covers r key) refl where
  go : (b : Bool) → covers r key ≡ b → IsFalse (covers r key)
  go false d = d
  go true d =
      let low : key < 2 ^ 128 - 1 = shared q r key h k c d a in
      let both : IsTrue (any_meet (spans_of q) (spans_of r)) =
      meet_some (span_list (spans_of q)) (span_list (spans_of r)) key (sym (by_spans q key low) ∙ c) (sym (by_spans r key low) ∙ d) in
      absurd cc
