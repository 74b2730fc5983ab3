-- An effect reads and changes only what its request covers.
use Rattle.std.proofs.Common.{◌≡◌, ℕ, ◌+◌, ◌-◌, Bool, true, false, cond, not, ◌==◌, nat_lt, IsTrue, IsFalse, IfOk, Option, Some, None, Result, Ok, Err, refl, sym, ap, subst, ◌∙◌, arith}
use Rattle.std.proofs.lemmas.Bool.Decides.{nat_tests}
use Rattle.std.specs.Ordering.{nat_cmp, eq_by_cmp}
use Rattle.std.specs.FinMap.{get, insert, remove, retain_keys, len}
use Rattle.std.specs.Option.{option_eq}
use Rattle.rp_base.specs.Keys.{end_of}
use Rattle.rp_base.specs.Splits.{split_of}
use Rattle.rp_base.specs.Values.{value_eq, is_text, number_in}
use Rattle.rp_base.specs.declared.ranges.SplitFault.{SplitFault}
use Rattle.rp_base.specs.declared.ranges.SplitFault.TheVariants.{NotInside, SplitLimit}
use Rattle.rp_base.specs.declared.ranges.Desc.{Desc}
use Rattle.rp_base.specs.declared.values.Value.{Value}
use Rattle.rp_base.specs.declared.values.Value.TheVariants.{Number}
use Rattle.rp_request.specs.declared.requests.Request.{Request}
use Rattle.rp_request.specs.declared.requests.Request.TheVariants.{Put, Add, CPut, Del, Wipe, Move, Split}
use Rattle.rp_request.specs.declared.outcomes.Reply.{Reply}
use Rattle.rp_request.specs.declared.outcomes.Reply.TheVariants.{Old, Now, Set, Count}
use Rattle.rp_request.specs.declared.outcomes.Refusal.{Refusal}
use Rattle.rp_request.specs.declared.outcomes.Refusal.TheVariants.{ConditionFailed, IsText, Overflow, Short, TooWide}
use Rattle.rp_base.specs.Tables.{Table, greatest, value_at, holds_text, is_between, part, count_in, without}
use Rattle.rp_request.specs.Covers.{covers, is_split, Apart}
use Rattle.rp_request.specs.Effect.{Effect, effect, seen, writes, add, put_if, wipe, move, split}
use Rattle.rp_request.proofs.KeyTests.{itself, covers_from, covers_to}
use Rattle.rp_request.proofs.Tables.{same_table, get_kept, get_inserted, get_removed}

-- the same part has the same value at a key that it has
pub read : (p : ℕ → Bool) (s t : Table) (k : ℕ) → retain_keys s p ≡ retain_keys t p → IsTrue (p k) → get s k ≡ get t k
read p s t k e h =
    let at : cond (p k) (get s k) None ≡ cond (p k) (get t k) None = sym (get_kept s p k) ∙ ap (λ m. get m k) e ∙ get_kept t p k in
    sym (ap (λ b. cond b (get s k) None) h) ∙ at ∙ ap (λ b. cond b (get t k) None) h

-- two tables have the same part, where they have the same value at each key of it
pub by_key : (p : ℕ → Bool) (u v : Table) → ((q : ℕ) → IsTrue (p q) → get u q ≡ get v q) → retain_keys u p ≡ retain_keys v p
by_key p u v h = same_table _ _ (λ q. get_kept u p q ∙ go q (p q) refl ∙ sym (get_kept v p q)) where
  go : (q : ℕ) (b : Bool) → p q ≡ b → cond (p q) (get u q) None ≡ cond (p q) (get v q) None
  go q true i = ap (λ o. cond (p q) o None) (h q i)
  go q false i = ap (λ b. cond b (get u q) None) i ∙ sym (ap (λ b. cond b (get v q) None) i)

module _ (p : ℕ → Bool) (s t : Table) (e : retain_keys s p ≡ retain_keys t p) where
  -- what is changed alike in both tables leaves them with the same part
  insert_alike : (k : ℕ) (v : Value) → retain_keys (insert s k v) p ≡ retain_keys (insert t k v) p
  insert_alike k v = by_key p _ _ (λ q h. get_inserted s k v q ∙ ap (cond (eq_by_cmp nat_cmp q k) (Some v)) (read p s t q e h) ∙ sym (get_inserted t k v q))

  remove_alike : (k : ℕ) → retain_keys (remove s k) p ≡ retain_keys (remove t k) p
  remove_alike k = by_key p _ _ (λ q h. get_removed s k q ∙ ap (cond (eq_by_cmp nat_cmp q k) None) (read p s t q e h) ∙ sym (get_removed t k q))

  keep_alike : (f : ℕ → Bool) → retain_keys (retain_keys s f) p ≡ retain_keys (retain_keys t f) p
  keep_alike f = by_key p _ _ (λ q h. get_kept s f q ∙ ap (λ o. cond (f q) o None) (read p s t q e h) ∙ sym (get_kept t f q))

  -- the numbers are the same
  pub value_alike : (k : ℕ) → IsTrue (p k) → value_at s k ≡ value_at t k
  value_alike k h = ap number_in (read p s t k e h)

module _ (p : ℕ → Bool) (d : Desc) where
  -- the same part and reply are seen alike
  written : (u v : Table) (x y : Reply) → retain_keys u p ≡ retain_keys v p → x ≡ y → seen p (writes u d x) ≡ seen p (writes v d y)
  written u v x y e h = λ i. Ok (record { table = e i; desc = d; reply = h i })

  -- so is one of two that are
  chosen : (b : Bool) (x y v w : Result Effect Refusal) → seen p x ≡ seen p v → seen p y ≡ seen p w → seen p (cond b x y) ≡ seen p (cond b v w)
  chosen true x y v w e h = e
  chosen false x y v w e h = h

-- the effects, by the values that they read
module _ (d : Desc) where
  raised : Table → ℕ → ℕ → ℕ → Result Effect Refusal
  raised m key by v = cond (nat_lt greatest (v + by)) (Err (Overflow v)) (writes (insert m key (Number (v + by))) d (Now (v + by)))

  added : Table → ℕ → ℕ → Option Value → Result Effect Refusal
  added m key by o = cond (is_text o) (Err (IsText key)) (raised m key by (number_in o))

  put_where : Table → ℕ → Option Value → Value → Option Value → Result Effect Refusal
  put_where m key expect value o = cond (option_eq value_eq o expect) (writes (insert m key value) d Set) (Err (ConditionFailed o))

  wiped : Table → ℕ → ℕ → ℕ → Result Effect Refusal
  wiped m start end n = cond (nat_lt 16 n) (Err (TooWide n)) (writes (without m start end) d (Count n))

  given : Table → ℕ → ℕ → ℕ → ℕ → ℕ → Result Effect Refusal
  given m from to by v w = cond (nat_lt v by) (Err (Short v)) (cond (from == to) (writes (insert m from (Number v)) d (Now v))
      (cond (nat_lt greatest (w + by)) (Err (Overflow w)) (writes (insert (insert m from (Number (v - by))) to (Number (w + by))) d (Now (v - by)))))

  moved : Table → ℕ → ℕ → ℕ → Option Value → Option Value → Result Effect Refusal
  moved m from to by o q = cond (is_text o) (Err (IsText from)) (cond (is_text q) (Err (IsText to)) (given m from to by (number_in o) (number_in q)))

module _ (p : ℕ → Bool) (s t : Table) (e : retain_keys s p ≡ retain_keys t p) (d : Desc) where
  reads_put : (key : ℕ) (value : Value) → IsTrue (p key) → seen p (writes (insert s key value) d (Old (get s key))) ≡ seen p (writes (insert t key value) d (Old (get t key)))
  reads_put key value h = written p d _ _ _ _ (insert_alike p s t e key value) (ap Old (read p s t key e h))

  reads_add : (key by : ℕ) → IsTrue (p key) → seen p (add s d key by) ≡ seen p (add t d key by)
  unfolding added raised
  reads_add key by h =
      let o = get s key in
      let v = number_in o in
      chosen p d (is_text o) (Err (IsText key)) _ (Err (IsText key)) _ refl
      (chosen p d (nat_lt greatest (v + by)) (Err (Overflow v)) (writes (insert s key (Number (v + by))) d (Now (v + by))) (Err (Overflow v)) (writes (insert t key (Number (v + by))) d (Now (v + by)))
      refl (written p d _ _ _ _ (insert_alike p s t e key (Number (v + by))) refl))
      ∙ ap (λ w. seen p (added d t key by w)) (read p s t key e h)

  reads_put_if : (key : ℕ) (expect : Option Value) (value : Value) → IsTrue (p key) → seen p (put_if s d key expect value) ≡ seen p (put_if t d key expect value)
  unfolding put_where
  reads_put_if key expect value h =
      let o = get s key in
      chosen p d (option_eq value_eq o expect) (writes (insert s key value) d Set) (Err (ConditionFailed o)) (writes (insert t key value) d Set) (Err (ConditionFailed o))
      (written p d _ _ _ _ (insert_alike p s t e key value) refl) refl
      ∙ ap (λ w. seen p (put_where d t key expect value w)) (read p s t key e h)

  reads_del : (key : ℕ) → IsTrue (p key) → seen p (writes (remove s key) d (Old (get s key))) ≡ seen p (writes (remove t key) d (Old (get t key)))
  reads_del key h = written p d _ _ _ _ (remove_alike p s t e key) (ap Old (read p s t key e h))

  reads_wipe : (start end : ℕ) → part s start end ≡ part t start end → seen p (wipe s d start end) ≡ seen p (wipe t d start end)
  unfolding wiped
  reads_wipe start end h =
      let n = count_in s start end in
      chosen p d (nat_lt 16 n) (Err (TooWide n)) (writes (without s start end) d (Count n)) (Err (TooWide n)) (writes (without t start end) d (Count n))
      refl (written p d _ _ _ _ (keep_alike p s t e (λ k. not (is_between start end k))) refl)
      ∙ ap (λ m. seen p (wiped d t start end m)) (ap len h)

  reads_move : (from to by : ℕ) → IsTrue (p from) → IsTrue (p to) → seen p (move s d from to by) ≡ seen p (move t d from to by)
  unfolding moved given
  reads_move from to by h k =
      let o = get s from in
      let q = get s to in
      let v = number_in o in
      let w = number_in q in
      chosen p d (is_text o) (Err (IsText from)) _ (Err (IsText from)) _ refl
      (chosen p d (is_text q) (Err (IsText to)) _ (Err (IsText to)) _ refl
      (chosen p d (nat_lt v by) (Err (Short v)) _ (Err (Short v)) _ refl
      (chosen p d (from == to) (writes (insert s from (Number v)) d (Now v)) _ (writes (insert t from (Number v)) d (Now v)) _ (written p d _ _ _ _ (insert_alike p s t e from (Number v)) refl)
      (chosen p d (nat_lt greatest (w + by)) (Err (Overflow w)) (writes (insert (insert s from (Number (v - by))) to (Number (w + by))) d (Now (v - by))) (Err (Overflow w)) (writes (insert (insert t from (Number (v - by))) to (Number (w + by))) d (Now (v - by)))
      refl (written p d _ _ _ _ (insert_alike p _ _ (insert_alike p s t e from (Number (v - by))) to (Number (w + by))) refl)))))
      ∙ ap (λ x. seen p (moved d t from to by x q)) (read p s t from e h)
      ∙ ap (λ x. seen p (moved d t from to by (get t from) x)) (read p s t to e k)

  reads_split : (key : ℕ) (r : Result (Desc × Desc) SplitFault) → seen p (split s key r) ≡ seen p (split t key r)
  reads_split key (Ok parts) = written p parts.0 _ _ _ _ (keep_alike p s t e (λ k. nat_lt k key)) refl
  reads_split key (Err NotInside) = refl
  reads_split key (Err (SplitLimit level)) = refl

pub reads : (s t : Table) (d : Desc) (r : Request) → retain_keys s (covers r) ≡ retain_keys t (covers r)
    → seen (covers r) (effect s d r) ≡ seen (covers r) (effect t d r)
reads s t d (Put key value) e = reads_put (covers (Put key value)) s t e d key value (itself key)
reads s t d (Add key by) e = reads_add (covers (Add key by)) s t e d key by (itself key)
reads s t d (CPut key expect value) e = reads_put_if (covers (CPut key expect value)) s t e d key expect value (itself key)
reads s t d (Del key) e = reads_del (covers (Del key)) s t e d key (itself key)
reads s t d (Wipe span) e = reads_wipe (covers (Wipe span)) s t e d span.start (end_of span.end) e
reads s t d (Move from to by) e = reads_move (covers (Move from to by)) s t e d from to by (covers_from from to) (covers_to from to)
reads s t d (Split key) e = reads_split (covers (Split key)) s t e d key (split_of d key)

-- what passes a test is not what does not
other : (p : ℕ → Bool) (q k : ℕ) → IsTrue (p q) → IsFalse (p k) → eq_by_cmp nat_cmp q k ≡ false
other p q k i j = go (eq_by_cmp nat_cmp q k) refl where
  go : (b : Bool) → eq_by_cmp nat_cmp q k ≡ b → eq_by_cmp nat_cmp q k ≡ false
  go true e = let same : q ≡ k = grind (arith, nat_tests) in let here : p k ≡ true = subst (λ x. p x ≡ true) same i in absurd cc
  go false e = e

-- apart from what is covered
not_covered : (p r : ℕ → Bool) (k : ℕ) → Apart p r → IsTrue (r k) → IsFalse (p k)
not_covered p r k a h = go (p k) refl where
  go : (b : Bool) → p k ≡ b → p k ≡ false
  go true e = let no : r k ≡ false = a k e in absurd cc
  go false e = e

module _ (s : Table) (p : ℕ → Bool) where
  insert_leaves : (k : ℕ) (v : Value) → IsFalse (p k) → retain_keys (insert s k v) p ≡ retain_keys s p
  insert_leaves k v n = by_key p _ _ (λ q h. get_inserted s k v q ∙ ap (λ b. cond b (Some v) (get s q)) (other p q k h n))

  remove_leaves : (k : ℕ) → IsFalse (p k) → retain_keys (remove s k) p ≡ retain_keys s p
  remove_leaves k n = by_key p _ _ (λ q h. get_removed s k q ∙ ap (λ b. cond b None (get s q)) (other p q k h n))

  keep_leaves : (f : ℕ → Bool) → ((q : ℕ) → IsTrue (p q) → IsTrue (f q)) → retain_keys (retain_keys s f) p ≡ retain_keys s p
  keep_leaves f h = by_key p _ _ (λ q i. get_kept s f q ∙ ap (λ b. cond b (get s q) None) (h q i))

  -- the part is as it was
  abbrev Leaves : Effect → Type 0
  Leaves e = retain_keys e.table p ≡ retain_keys s p

-- one of two results that are so is so
one_of : (P : Effect → Type 0) (b : Bool) (x y : Result Effect Refusal) → IfOk x P → IfOk y P → IfOk (cond b x y) P
one_of P true x y h k = h
one_of P false x y h k = k

pub leaves : (s : Table) (d : Desc) (r : Request) (p : ℕ → Bool) → Apart p (covers r)
    → IfOk (effect s d r) (λ e. retain_keys e.table p ≡ retain_keys s p)
leaves s d (Put key value) p a = insert_leaves s p key value (not_covered p (covers (Put key value)) key a (itself key))
leaves s d (Add key by) p a =
    one_of (Leaves s p) (holds_text s key) _ _ tt
    (one_of (Leaves s p) (nat_lt greatest (value_at s key + by)) _ _ tt (insert_leaves s p key _ (not_covered p (covers (Add key by)) key a (itself key))))
leaves s d (CPut key expect value) p a =
    one_of (Leaves s p) (option_eq value_eq (get s key) expect) _ _ (insert_leaves s p key value (not_covered p (covers (CPut key expect value)) key a (itself key))) tt
leaves s d (Del key) p a = remove_leaves s p key (not_covered p (covers (Del key)) key a (itself key))
leaves s d (Wipe span) p a =
    one_of (Leaves s p) (nat_lt 16 (count_in s span.start (end_of span.end))) _ _ tt
    (keep_leaves s p (λ k. not (is_between span.start (end_of span.end) k)) (λ q h. ap not (a q h)))
leaves s d (Move from to by) p a =
    let no_from = not_covered p (covers (Move from to by)) from a (covers_from from to) in
    let no_to = not_covered p (covers (Move from to by)) to a (covers_to from to) in
    one_of (Leaves s p) (holds_text s from) _ _ tt
    (one_of (Leaves s p) (holds_text s to) _ _ tt
    (one_of (Leaves s p) (nat_lt (value_at s from) by) _ _ tt
    (one_of (Leaves s p) (from == to) _ _ (insert_leaves s p from _ no_from)
    (one_of (Leaves s p) (nat_lt greatest (value_at s to + by)) _ _ tt
    (insert_leaves (insert s from (Number (value_at s from - by))) p to _ no_to ∙ insert_leaves s p from _ no_from)))))
leaves s d (Split key) p a = leaves_split s p a key (split_of d key) where
  leaves_split : (s : Table) (p : ℕ → Bool) → Apart p (λ _. true) → (key : ℕ) (r : Result (Desc × Desc) SplitFault) → IfOk (split s key r) (λ e. retain_keys e.table p ≡ retain_keys s p)
  leaves_split s p a key (Ok parts) = keep_leaves s p (λ k. nat_lt k key) (λ q h. let no = a q h in absurd cc)
  leaves_split s p a key (Err NotInside) = tt
  leaves_split s p a key (Err (SplitLimit level)) = tt

module _ (s : Table) (d : Desc) where
  abbrev SameDesc : Effect → Type 0
  SameDesc e = e.desc ≡ d

  pub keeps_desc : (r : Request) → IsFalse (is_split r) → IfOk (effect s d r) (λ e. e.desc ≡ d)
  keeps_desc (Put key value) n = refl
  keeps_desc (Add key by) n =
      one_of SameDesc (holds_text s key) _ _ tt (one_of SameDesc (nat_lt greatest (value_at s key + by)) _ _ tt refl)
  keeps_desc (CPut key expect value) n = one_of SameDesc (option_eq value_eq (get s key) expect) _ _ refl tt
  keeps_desc (Del key) n = refl
  keeps_desc (Wipe span) n = one_of SameDesc (nat_lt 16 (count_in s span.start (end_of span.end))) _ _ tt refl
  keeps_desc (Move from to by) n =
      one_of SameDesc (holds_text s from) _ _ tt
      (one_of SameDesc (holds_text s to) _ _ tt
      (one_of SameDesc (nat_lt (value_at s from) by) _ _ tt
      (one_of SameDesc (from == to) _ _ refl (one_of SameDesc (nat_lt greatest (value_at s to + by)) _ _ tt refl))))
  keeps_desc (Split key) n = absurd cc
