-- What is evaluated on a table of rows of their widths has the widths of a command.
use Rattle.std.proofs.Common.{◌≡◌, ℕ, zero, suc, ◌+◌, ◌-◌, ◌<◌, ◌≤◌, ◌^◌, ◌==◌, nat_lt, Bool, true, false, cond, List, [], ◌∷◌, Option, None, Some, Result, Ok, Err, is_some, Less, Equal, Greater, refl, sym, subst, ◌∙◌, arith}
use Rattle.std.proofs.lemmas.Bool.Decides.{nat_tests}
use Rattle.std.specs.Prelude.{◌||◌, IfOk}
use Rattle.std.specs.List.{AllByRecursion, list_any}
use Rattle.std.specs.Option.{option_eq}
use Rattle.std.specs.Ordering.{nat_cmp, eq_by_cmp, is_eq}
use Rattle.std.specs.declared.cmp.Ordering.{Ordering}
use Rattle.std.specs.FinMap.{get, insert, remove, keys, retain_keys, contains_key-keys, nat_cmp-IsAntisymmetric}
use Rattle.rp_base.specs.Keys.{IsKey, end_of}
use Rattle.rp_base.specs.Splits.{right_part, parts_of}
use Rattle.rp_base.specs.Values.{IsValue, value_eq, number_in}
use Rattle.rp_base.specs.declared.ranges.Desc.{Desc}
use Rattle.rp_base.specs.declared.ranges.SplitFault.TheVariants as faults
use Rattle.rp_base.specs.declared.values.Value.{Value}
use Rattle.rp_base.specs.declared.values.Value.TheVariants.{Number, Text}
use Rattle.rp_request.specs.declared.commands.Op.{Op}
use Rattle.rp_request.specs.declared.commands.Op.TheVariants.{Set, Remove}
use Rattle.rp_request.specs.declared.requests.Request.{Request}
use Rattle.rp_request.specs.declared.requests.Request.TheVariants.{Put, Add, CPut, Del, Wipe, Move, Split}
use Rattle.rp_base.specs.Tables.{Table, greatest, value_at, holds_text, part, is_between, count_in}
use Rattle.rp_request.specs.Effect.{Effect, effect, split, pass_on, writes}
use Rattle.rp_request.specs.declared.outcomes.Refusal.{Refusal}
use Rattle.rp_request.specs.declared.outcomes.Reply.TheVariants.{Now}
use Rattle.rp_request.proofs.Tables.{get_kept, get_inserted, get_removed}
use Rattle.rp_request.specs.Batches.{write_all, after_batch, removes, moves, batch_of}
use Rattle.rp_request.specs.Evaluations.{with_batch, evaluated}
use Rattle.rp_request.proofs.Few.{few_writes}
use Rattle.rp_request.specs.declared.evaluations.Evaluated.{Evaluated}
use Rattle.rp_request.specs.Fits.{FitsOption, FitsRequest, FitsReply, FitsOp, FitsBatch}

-- each row has a key, and a value of its width
abbrev pub FitsTable : Table → Type 0
FitsTable t = (q : ℕ) (v : Value) → get t q ≡ Some v → IsKey q × IsValue v

same_key : (q k : ℕ) → eq_by_cmp nat_cmp q k ≡ true → q ≡ k
same_key q k e = go (nat_cmp q k) refl e where
  go : (o : Ordering) → nat_cmp q k ≡ o → is_eq o ≡ true → q ≡ k
  go Less is h = absurd cc
  go Equal is h = nat_cmp-IsAntisymmetric q k is
  go Greater is h = absurd cc

fits_inserted : (t : Table) (k : ℕ) (v : Value) → IsKey k → IsValue v → FitsTable t → FitsTable (insert t k v)
fits_inserted t k v key small h q u e = go (eq_by_cmp nat_cmp q k) refl (sym (get_inserted t k v q) ∙ e) where
  go : (b : Bool) → eq_by_cmp nat_cmp q k ≡ b → cond b (Some v) (get t q) ≡ Some u → IsKey q × IsValue u
  go true s is = (subst IsKey (sym (same_key q k s)) key, subst IsValue (cc) small)
  go false s is = h q u is

fits_removed : (t : Table) (k : ℕ) → FitsTable t → FitsTable (remove t k)
fits_removed t k h q u e = go (eq_by_cmp nat_cmp q k) (sym (get_removed t k q) ∙ e) where
  go : (b : Bool) → cond b None (get t q) ≡ Some u → IsKey q × IsValue u
  go true is = absurd cc
  go false is = h q u is

pub fits_kept : (t : Table) (p : ℕ → Bool) → FitsTable t → FitsTable (retain_keys t p)
fits_kept t p h q u e = go (p q) (sym (get_kept t p q) ∙ e) where
  go : (b : Bool) → cond b (get t q) None ≡ Some u → IsKey q × IsValue u
  go true is = h q u is
  go false is = absurd cc

fits_written : (ops : List Op) (t : Table) → AllByRecursion FitsOp ops → FitsTable t → FitsTable (write_all t ops)
fits_written [] t f h = h
fits_written (Set k v ∷ ops) t f h = fits_written ops (insert t k v) f.1 (fits_inserted t k v (f.0).0 (f.0).1 h)
fits_written (Remove k ∷ ops) t f h = fits_written ops (remove t k) f.1 (fits_removed t k h)

pub fits_after : (t : Table) (r : Request) (ops : List Op) → FitsBatch ops → FitsTable t → FitsTable (after_batch t r ops)
fits_after t (Put key value) ops f h = fits_written ops t f.1 h
fits_after t (Add key by) ops f h = fits_written ops t f.1 h
fits_after t (CPut key expect value) ops f h = fits_written ops t f.1 h
fits_after t (Del key) ops f h = fits_written ops t f.1 h
fits_after t (Wipe span) ops f h = fits_written ops t f.1 h
fits_after t (Move from to by) ops f h = fits_written ops t f.1 h
fits_after t (Split key) ops f h = fits_kept t (λ k. nat_lt k key) h

fits_number : (t : Table) (k : ℕ) → FitsTable t → value_at t k < 2 ^ 64
fits_number t k h = go (get t k) refl where
  go : (o : Option Value) → get t k ≡ o → number_in o < 2 ^ 64
  go None e = omega arith
  go (Some (Number n)) e = (h k (Number n) e).1
  go (Some (Text text)) e = omega arith

fits_get : (t : Table) (k : ℕ) → FitsTable t → FitsOption (get t k)
fits_get t k h = go (get t k) refl where
  go : (o : Option Value) → get t k ≡ o → FitsOption o
  go None e = tt
  go (Some v) e = (h k v e).1

-- each key of a table's part is a key
each_key : (m : Table) → FitsTable m → (ks : List ℕ) → ((q : ℕ) → list_any (eq_by_cmp nat_cmp q) ks ≡ true → is_some (get m q) ≡ true) → AllByRecursion FitsOp (removes ks)
each_key m h [] there = tt
each_key m h (k ∷ ks) there = (is_key (get m k) refl (there k (first (eq_by_cmp nat_cmp k k) refl)), each_key m h ks (λ q e. there q (more q (eq_by_cmp nat_cmp q k) e))) where
  more : (q : ℕ) (b : Bool) → list_any (eq_by_cmp nat_cmp q) ks ≡ true → (b || list_any (eq_by_cmp nat_cmp q) ks) ≡ true
  more q true e = refl
  more q false e = e

  itself : eq_by_cmp nat_cmp k k ≡ true
  itself = grind (arith, nat_tests)

  first : (b : Bool) → eq_by_cmp nat_cmp k k ≡ b → (b || list_any (eq_by_cmp nat_cmp k) ks) ≡ true
  first true e = refl
  first false e = absurd (let s = itself in cc)

  is_key : (o : Option Value) → get m k ≡ o → is_some o ≡ true → IsKey k
  is_key None e s = absurd cc
  is_key (Some v) e s = (h k v e).0

small : (n : ℕ) → nat_lt greatest n ≡ false → n < 2 ^ 64
small n e = grind (arith, nat_tests)

few_small : (n : ℕ) → nat_lt 16 n ≡ false → n < 2 ^ 64
few_small n e = let l : n ≤ 16 = grind (arith, nat_tests) in omega arith

-- what a request leaves, and its writes
abbrev FitsLeft : List Op → Result Effect Refusal → Type 0
FitsLeft ops x = IfOk x (λ e. FitsReply e.reply × AllByRecursion FitsOp ops)

by_test : (P : Result Effect Refusal → Type 0) (b : Bool) (x y : Result Effect Refusal) → (b ≡ true → P x) → (b ≡ false → P y) → P (cond b x y)
by_test P true x y h k = h refl
by_test P false x y h k = k refl

module _ (t : Table) (d : Desc) (h : FitsTable t) where
  fits_wipe : (start end : ℕ) → AllByRecursion FitsOp (removes (keys (part t start end)))
  fits_wipe start end = each_key (part t start end) (fits_kept t (is_between start end) h) (keys (part t start end))
      (λ q e. contains_key-keys (part t start end) q ∙ e)

  lesser : (k by : ℕ) → value_at t k - by < 2 ^ 64
  lesser k by = let l = fits_number t k h in omega arith

  passes : (from to by : ℕ) → IsKey from → IsKey to → (b : Bool)
      → FitsLeft (cond b (Set from (Number (value_at t from)) ∷ []) (Set from (Number (value_at t from - by)) ∷ Set to (Number (value_at t to + by)) ∷ []))
      (cond b (writes (insert t from (Number (value_at t from))) d (Now (value_at t from))) (pass_on t d from to by))
  passes from to by k l true = (fits_number t from h, ((k, fits_number t from h), tt))
  passes from to by k l false = by_test (FitsLeft (Set from (Number (value_at t from - by)) ∷ Set to (Number (value_at t to + by)) ∷ [])) (nat_lt greatest (value_at t to + by)) _ _
      (λ e. tt) (λ e. (lesser from by, ((k, lesser from by), ((l, small (value_at t to + by) e), tt))))

  right_small : (key : ℕ) (b : Bool) (e : nat_lt d.level 3 ≡ b) → FitsLeft [] (split t key (parts_of d key b e))
  right_small key true e =
      let a = (right_part d key e).level_to_three in
      let c = (right_part d key e).id_of_level in
      (below_eight (right_part d key e).level (right_part d key e).id a c, tt)
    where
      power : (n : ℕ) → n ≤ 3 → 2 ^ n ≤ 8
      power zero l = omega arith
      power (suc zero) l = omega arith
      power (suc (suc zero)) l = omega arith
      power (suc (suc (suc zero))) l = omega arith
      power (suc (suc (suc (suc n)))) l = absurd (omega arith)

      below_eight : (level id : ℕ) → level ≤ 3 → id < 2 ^ level → id ≤ 7
      below_eight level id l k = let p = power level l in omega (arith, p, k)
  right_small key false e = tt

  fits_effect : (r : Request) → FitsRequest r → FitsLeft (batch_of t r) (effect t d r)
  fits_effect (Put key value) f = (fits_get t key h, (f, tt))
  fits_effect (Add key by) f = by_test (FitsLeft (Set key (Number (value_at t key + by)) ∷ [])) (holds_text t key) _ _ (λ e. tt)
      (λ k. by_test (FitsLeft (Set key (Number (value_at t key + by)) ∷ [])) (nat_lt greatest (value_at t key + by)) _ _ (λ e. tt)
      (λ e. (small (value_at t key + by) e, ((f.0, small (value_at t key + by) e), tt))))
  fits_effect (CPut key expect value) f = by_test (FitsLeft (Set key value ∷ [])) (option_eq value_eq (get t key) expect) _ _ (λ e. (tt, ((f.0, f.2), tt))) (λ e. tt)
  fits_effect (Del key) f = (fits_get t key h, (f, tt))
  fits_effect (Wipe span) f = by_test (FitsLeft (removes (keys (part t span.start (end_of span.end))))) (nat_lt 16 (count_in t span.start (end_of span.end))) _ _ (λ e. tt)
      (λ e. (few_small (count_in t span.start (end_of span.end)) e, fits_wipe span.start (end_of span.end)))
  fits_effect (Move from to by) f = by_test (FitsLeft (moves t from to by)) (holds_text t from) _ _ (λ e. tt)
      (λ k. by_test (FitsLeft (moves t from to by)) (holds_text t to) _ _ (λ e. tt)
      (λ l. by_test (FitsLeft (moves t from to by)) (nat_lt (value_at t from) by) _ _ (λ e. tt) (λ e. passes from to by f.0 f.1 (from == to))))
  fits_effect (Split key) f = by_start (key == d.start) where
    by_start : (b : Bool) → FitsLeft [] (split t key (cond b (Err faults.NotInside) (parts_of d key (nat_lt d.level 3) refl)))
    by_start true = tt
    by_start false = right_small key (nat_lt d.level 3) refl

  pub fits_evaluated : (r : Request) (e : Evaluated) → FitsRequest r → evaluated t d r ≡ Ok e → FitsReply e.reply × FitsBatch e.batch
  fits_evaluated r e f is = go (effect t d r) is (fits_effect r f) where
    go : (x : Result Effect Refusal) → with_batch (batch_of t r) x ≡ Ok e → FitsLeft (batch_of t r) x → FitsReply e.reply × FitsBatch e.batch
    go (Ok left) k l =
        let same : record { batch = batch_of t r; reply = left.reply } ≡ e = cc in
        let both = subst (λ (v : Evaluated). FitsReply v.reply × AllByRecursion FitsOp v.batch) same l in
        (both.0, (few_writes t d r e is, both.1))
    go (Err refusal) k l = absurd cc
