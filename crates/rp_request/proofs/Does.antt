-- The batch of a request does what its effect does.
use Rattle.std.proofs.Common.{◌≡◌, ℕ, ◌+◌, ◌-◌, ◌≤◌, Bool, true, false, cond, not, ◌||◌, ◌==◌, nat_lt, List, [], ◌∷◌, length, is_some, IfOk, Option, Some, None, Result, Ok, Err, refl, sym, ap, subst, ◌∙◌, arith}
use Rattle.std.proofs.lemmas.List.{length-map}
use Rattle.std.specs.Option.{option_eq}
use Rattle.std.specs.Ordering.{nat_cmp, eq_by_cmp}
use Rattle.std.specs.List.{list_any}
use Rattle.std.specs.FinMap.{get, insert, remove, keys, entries, len, len-entries, contains_key-keys}
use Rattle.rp_base.specs.Keys.{end_of}
use Rattle.rp_base.specs.Splits.{split_of}
use Rattle.rp_base.specs.declared.ranges.Desc.{Desc}
use Rattle.rp_base.specs.declared.ranges.SplitFault.{SplitFault}
use Rattle.rp_base.specs.declared.ranges.SplitFault.TheVariants.{NotInside, SplitLimit}
use Rattle.rp_base.specs.Values.{value_eq}
use Rattle.rp_base.specs.declared.values.Value.{Value}
use Rattle.rp_base.specs.declared.values.Value.TheVariants.{Number}
use Rattle.rp_request.specs.declared.commands.Op.TheVariants.{Set}
use Rattle.rp_request.specs.declared.requests.Request.{Request}
use Rattle.rp_request.specs.declared.requests.Request.TheVariants.{Put, Add, CPut, Del, Wipe, Move, Split}
use Rattle.rp_request.specs.declared.outcomes.Refusal.{Refusal}
use Rattle.rp_request.specs.declared.outcomes.Reply.TheVariants.{Now}
use Rattle.rp_base.specs.Tables.{Table, greatest, value_at, holds_text, is_between, part, count_in, without, below}
use Rattle.rp_request.specs.Effect.{Effect, effect, writes, pass_on, split}
use Rattle.rp_request.proofs.Tables.{same_table, get_kept, get_removed}
use Rattle.rp_request.specs.declared.evaluations.Evaluated.{Evaluated}
use Rattle.rp_request.specs.Batches.{write_all, after_batch, removes, batch_of}
use Rattle.rp_request.specs.Evaluations.{with_batch, evaluated, Does}

either_none : (a b : Bool) (o : Option Value) → cond b None (cond a None o) ≡ cond (a || b) None o
either_none true true o = refl
either_none true false o = refl
either_none false b o = refl

-- the value of a key after keys were removed
get_all_removed : (ks : List ℕ) (t : Table) (q : ℕ) → get (write_all t (removes ks)) q ≡ cond (list_any (eq_by_cmp nat_cmp q) ks) None (get t q)
get_all_removed [] t q = refl
get_all_removed (k ∷ ks) t q =
    get_all_removed ks (remove t k) q
    ∙ ap (cond (list_any (eq_by_cmp nat_cmp q) ks) None) (get_removed t k q)
    ∙ either_none (eq_by_cmp nat_cmp q k) (list_any (eq_by_cmp nat_cmp q) ks) (get t q)

gone : (b : Bool) (o : Option Value) → cond (is_some (cond b o None)) None o ≡ cond (not b) o None
gone true None = refl
gone true (Some x) = refl
gone false o = refl

-- to remove the keys of a span one by one is to take the span away
pub all_gone : (t : Table) (start end : ℕ) → write_all t (removes (keys (part t start end))) ≡ without t start end
all_gone t start end = same_table _ _ (λ q.
    get_all_removed (keys (part t start end)) t q
    ∙ ap (λ b. cond b None (get t q)) (sym (contains_key-keys (part t start end) q))
    ∙ ap (λ o. cond (is_some o) None (get t q)) (get_kept t (is_between start end) q)
    ∙ gone (is_between start end q) (get t q)
    ∙ sym (get_kept t (λ k. not (is_between start end k)) q))

-- one of two results that are so is so
one_of : (P : Effect → Type 0) (b : Bool) (x y : Result Effect Refusal) → IfOk x P → IfOk y P → IfOk (cond b x y) P
one_of P true x y h k = h
one_of P false x y h k = k

module _ (t : Table) (d : Desc) where
  moved : (from to by : ℕ) (b : Bool)
      → IfOk (cond b (writes (insert t from (Number (value_at t from))) d (Now (value_at t from))) (pass_on t d from to by))
      (λ e. write_all t (cond b (Set from (Number (value_at t from)) ∷ []) (Set from (Number (value_at t from - by)) ∷ Set to (Number (value_at t to + by)) ∷ [])) ≡ e.table)
  moved from to by true = refl
  moved from to by false = one_of _ (nat_lt greatest (value_at t to + by)) _ _ tt refl

  cut : (key : ℕ) (r : Result (Desc × Desc) SplitFault) → IfOk (split t key r) (λ e. below t key ≡ e.table)
  cut key (Ok parts) = refl
  cut key (Err NotInside) = tt
  cut key (Err (SplitLimit level)) = tt

  pub batch_does : (r : Request) → IfOk (effect t d r) (λ e. after_batch t r (batch_of t r) ≡ e.table)
  batch_does (Put key value) = refl
  batch_does (Add key by) = one_of _ (holds_text t key) _ _ tt (one_of _ (nat_lt greatest (value_at t key + by)) _ _ tt refl)
  batch_does (CPut key expect value) = one_of _ (option_eq value_eq (get t key) expect) _ _ refl tt
  batch_does (Del key) = refl
  batch_does (Wipe span) = one_of _ (nat_lt 16 (count_in t span.start (end_of span.end))) _ _ tt (all_gone t span.start (end_of span.end))
  batch_does (Move from to by) =
      one_of _ (holds_text t from) _ _ tt (one_of _ (holds_text t to) _ _ tt
      (one_of _ (nat_lt (value_at t from) by) _ _ tt (moved from to by (from == to))))
  batch_does (Split key) = cut key (split_of d key)

  pub evaluated_does : (r : Request) (e : Evaluated) → evaluated t d r ≡ Ok e → Does t d r e
  evaluated_does r e h = go (effect t d r) refl h (batch_does r) where
    go : (x : Result Effect Refusal) → effect t d r ≡ x → with_batch (batch_of t r) x ≡ Ok e → IfOk x (λ y. after_batch t r (batch_of t r) ≡ y.table) → Does t d r e
    go (Ok left) is h done =
        let same : record { batch = batch_of t r; reply = left.reply } ≡ e = cc in
        subst (Does t d r) same (record { left = left; takes = is; table = done; reply = refl })
    go (Err refusal) is h done = absurd cc

-- a list of keys is as long as the map is large
pub few_keys : (m : Table) (ks : List ℕ) (n : ℕ) → ks ≡ keys m → n ≡ len m → n ≤ 16 → length ks ≤ 16
few_keys m ks n e h l =
    let long : length ks ≡ n = ap length e ∙ length-map (entries m) (λ x. x.0) ∙ sym (len-entries m) ∙ sym h in
    omega arith
