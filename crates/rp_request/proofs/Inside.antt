-- The writes of a batch lie where the request covers.
use Rattle.std.proofs.Common.{ℕ, zero, suc, ◌+◌, ◌-◌, ◌<◌, Bool, true, false, cond, ◌||◌, ◌==◌, IsTrue, List, [], ◌∷◌, length, get_or, is_some, Option, None, refl, sym, ap, ◌∙◌, arith}
use Rattle.std.proofs.lemmas.Bool.Decides.{nat_tests}
use Rattle.std.proofs.lemmas.List.Elements.{All-nil, All-cons, All-head, All-tail}
use Rattle.std.specs.Ordering.{nat_cmp, eq_by_cmp}
use Rattle.std.specs.List.{All, list_any}
use Rattle.std.specs.FinMap.{get, retain_keys, keys, contains_key-keys}
use Rattle.rp_base.specs.Keys.{end_of}
use Rattle.rp_base.specs.declared.values.Value.{Value}
use Rattle.rp_base.specs.declared.values.Value.TheVariants.{Number}
use Rattle.rp_request.specs.declared.commands.Op.{Op}
use Rattle.rp_request.specs.declared.commands.Op.TheVariants.{Set, Remove}
use Rattle.rp_request.specs.declared.requests.Request.{Request}
use Rattle.rp_request.specs.declared.requests.Request.TheVariants.{Put, Add, CPut, Del, Wipe, Move, Split}
use Rattle.rp_base.specs.Tables.{Table, value_at, is_between, part}
use Rattle.rp_request.specs.Covers.{covers}
use Rattle.rp_request.proofs.KeyTests.{itself, covers_from, covers_to}
use Rattle.rp_request.proofs.Tables.{get_kept}
use Rattle.rp_request.specs.Batches.{removes, batch_of, key_of}

same_key : (k : ℕ) → IsTrue (eq_by_cmp nat_cmp k k)
same_key k = grind (arith, nat_tests)

left_way : (a b : Bool) → IsTrue a → IsTrue (a || b)
left_way a b h = ap (λ x. x || b) h

right_way : (a b : Bool) → IsTrue b → IsTrue (a || b)
right_way true b h = refl
right_way false b h = h

-- a key of a list is among its keys
among : (ks : List ℕ) (i d : ℕ) → i < length ks → IsTrue (list_any (eq_by_cmp nat_cmp (get_or ks i d)) ks)
among [] i d l = absurd (omega arith)
among (k ∷ ks) zero d l = left_way _ (list_any (eq_by_cmp nat_cmp k) ks) (same_key k)
among (k ∷ ks) (suc i) d l = right_way (eq_by_cmp nat_cmp (get_or ks i d) k) _ (among ks i d (omega arith))

passes : (b : Bool) (o : Option Value) → IsTrue (is_some (cond b o None)) → IsTrue b
passes true o h = refl
passes false o h = absurd cc

-- the keys of a part pass its test
pub keys_pass : (t : Table) (p : ℕ → Bool) → All (λ k. IsTrue (p k)) (keys (retain_keys t p))
keys_pass t p i d l =
    let k = get_or (keys (retain_keys t p)) i d in
    passes (p k) (get t k) (sym (ap is_some (get_kept t p k)) ∙ contains_key-keys (retain_keys t p) k ∙ among (keys (retain_keys t p)) i d l)

all_removed : (P : ℕ → Type 0) (ks : List ℕ) → All P ks → All (λ op. P (key_of op)) (removes ks)
all_removed P [] h = All-nil (λ op. P (key_of op))
all_removed P (k ∷ ks) h = All-cons (λ op. P (key_of op)) (Remove k) (removes ks) (All-head P k ks h) (all_removed P ks (All-tail P k ks h))

-- one write, and two
only : (P : Op → Type 0) (op : Op) → P op → All P (op ∷ [])
only P op h = All-cons P op [] h (All-nil P)

pair : (P : Op → Type 0) (b : Bool) (x y z : Op) → P x → P y → P z → All P (cond b (x ∷ []) (y ∷ z ∷ []))
pair P true x y z h k l = only P x h
pair P false x y z h k l = All-cons P y (z ∷ []) k (only P z l)

-- the write is to a key that the request covers
abbrev Covered : Request → Op → Type 0
Covered r op = IsTrue (covers r (key_of op))

pub inside : (t : Table) (r : Request) → All (λ op. IsTrue (covers r (key_of op))) (batch_of t r)
inside t (Put key value) = only (Covered (Put key value)) (Set key value) (itself key)
inside t (Add key by) = only (Covered (Add key by)) (Set key (Number (value_at t key + by))) (itself key)
inside t (CPut key expect value) = only (Covered (CPut key expect value)) (Set key value) (itself key)
inside t (Del key) = only (Covered (Del key)) (Remove key) (itself key)
inside t (Wipe span) = all_removed (λ k. IsTrue (is_between span.start (end_of span.end) k)) (keys (part t span.start (end_of span.end))) (keys_pass t (is_between span.start (end_of span.end)))
inside t (Move from to by) =
    pair (Covered (Move from to by)) (from == to) (Set from (Number (value_at t from))) (Set from (Number (value_at t from - by))) (Set to (Number (value_at t to + by))) (covers_from from to) (covers_from from to) (covers_to from to)
inside t (Split key) = All-nil (λ op. IsTrue (covers (Split key) (key_of op)))
