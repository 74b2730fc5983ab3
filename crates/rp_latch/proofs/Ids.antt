-- Where the tags of an id stand.
use Rattle.std.proofs.Common.{◌≡◌, ℕ, ◌<◌, ◌≤◌, Bool, true, false, ◌&&◌, ◌==◌, nat_lt, List, length, get_or, IsTrue, IsFalse, refl, sym, ap, subst, ◌∙◌, arith}
use Rattle.std.proofs.lemmas.Bool.Decides.{nat_tests}
use Rattle.std.proofs.lemmas.List.Folds.{list_any_none}
use Rattle.std.specs.Ordering.{is_lt}
use Rattle.std.specs.declared.cmp.Ordering.TheVariants.{Equal}
use Rattle.std.specs.List.{AllWithin, list_any, insert}
use Rattle.std.specs.List.Sorted.{IsPartitionedBy}
use Rattle.rp_base.specs.declared.ids.CmdId.{CmdId}
use Rattle.rp_latch.specs.declared.tags.Tag.{Tag}
use Rattle.rp_base.specs.Ids.{same_id}
use Rattle.rp_base.proofs.IdLaws.{cmd_before_too, cmd_itself, cmd_neither_before, cmd_not_both, same_is}
use Rattle.rp_latch.specs.Indexes.{id_cmp, is_before, has_id, IsNotAfter, ById}
use Rattle.rp_latch.proofs.Elements.{pairs_insert}

-- an id whose client and number have changed places: the order of tags is the order of such ids
abbrev turned : CmdId → CmdId
turned id = record { client = id.seq; seq = id.client; attempt = id.attempt }

same_turned : (x y : CmdId) → same_id (turned x) (turned y) ≡ same_id x y
same_turned x y = go (x.seq == y.seq) (x.client == y.client) where
  go : (a b : Bool) → (a && b && x.attempt == y.attempt) ≡ (b && a && x.attempt == y.attempt)
  go true true = refl
  go true false = refl
  go false true = refl
  go false false = refl

itself : (x : CmdId) → id_cmp x x ≡ Equal
itself x = cmd_itself (turned x)

not_both : (x y : CmdId) → is_lt (id_cmp x y) ≡ true → is_lt (id_cmp y x) ≡ false
not_both x y = cmd_not_both (turned x) (turned y)

before_too : (x y z : CmdId) → is_lt (id_cmp y x) ≡ false → is_lt (id_cmp y z) ≡ true → is_lt (id_cmp x z) ≡ true
before_too x y z = cmd_before_too (turned x) (turned y) (turned z)

neither_before : (x y : CmdId) → is_lt (id_cmp x y) ≡ false → is_lt (id_cmp y x) ≡ false → same_id x y ≡ true
neither_before x y h k = sym (same_turned x y) ∙ cmd_neither_before (turned x) (turned y) h k

-- tags in order are parted by an id
pub parted : (ts : List Tag) (id : CmdId) → ById ts → IsPartitionedBy (is_before id) ts
parted ts id h i j d l b = go (nat_lt i j) refl where
  go : (t : Bool) → nat_lt i j ≡ t → is_before id (get_or ts j d) ≡ true → is_before id (get_or ts i d) ≡ true
  go true t e = let lt : i < j = grind (arith, nat_tests) in before_too (get_or ts i d).id (get_or ts j d).id id (h i j d lt b) e
  go false t e = let same : i ≡ j = grind (arith, nat_tests) in subst (λ (k : ℕ). is_before id (get_or ts k d) ≡ true) (sym same) e

module _ (ts : List Tag) (h : ById ts) (id : CmdId) (n : ℕ)
    (before : AllWithin (λ t. IsTrue (is_before id t)) ts 0 n) (after : AllWithin (λ t. IsFalse (is_before id t)) ts n (length ts)) where
  pub put_by_id : (x : Tag) → x.id ≡ id → n ≤ length ts → ById (insert ts n x)
  put_by_id x is w =
      pairs_insert IsNotAfter ts n x w h
      (λ k d l m. subst (λ (i : CmdId). is_lt (id_cmp i (get_or ts k d).id) ≡ false) (sym is) (not_both (get_or ts k d).id id (before k d l m)))
      (λ k d l m. subst (λ (i : CmdId). is_lt (id_cmp (get_or ts k d).id i) ≡ false) (sym is) (after k d l m))

  -- where the tag at the place has another id, or there is none, no tag has the id
  other_before : (t : Tag) → is_before id t ≡ true → has_id id t ≡ false
  other_before t e = go (has_id id t) refl where
    go : (b : Bool) → has_id id t ≡ b → has_id id t ≡ false
    go true same =
        absurd (let one : id_cmp t.id id ≡ Equal = ap (λ (i : CmdId). id_cmp t.id i) (sym (same_is t.id id same)) ∙ itself t.id in
        let not_less : is_lt (id_cmp t.id id) ≡ false = ap is_lt one in cc)
    go false other = other

  first_has : (k : ℕ) (d : Tag) → n ≤ k → k < length ts → has_id id (get_or ts k d) ≡ true → (b : Bool) → nat_lt n k ≡ b → has_id id (get_or ts n d) ≡ true
  first_has k d l m same true t =
      let low : n < k = grind (arith, nat_tests) in
      let not_after : is_lt (id_cmp (get_or ts k d).id (get_or ts n d).id) ≡ false = h n k d low m in
      neither_before (get_or ts n d).id id (after n d (omega arith) (omega arith))
      (subst (λ (i : CmdId). is_lt (id_cmp i (get_or ts n d).id) ≡ false) (same_is (get_or ts k d).id id same) not_after)
  first_has k d l m same false t =
      let here : k ≡ n = grind (arith, nat_tests) in
      subst (λ (i : ℕ). has_id id (get_or ts i d) ≡ true) here same

  pub none_has : ((d : Tag) → n < length ts → has_id id (get_or ts n d) ≡ false) → list_any (has_id id) ts ≡ false
  none_has other = list_any_none (has_id id) ts (λ k d l. go k d l (nat_lt k n) refl) where
    behind : (k : ℕ) (d : Tag) → n ≤ k → k < length ts → (b : Bool) → has_id id (get_or ts k d) ≡ b → has_id id (get_or ts k d) ≡ false
    behind k d l m true same =
        absurd (let first : has_id id (get_or ts n d) ≡ true = first_has k d l m same (nat_lt n k) refl in
        let none : has_id id (get_or ts n d) ≡ false = other d (omega arith) in cc)
    behind k d l m false other_id = other_id

    go : (k : ℕ) (d : Tag) → k < length ts → (b : Bool) → nat_lt k n ≡ b → has_id id (get_or ts k d) ≡ false
    go k d l true t = let low : k < n = grind (arith, nat_tests) in other_before (get_or ts k d) (before k d (omega arith) low)
    go k d l false t = let high : n ≤ k = grind (arith, nat_tests) in behind k d high l (has_id id (get_or ts k d)) refl
