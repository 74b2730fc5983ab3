-- What holds are left when one of an attempt is freed.
use Rattle.std.proofs.Common.{◌≡◌, ℕ, zero, suc, ◌+◌, ◌<◌, ◌≤◌, nat_lt, Bool, true, false, cond, not, ◌&&◌, ◌==◌, List, [], ◌∷◌, length, get_or, Option, None, Some, IsTrue, refl, sym, ap, subst, ◌∙◌, arith}
use Rattle.std.proofs.lemmas.Bool.Decides.{nat_tests}
use Rattle.std.proofs.lemmas.List.Folds.{list_any_at}
use Rattle.std.proofs.lemmas.List.{length-map}
use Rattle.std.proofs.lemmas.List.Edits.{length-remove, get_or-remove_below, get_or-remove_above}
use Rattle.std.specs.Prelude.{map}
use Rattle.std.specs.List.{All, filter, list_any, remove, count_by}
use Rattle.rp_base.specs.declared.ids.CmdId.{CmdId}
use Rattle.rp_base.specs.declared.spans.Span.{Span}
use Rattle.rp_latch.specs.declared.ages.Numbered.{Numbered}
use Rattle.rp_latch.specs.declared.index.Latch.{Latch}
use Rattle.rp_latch.specs.declared.tags.Tag.{Tag}
use Rattle.rp_base.proofs.IdLaws.{same_is}
use Rattle.rp_base.specs.Ids.{same_id}
use Rattle.rp_latch.specs.Holds.{is_of_other}
use Rattle.rp_latch.specs.Indexes.{hold_of, has_id, first_latch, second_latch, latch_at, is_latch, IsThere, tag_of, passes, Lists}
use Rattle.rp_base.proofs.Counts.{any_of_count}
use Rattle.rp_latch.proofs.Elements.{left_false, right_false, both_true}
use Rattle.rp_latch.proofs.Conflicts.{lists_any}

-- where no hold is the attempt's, all are others'
all_others : (hs : List Numbered) (id : CmdId) → list_any (λ h. same_id h.hold.id id) hs ≡ false → filter (is_of_other id) (map hold_of hs) ≡ map hold_of hs
all_others [] id e = refl
all_others (h ∷ hs) id e =
    ap (λ b. cond (not b) (h.hold ∷ filter (is_of_other id) (map hold_of hs)) (filter (is_of_other id) (map hold_of hs))) (left_false (same_id h.hold.id id) _ e)
    ∙ ap (λ xs. h.hold ∷ xs) (all_others hs id (right_false (same_id h.hold.id id) _ e))

pub none_of_its : (hs : List Numbered) (tags : List Tag) (id : CmdId) → Lists tag_of hs tags → list_any (has_id id) tags ≡ false → map hold_of hs ≡ filter (is_of_other id) (map hold_of hs)
none_of_its hs tags id same e = sym (all_others hs id (sym (lists_any tag_of hs tags same (has_id id)) ∙ e))

-- others' holds stay
pub others_stay : (hs : List Numbered) (id : CmdId) (k : ℕ) (d : Numbered) → k < length hs → same_id (get_or hs k d).hold.id id ≡ true
    → filter (is_of_other id) (map hold_of (remove hs k)) ≡ filter (is_of_other id) (map hold_of hs)
others_stay [] id k d l e = absurd (omega arith)
others_stay (h ∷ hs) id zero d l e =
    sym (ap (λ b. cond (not b) (h.hold ∷ filter (is_of_other id) (map hold_of hs)) (filter (is_of_other id) (map hold_of hs))) e)
others_stay (h ∷ hs) id (suc k) d l e =
    ap (λ xs. cond (is_of_other id h.hold) (h.hold ∷ xs) xs) (others_stay hs id k d (omega arith) e)

pub one_fewer : (hs : List Numbered) (k : ℕ) → k < length hs → length (map hold_of (remove hs k)) < length (map hold_of hs)
one_fewer hs k l =
    let left = length-map (remove hs k) hold_of in
    let all = length-map hs hold_of in
    let less = length-remove hs k l in
    omega arith

equals_itself : (n : ℕ) → (n == n) ≡ true
equals_itself n = grind (arith, nat_tests)

pub latch_itself : (l : Latch) → is_latch l l ≡ true
latch_itself l = both_true _ _ (both_true _ _ (equals_itself l.span.start) (equals_itself l.span.end)) (equals_itself l.number)

-- a hold of the id with the tag's number
pub tagged : (hs : List Numbered) (old new : List Tag) (id : CmdId) (t : Tag) → Lists tag_of hs old → has_id id t ≡ true
    → ((p : Tag → Bool) → count_by p new + cond (p t) 1 0 ≡ count_by p old) → list_any (λ h. same_id h.hold.id id && h.number == t.number) hs ≡ true
tagged hs old new id t same has took =
    let p : Tag → Bool = λ x. has_id id x && x.number == t.number in
    let passed : p t ≡ true = both_true _ _ has (equals_itself t.number) in
    let count : count_by p new + 1 ≡ count_by p old = sym (ap (λ b. count_by p new + cond b 1 0) passed) ∙ took p in
    sym (lists_any tag_of hs old same p) ∙ any_of_count p old (omega arith)

module _ (hs : List Numbered) (k : ℕ) (x : Numbered) (l : k < length hs) (is : get_or hs k x ≡ x) where
  pub first_there : (firsts : List Latch) → Lists first_latch hs firsts → (n : ℕ) → x.number ≡ n → IsTrue (list_any (is_latch (record { span = x.hold.spans.first; number = n })) firsts)
  first_there firsts same n e =
      let latch : Latch = record { span = x.hold.spans.first; number = n } in
      lists_any first_latch hs firsts same (is_latch latch)
      ∙ list_any_at (λ h. passes (is_latch latch) (first_latch h)) hs k x l
      (ap (λ (y : Numbered). passes (is_latch latch) (first_latch y)) is
      ∙ ap (λ (m : ℕ). is_latch latch (record { span = x.hold.spans.first; number = m })) e ∙ latch_itself latch)

  pub second_there : (seconds : List Latch) → Lists second_latch hs seconds → (n : ℕ) → x.number ≡ n → IsThere seconds (latch_at n x.hold.spans.second)
  second_there seconds same n e = go x.hold.spans.second refl where
    go : (o : Option Span) → x.hold.spans.second ≡ o → IsThere seconds (latch_at n o)
    go None h = tt
    go (Some s) h =
        let latch : Latch = record { span = s; number = n } in
        lists_any second_latch hs seconds same (is_latch latch)
        ∙ list_any_at (λ y. passes (is_latch latch) (second_latch y)) hs k x l
        (ap (λ (y : Numbered). passes (is_latch latch) (second_latch y)) is
        ∙ ap (λ (o : Option Span). passes (is_latch latch) (latch_at x.number o)) h
        ∙ ap (λ (m : ℕ). is_latch latch (record { span = s; number = m })) e ∙ latch_itself latch)

-- the tag of a hold with its id and its number
pub tag_same : (x : Numbered) (t : Tag) (id : CmdId) → same_id x.hold.id id ≡ true → has_id id t ≡ true → x.number ≡ t.number → tag_of x ≡ Some t
tag_same x t id here there number =
    ap (λ (i : CmdId). Some (record { id = i; number = x.number })) (same_is x.hold.id id here ∙ sym (same_is t.id id there))
    ∙ ap (λ (n : ℕ). Some (record { id = t.id; number = n })) number

-- what holds of all elements holds of those that are left
pub all_remove : {X : Type 0} (P : X → Type 0) (xs : List X) (n : ℕ) → n < length xs → All P xs → All P (remove xs n)
all_remove {X} P xs n w h k d l = go (nat_lt k n) refl where
  go : (b : Bool) → nat_lt k n ≡ b → P (get_or (remove xs n) k d)
  go true t = let low : k < n = grind (arith, nat_tests) in subst P (sym (get_or-remove_below xs n d k low w)) (h k d (omega arith))
  go false t =
      let high : n ≤ k = grind (arith, nat_tests) in
      let long = length-remove xs n w in
      subst P (sym (get_or-remove_above xs n d k high w)) (h (k + 1) d (omega arith))
