-- Which hold stands in the way, by the numbers of the latches that meet what is asked.
use Rattle.std.proofs.Common.{◌≡◌, ℕ, zero, suc, ◌<◌, ◌≤◌, Bool, true, false, cond, ◌||◌, ◌&&◌, ◌==◌, nat_lt, List, [], ◌∷◌, ◌++◌, length, get_or, ◌+◌, Option, None, Some, is_some, refl, sym, ap, subst, ◌∙◌, arith}
use Rattle.std.proofs.lemmas.Bool.Decides.{nat_tests}
use Rattle.std.proofs.lemmas.List.Folds.{list_any-append}
use Rattle.std.proofs.lemmas.List.Sums.{sum_by-remove}
use Rattle.std.specs.Prelude.{map, Ok}
use Rattle.std.specs.List.{AllPairs, AllWithin, list_any, find, count_by, remove}
use Rattle.rp_base.specs.Spans.{meets, span_list, meets_one, any_meet}
use Rattle.rp_base.specs.declared.ids.CmdId.{CmdId}
use Rattle.rp_base.specs.declared.spans.Span.{Span}
use Rattle.rp_base.specs.declared.spans.Spans.{Spans}
use Rattle.rp_latch.specs.declared.ages.Numbered.{Numbered}
use Rattle.rp_latch.specs.declared.index.Latch.{Latch}
use Rattle.rp_latch.specs.Holds.{answer, met_in, held_or, held_by, conflict, refused_by}
use Rattle.rp_latch.specs.declared.holds.Held.{Held}
use Rattle.rp_latch.specs.Indexes.{hold_of, IsOlder, latch_meets, latch_meets_one, some_meet, IsClear, IsOldest, first_latch, latch_at, second_latch, passes, Lists}
use Rattle.rp_base.proofs.Counts.{any_same, any_less, any_counted, count_push, any_or}
use Rattle.rp_latch.proofs.Elements.{or_false, left_false, right_false}
use Rattle.rp_latch.proofs.Order.{At, at_number}

-- an index after one hold more, and after one less
module _ {X : Type 0} (give : Numbered → Option X) (hs : List Numbered) (old new : List X) (same : Lists give hs old) where
  pub lists_more : (h : Numbered) → ((p : X → Bool) → count_by p new ≡ count_by p old + cond (passes p (give h)) 1 0) → Lists give (hs ++ h ∷ []) new
  lists_more h put p = put p ∙ ap (λ n. n + cond (passes p (give h)) 1 0) (same p) ∙ sym (count_push (λ x. passes p (give x)) hs h)

  pub lists_less : (k : ℕ) (h : Numbered) → k < length hs → get_or hs k h ≡ h → ((p : X → Bool) → count_by p new + cond (passes p (give h)) 1 0 ≡ count_by p old) → Lists give (remove hs k) new
  lists_less k h l is took p =
      let before : count_by (λ x. passes p (give x)) (remove hs k) + cond (passes p (give (get_or hs k h))) 1 0 ≡ count_by (λ x. passes p (give x)) hs = sum_by-remove (λ x. cond (passes p (give x)) 1 0) hs k h l in
      let here : count_by (λ x. passes p (give x)) (remove hs k) + cond (passes p (give h)) 1 0 ≡ count_by (λ x. passes p (give x)) hs =
      subst (λ (y : Numbered). count_by (λ x. passes p (give x)) (remove hs k) + cond (passes p (give y)) 1 0 ≡ count_by (λ x. passes p (give x)) hs) is before in
      take_away _ _ _ (took p ∙ same p ∙ sym here) where
        take_away : (a b c : ℕ) → a + c ≡ b + c → a ≡ b
        take_away a b c e = omega arith

-- an index has what passes a test where a hold gives it
pub lists_any : {X : Type 0} (give : Numbered → Option X) (hs : List Numbered) (xs : List X) → Lists give hs xs → (p : X → Bool) → list_any p xs ≡ list_any (λ h. passes p (give h)) hs
lists_any give hs xs same p = any_counted p (λ h. passes p (give h)) xs hs (same p)

found_some : {X : Type 0} (p : X → Bool) (xs : List X) → is_some (find p xs) ≡ list_any p xs
found_some p [] = refl
found_some p (x ∷ xs) = go (p x) (found_some p xs) where
  go : (b : Bool) → is_some (find p xs) ≡ list_any p xs → is_some (cond b (Some x) (find p xs)) ≡ (b || list_any p xs)
  go true e = refl
  go false e = e

-- no hold that meets what is asked
no_conflict : (hs : List Numbered) (asked : Spans) → list_any (λ h. any_meet h.hold.spans asked) hs ≡ false → conflict (map hold_of hs) asked ≡ None
no_conflict [] asked e = refl
no_conflict (h ∷ hs) asked e =
    go (met_in h.hold.spans asked) (found_some (meets_one asked) (span_list h.hold.spans) ∙ left_false _ _ e) (no_conflict hs asked (right_false (any_meet h.hold.spans asked) _ e)) where
      go : (o : Option Span) → is_some o ≡ false → conflict (map hold_of hs) asked ≡ None → held_or h.hold.id o (conflict (map hold_of hs) asked) ≡ None
      go None n k = k
      go (Some s) n k = absurd cc

-- who is not refused meets none
pub none_held : (hs : List Numbered) (asked : Spans) → answer (map hold_of hs) asked ≡ Ok tt → conflict (map hold_of hs) asked ≡ None
none_held hs asked e = by (conflict (map hold_of hs) asked) e
  where
    by : (o : Option Held) → refused_by o ≡ Ok tt → o ≡ None
    by None e = refl
    by (Some held) e = cc

pub none_meets : (hs : List Numbered) (asked : Spans) → conflict (map hold_of hs) asked ≡ None → list_any (λ h. any_meet h.hold.spans asked) hs ≡ false
none_meets [] asked e = refl
none_meets (h ∷ hs) asked e =
    go (none_meets hs asked) (met_in h.hold.spans asked) refl (found_some (meets_one asked) (span_list h.hold.spans)) e where
      go : (conflict (map hold_of hs) asked ≡ None → list_any (λ x. any_meet x.hold.spans asked) hs ≡ false) → (o : Option Span) → met_in h.hold.spans asked ≡ o → is_some (met_in h.hold.spans asked) ≡ any_meet h.hold.spans asked → held_or h.hold.id o (conflict (map hold_of hs) asked) ≡ None
          → (any_meet h.hold.spans asked || list_any (λ x. any_meet x.hold.spans asked) hs) ≡ false
      go more None is same k = ap (λ b. b || list_any (λ x. any_meet x.hold.spans asked) hs) (sym same ∙ ap is_some is) ∙ more k
      go more (Some s) is same k = absurd cc

-- the hold with the least number of those that meet
named : (hs : List Numbered) (asked : Spans) → AllPairs IsOlder hs → (n : ℕ)
    → list_any (λ h. any_meet h.hold.spans asked && h.number == n) hs ≡ true → list_any (λ h. any_meet h.hold.spans asked && nat_lt h.number n) hs ≡ false
    → (k : ℕ) (d : Numbered) → k < length hs → (get_or hs k d).number ≡ n → any_meet (get_or hs k d).hold.spans asked ≡ true
    → conflict (map hold_of hs) asked ≡ held_by (get_or hs k d).hold asked
named [] asked older n some none k d l e m = absurd (omega arith)
named (h ∷ hs) asked older n some none zero d l e m =
    go (met_in h.hold.spans asked) (found_some (meets_one asked) (span_list h.hold.spans) ∙ m) where
      go : (o : Option Span) → is_some o ≡ true → held_or h.hold.id o (conflict (map hold_of hs) asked) ≡ held_or h.hold.id o None
      go None x = absurd cc
      go (Some s) x = refl
named (h ∷ hs) asked older n some none (suc k) d l e m =
    passed (λ s f. named hs asked (λ i j x a b. older (suc i) (suc j) x (omega arith) (omega arith)) n s f k d (omega arith) e m) (any_meet h.hold.spans asked) refl where
      low : nat_lt h.number n ≡ true
      low = let step : h.number < (get_or hs k d).number = older 0 (suc k) d (omega arith) l in grind (arith, nat_tests)

      high : (h.number == n) ≡ false
      high = let step : h.number < (get_or hs k d).number = older 0 (suc k) d (omega arith) l in grind (arith, nat_tests)

      skip : (o : Option Span) → is_some o ≡ false → held_or h.hold.id o (conflict (map hold_of hs) asked) ≡ conflict (map hold_of hs) asked
      skip None x = refl
      skip (Some s) x = absurd cc

      meets_not : (b : Bool) → (b || list_any (λ x. any_meet x.hold.spans asked && x.number == n) hs) ≡ true → b ≡ false → list_any (λ x. any_meet x.hold.spans asked && x.number == n) hs ≡ true
      meets_not true s f = absurd cc
      meets_not false s f = s

      passed : (list_any (λ x. any_meet x.hold.spans asked && x.number == n) hs ≡ true → list_any (λ x. any_meet x.hold.spans asked && nat_lt x.number n) hs ≡ false
          → conflict (map hold_of hs) asked ≡ held_by (get_or hs k d).hold asked) → (b : Bool) → any_meet h.hold.spans asked ≡ b → conflict (map hold_of (h ∷ hs)) asked ≡ held_by (get_or hs k d).hold asked
      passed more true t =
          absurd (let below : (any_meet h.hold.spans asked && nat_lt h.number n) ≡ false = left_false _ _ none in
          let both : (any_meet h.hold.spans asked && nat_lt h.number n) ≡ true = ap (λ b. b && nat_lt h.number n) t ∙ low in cc)
      passed more false t =
          skip (met_in h.hold.spans asked) (found_some (meets_one asked) (span_list h.hold.spans) ∙ t)
          ∙ more (meets_not (any_meet h.hold.spans asked && h.number == n) some (ap (λ b. b && h.number == n) t))
          (right_false (any_meet h.hold.spans asked && nat_lt h.number n) _ none)

-- the latches of both indexes, by a test on what they meet and on their numbers
module _ (hs : List Numbered) (firsts seconds : List Latch) (f : Lists first_latch hs firsts) (g : Lists second_latch hs seconds) where
  given : (t : Latch → Bool) → list_any t (firsts ++ seconds) ≡ list_any (λ h. passes t (first_latch h) || passes t (second_latch h)) hs
  given t =
      list_any-append t firsts seconds
      ∙ ap (λ b. b || list_any t seconds) (lists_any first_latch hs firsts f t)
      ∙ ap (λ b. list_any (λ h. passes t (first_latch h)) hs || b) (lists_any second_latch hs seconds g t)
      ∙ sym (any_or (λ h. passes t (first_latch h)) (λ h. passes t (second_latch h)) hs)

  one : (a b : Bool) → ((a && b) || false) ≡ ((a || false) && b)
  one true b = or_false b
  one false b = refl

  two : (a b c : Bool) → ((a && c) || (b && c)) ≡ ((a || (b || false)) && c)
  two true true true = refl
  two true true false = refl
  two true false true = refl
  two true false false = refl
  two false true c = refl
  two false false c = refl

  each : (asked : Spans) (u : ℕ → Bool) (id : CmdId) (n : ℕ) (a : Span) (o : Option Span)
      → ((meets_one asked a && u n) || passes (λ (l : Latch). latch_meets_one asked l && u l.number) (latch_at n o)) ≡ (any_meet (record { first = a; second = o }) asked && u n)
  each asked u id n a None = one (meets_one asked a) (u n)
  each asked u id n a (Some b) = two (meets_one asked a) (meets_one asked b) (u n)

  seen : (asked : Spans) (u : ℕ → Bool) → list_any (λ l. latch_meets_one asked l && u l.number) (firsts ++ seconds) ≡ list_any (λ h. any_meet h.hold.spans asked && u h.number) hs
  seen asked u =
      given (λ l. latch_meets_one asked l && u l.number)
      ∙ any_same _ _ (λ h. each asked u h.hold.id h.number h.hold.spans.first h.hold.spans.second) hs

  and_true : (b : Bool) → (b && true) ≡ b
  and_true true = refl
  and_true false = refl

  all_seen : (asked : Spans) → list_any (latch_meets_one asked) (firsts ++ seconds) ≡ list_any (λ h. any_meet h.hold.spans asked) hs
  all_seen asked =
      any_same _ _ (λ l. sym (and_true (latch_meets_one asked l))) (firsts ++ seconds)
      ∙ seen asked (λ n. true)
      ∙ any_same _ _ (λ h. and_true (any_meet h.hold.spans asked)) hs

  -- where no latch meets, no hold stands in the way
  pub none_in_the_way : (asked : Spans) (o : Option ℕ) → o ≡ None → IsOldest (latch_meets_one asked) (firsts ++ seconds) o → conflict (map hold_of hs) asked ≡ None
  none_in_the_way asked None e h = no_conflict hs asked (sym (all_seen asked) ∙ h)
  none_in_the_way asked (Some n) e h = absurd cc

  -- the hold at the place of the least number stands in the way
  module _ (older : AllPairs IsOlder hs) (asked : Spans) (n k : ℕ)
      (before : AllWithin (λ x. x.number < n) hs 0 k) (after : AllWithin (λ x. n ≤ x.number) hs k (length hs))
      (h : IsOldest (latch_meets_one asked) (firsts ++ seconds) (Some n)) where
    pub oldest_is_there : At hs (λ h. any_meet h.hold.spans asked) n k
    oldest_is_there = at_number hs older n k before after (λ x. any_meet x.hold.spans asked) (sym (seen asked (λ m. m == n)) ∙ h.0)

    pub oldest_named : (d : Numbered) → conflict (map hold_of hs) asked ≡ held_by (get_or hs k d).hold asked
    oldest_named d =
        let at = oldest_is_there in
        named hs asked older n (sym (seen asked (λ m. m == n)) ∙ h.0) (sym (seen asked (λ m. nat_lt m n)) ∙ h.1) k d at.within (at.number d) (at.passes d)

  -- where no hold stands in the way, no latch meets what is asked
  nothing_met : (asked : Spans) → conflict (map hold_of hs) asked ≡ None → list_any (latch_meets_one asked) (firsts ++ seconds) ≡ false
  nothing_met asked e = all_seen asked ∙ none_meets hs asked e

  first_of_asked : (asked : Spans) (l : Latch) → latch_meets asked.first l ≡ true → latch_meets_one asked l ≡ true
  first_of_asked asked l e = go asked.first asked.second e where
    go : (a : Span) (o : Option Span) → meets l.span a ≡ true → meets_one (record { first = a; second = o }) l.span ≡ true
    go a None e = ap (λ b. b || false) e
    go a (Some s) e = ap (λ b. b || (meets l.span s || false)) e

  second_of_asked : (asked : Spans) (s : Span) (l : Latch) → asked.second ≡ Some s → latch_meets s l ≡ true → latch_meets_one asked l ≡ true
  second_of_asked asked s l is e = go asked.first asked.second is where
    or_true : (a b : Bool) → b ≡ true → (a || (b || false)) ≡ true
    or_true true b h = refl
    or_true false b h = ap (λ x. x || false) h

    go : (a : Span) (o : Option Span) → o ≡ Some s → meets_one (record { first = a; second = o }) l.span ≡ true
    go a None x = absurd cc
    go a (Some t) x = let same : t ≡ s = cc in or_true (meets l.span a) (meets l.span t) (ap (λ (y : Span). meets l.span y) same ∙ e)

  pub first_clear : (asked : Spans) → conflict (map hold_of hs) asked ≡ None → some_meet firsts asked.first ≡ false
  first_clear asked e =
      any_less (latch_meets asked.first) (latch_meets_one asked) (first_of_asked asked) firsts
      (left_false _ _ (sym (list_any-append (latch_meets_one asked) firsts seconds) ∙ nothing_met asked e))

  pub second_clear : (asked : Spans) → conflict (map hold_of hs) asked ≡ None → IsClear seconds asked.second
  second_clear asked e = go asked.second refl where
    go : (o : Option Span) → asked.second ≡ o → IsClear seconds o
    go None is = tt
    go (Some s) is =
        any_less (latch_meets s) (latch_meets_one asked) (λ l m. second_of_asked asked s l is m) seconds
        (right_false _ _ (sym (list_any-append (latch_meets_one asked) firsts seconds) ∙ nothing_met asked e))

-- what meets one of the spans asked meets the first, or the second where there is one
pub one_asked : (asked : Spans) (l : Latch) → asked.second ≡ None → latch_meets asked.first l ≡ latch_meets_one asked l
one_asked asked l is = go asked.first asked.second is where
  go : (a : Span) (o : Option Span) → o ≡ None → meets l.span a ≡ meets_one (record { first = a; second = o }) l.span
  go a None x = sym (or_false (meets l.span a))
  go a (Some s) x = absurd cc

pub two_asked : (asked : Spans) (s : Span) (l : Latch) → asked.second ≡ Some s → (latch_meets asked.first l || latch_meets s l) ≡ latch_meets_one asked l
two_asked asked s l is = go asked.first asked.second is where
  go : (a : Span) (o : Option Span) → o ≡ Some s → (meets l.span a || meets l.span s) ≡ meets_one (record { first = a; second = o }) l.span
  go a None x = absurd cc
  go a (Some t) x = let same : s ≡ t = cc in ap (λ (y : Span). meets l.span a || meets l.span y) same ∙ ap (λ b. meets l.span a || b) (sym (or_false (meets l.span t)))
