-- A set of the commands that answers name has as many keys as there are different commands.
use Rattle.std.proofs.Common.{◌≡◌, ℕ, ◌+◌, ◌<◌, ◌≤◌, ◌||◌, Bool, true, false, cond, List, [], ◌∷◌, ◌++◌, length, map, take, get_or, refl, ap, sym, ◌∙◌, arith}
use Rattle.std.specs.BTreeSet.{BTreeSet, btree_set_len, contains, IsOrdered, Updates}
use Rattle.std.specs.List.{list_any}
use Rattle.std.specs.Set.{unique_keys, is_member}
use Rattle.std.specs.declared.cmp.Ordering.{Ordering}
use Rattle.std.specs.Ordering.{nat_cmp, ordering_then, eq_by_cmp}
use Rattle.std.specs.Cmp.{IsTotalOrder}
use Rattle.std.proofs.lemmas.Bool.Decides.{nat_tests}
use Rattle.std.proofs.lemmas.Cmp.{on_total, then_total, nat_cmp_total}
use Rattle.std.proofs.lemmas.List.Folds.{list_any-append}
use Rattle.std.proofs.lemmas.Map.Views.{btree_set_len-from_list}
use Rattle.std.proofs.lemmas.List.{take_more, take_all, map-append}
use Rattle.rp_request.specs.declared.notes.ReplyLine.{ReplyLine}
use Rattle.rp_report.specs.Summary.{command_of, same_command, commands_among}

-- commands by client, then by number
abbrev pub command_order : ℕ × ℕ → ℕ × ℕ → Ordering
command_order a b = ordering_then (nat_cmp a.0 b.0) (nat_cmp a.1 b.1)

command_order_total : IsTotalOrder command_order
command_order_total = then_total (on_total (λ (a : ℕ × ℕ). a.0) nat_cmp_total) (on_total (λ (a : ℕ × ℕ). a.1) nat_cmp_total)

is_same : (a b : ℕ × ℕ) → eq_by_cmp command_order a b ≡ same_command a b
is_same a b = grind (arith, nat_tests)

same_back : (a b : ℕ × ℕ) → same_command a b ≡ same_command b a
same_back a b = grind (arith, nat_tests)

-- tests that agree find the same keys
member_alike : (e f : ℕ × ℕ → ℕ × ℕ → Bool) → ((a b : ℕ × ℕ) → e a b ≡ f a b) → (x : ℕ × ℕ) (xs : List (ℕ × ℕ)) → is_member e xs x ≡ is_member f xs x
member_alike e f alike x [] = refl
member_alike e f alike x (y ∷ ys) = rw (alike x y, member_alike e f alike x ys)

unique_alike : (e f : ℕ × ℕ → ℕ × ℕ → Bool) → ((a b : ℕ × ℕ) → e a b ≡ f a b) → (xs : List (ℕ × ℕ)) → unique_keys e xs ≡ unique_keys f xs
unique_alike e f alike [] = refl
unique_alike e f alike (x ∷ xs) = rw (member_alike e f alike x xs, unique_alike e f alike xs)

-- a set has exactly the commands that the answers name
pub record HasCommands (answers : List ReplyLine) (s : BTreeSet (ℕ × ℕ)) : Type 0 where
  pub keys : (q : ℕ × ℕ) → contains command_order s q ≡ is_member (eq_by_cmp command_order) (map command_of answers) q
  pub ordered : IsOrdered command_order s

-- the empty set has none
pub none : (s : BTreeSet (ℕ × ℕ)) → s.keys ≡ [] → IsOrdered command_order s → HasCommands [] s
none s empty ordered = record { keys = λ q. rw empty refl; ordered = ordered }

either : (e f c m : Bool) → e ≡ f → c ≡ m → cond e true c ≡ (m || (f || false))
either true true c true same before = refl
either true true c false same before = refl
either false false c true same before = before
either false false c false same before = before
either true false c m same before = absurd (cc)
either false true c m same before = absurd (cc)

-- one answer more
pub one_more : (answers : List ReplyLine) (i : ℕ) (a d : ReplyLine) (s n : BTreeSet (ℕ × ℕ)) → i < length answers → a ≡ get_or answers i d
    → HasCommands (take i answers) s → Updates command_order s n (command_of a) true → IsOrdered command_order n → HasCommands (take (i + 1) answers) n
one_more answers i a d s n here is before put ordered = record {
  keys = λ q.
      let more : map command_of (take (i + 1) answers) ≡ map command_of (take i answers) ++ command_of a ∷ [] =
      ap (map command_of) (take_more answers i d here) ∙ map-append command_of (take i answers) (get_or answers i d ∷ [])
      ∙ ap (λ x. map command_of (take i answers) ++ command_of x ∷ []) (sym is) in
      put.0 q ∙ either _ _ _ _ (is_same (command_of a) q ∙ same_back (command_of a) q ∙ sym (is_same q (command_of a))) (before.keys q)
      ∙ sym (list_any-append (eq_by_cmp command_order q) (map command_of (take i answers)) (command_of a ∷ []))
      ∙ ap (list_any (eq_by_cmp command_order q)) (sym more);
  ordered = ordered;
}

pub counted : (answers : List ReplyLine) (s : BTreeSet (ℕ × ℕ)) → HasCommands answers s → btree_set_len s ≡ commands_among answers
counted answers s h =
    btree_set_len-from_list command_order_total (map command_of answers) s (h.keys, h.ordered)
    ∙ ap length (unique_alike (eq_by_cmp command_order) same_command is_same (map command_of answers))

-- all answers
pub counted_all : (answers : List ReplyLine) (i : ℕ) (s : BTreeSet (ℕ × ℕ)) → length answers ≤ i → HasCommands (take i answers) s → btree_set_len s ≡ commands_among answers
counted_all answers i s all h = counted (take i answers) s h ∙ ap commands_among (take_all i answers all)
