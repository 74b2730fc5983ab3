-- The first of equal asks.
use Rattle.std.proofs.Common.{◌≡◌, ℕ, suc, ◌+◌, Bool, true, false, cond, not, nat_lt, ◌||◌, List, [], ◌∷◌, ◌++◌, length, arith, Option, None, Some, refl, sym, ap, ◌∙◌}
use Rattle.std.proofs.lemmas.Bool.Decides.{nat_tests}
use Rattle.std.specs.List.{list_any, position, position_or_len, remove}
use Rattle.rp_base.specs.declared.leases.LeaseAsk.{LeaseAsk}
use Rattle.rp_base.specs.declared.items.Item.{Item}
use Rattle.rp_base.specs.declared.items.Item.TheVariants.{Lease}
use Rattle.rp_events.specs.LeaseAsks.{same_ask, without_first, joined}
use Rattle.rp_events.specs.Replicas.{Replica}

one_more : (n : ℕ) → 1 + n ≡ suc n
one_more n = omega arith

less_first : (n : ℕ) → nat_lt 0 (suc n) ≡ true
less_first n = grind (arith, nat_tests)

less_both : (m n : ℕ) → nat_lt (suc m) (suc n) ≡ nat_lt m n
less_both m n = grind (arith, nat_tests)

module _ (ask : LeaseAsk) where
  abbrev at : List LeaseAsk → ℕ
  at xs = position_or_len (λ x. same_ask x ask) xs

  abbrev any : List LeaseAsk → Bool
  any xs = list_any (λ x. same_ask x ask) xs

  within : (xs : List LeaseAsk) → nat_lt (at xs) (length xs) ≡ any xs
  within [] = refl
  within (x ∷ xs) = go (same_ask x ask) (within xs) where
    go : (b : Bool) → nat_lt (at xs) (length xs) ≡ any xs → nat_lt (cond (not b) (1 + at xs) 0) (length (x ∷ xs)) ≡ (b || any xs)
    go true h = less_first (length xs)
    go false h = ap (λ k. nat_lt k (suc (length xs))) (one_more (at xs)) ∙ less_both (at xs) (length xs) ∙ h

  rest : (xs : List LeaseAsk) → remove xs (at xs) ≡ without_first ask xs
  rest [] = refl
  rest (x ∷ xs) = go (same_ask x ask) (rest xs) where
    go : (b : Bool) → remove xs (at xs) ≡ without_first ask xs → remove (x ∷ xs) (cond (not b) (1 + at xs) 0) ≡ cond b xs (x ∷ without_first ask xs)
    go true h = refl
    go false h = ap (remove (x ∷ xs)) (one_more (at xs)) ∙ ap (λ ys. x ∷ ys) h

  none_equal : (xs : List LeaseAsk) → any xs ≡ false → without_first ask xs ≡ xs
  none_equal [] h = refl
  none_equal (x ∷ xs) h = go (same_ask x ask) (any xs) h (none_equal xs) where
    go : (b c : Bool) → (b || c) ≡ false → (c ≡ false → without_first ask xs ≡ xs) → cond b xs (x ∷ without_first ask xs) ≡ x ∷ xs
    go true c h ih = absurd cc
    go false c h ih = ap (λ ys. x ∷ ys) (ih h)

  found_at : (b : Bool) (n : ℕ) (o : Option ℕ) → o ≡ cond b (Some n) None → (o ≡ None → b ≡ false) × ((i : ℕ) → o ≡ Some i → (b ≡ true) × (i ≡ n))
  found_at true n o e = ((λ h. absurd (clash (sym e ∙ h))), (λ i h. (refl, sym (same (sym e ∙ h))))) where
    clash : Some n ≡ None → ⊥
    clash h = cc

    same : {i : ℕ} → Some n ≡ Some i → n ≡ i
    same h = cc
  found_at false n o e = ((λ h. refl), (λ i h. absurd (clash i (sym e ∙ h)))) where
    clash : (i : ℕ) → ◌≡◌ {A = Option ℕ} None (Some i) → ⊥
    clash i h = cc

  -- no place is found
  pub no_place : (xs : List LeaseAsk) (o : Option ℕ) → o ≡ position (λ x. same_ask x ask) xs → o ≡ None → (false ≡ any xs) × (xs ≡ without_first ask xs)
  no_place xs o e h =
      let f : any xs ≡ false = sym (within xs) ∙ (found_at (nat_lt (at xs) (length xs)) (at xs) o e).0 h in
      (sym f, sym (none_equal xs f))

  -- one is found, and is taken out
  pub a_place : (xs : List LeaseAsk) (o : Option ℕ) (i : ℕ) → o ≡ position (λ x. same_ask x ask) xs → o ≡ Some i → (true ≡ any xs) × (remove xs i ≡ without_first ask xs)
  a_place xs o i e h =
      let g = (found_at (nat_lt (at xs) (length xs)) (at xs) o e).1 i h in
      (sym (sym (within xs) ∙ g.0), ap (remove xs) g.1 ∙ rest xs)

  -- an ask that was answered joins the inbox, and any other one changes nothing
  pub joins : (r : Replica) (b : Bool) (asks : List LeaseAsk) (inbox : List Item) → b ≡ any r.asks → b ≡ true
      → asks ≡ without_first ask r.asks → inbox ≡ r.inbox ++ Lease ask ∷ []
      → ◌≡◌ {A = Replica} (record r { inbox = inbox; asks = asks }) (joined r (Lease ask))
  joins r b asks inbox there is rest e =
      ap (λ l. record r { inbox = l; asks = asks }) e ∙ ap (λ l. record r { inbox = r.inbox ++ Lease ask ∷ []; asks = l }) rest
      ∙ sym (ap (λ d. cond d (record r { inbox = r.inbox ++ Lease ask ∷ []; asks = without_first ask r.asks }) r) (sym there ∙ is))

  pub joins_not : (r : Replica) (b : Bool) (asks : List LeaseAsk) → b ≡ any r.asks → b ≡ false
      → asks ≡ without_first ask r.asks → ◌≡◌ {A = Replica} (record r { asks = asks }) (joined r (Lease ask))
  joins_not r b asks there is rest =
      ap (λ l. record r { asks = l }) (rest ∙ none_equal r.asks (sym there ∙ is))
      ∙ sym (ap (λ d. cond d (record r { inbox = r.inbox ++ Lease ask ∷ []; asks = without_first ask r.asks }) r) (sym there ∙ is))
