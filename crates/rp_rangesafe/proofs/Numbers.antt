-- A range along its list: numbers that do not fall, and what can be taken.
use Rattle.std.proofs.Common.{◌≡◌, ℕ, zero, suc, ◌<◌, ◌≤◌, ◌⊎◌, inl, inr, refl, sym, ap, subst, ◌∙◌, arith}
use Rattle.std.proofs.lemmas.Bool.{cases_order, cases_lt}
use Rattle.rp_request.specs.declared.commands.Payload.{Payload}
use Rattle.rp_request.specs.declared.commands.Command.{Command}
use Rattle.rp_request.specs.Applied.{AppliedState, after, IsBlocked}
use Rattle.rp_rangesafe.specs.Along.{state, Takes}
use Rattle.rp_rangesafe.specs.Places.{IsFurther}
use Rattle.rp_rangesafe.proofs.Steps.{further_same, further_trans, further_one, IsTimely, timely, taken_lai, blocked_further, blocked_untaken}

-- a list that agrees with another below an index comes to the same state there
pub same_state : (b : AppliedState) (f g : ℕ → Payload) (i : ℕ) → ((k : ℕ) → k < i → f k ≡ g k) → state b f i ≡ state b g i
same_state b f g zero h = refl
same_state b f g (suc i) h = ap (λ s. after s (f i)) (same_state b f g i (λ k l. h k (omega arith))) ∙ ap (after (state b g i)) (h i (omega arith))

module _ (b : AppliedState) (f : ℕ → Payload) where
  pub onward : (i j : ℕ) → i ≤ j → IsFurther (state b f i) (state b f j)
  onward i zero l = let e : i ≡ 0 = omega arith in subst (λ k. IsFurther (state b f k) (state b f 0)) (sym e) (further_same (state b f 0))
  onward i (suc j) l = go (cases_lt i (suc j)) (λ k. onward i j k) where
    go : (i < suc j) ⊎ (suc j ≤ i) → ((i ≤ j) → IsFurther (state b f i) (state b f j)) → IsFurther (state b f i) (state b f (suc j))
    go (inl lt) ih = further_trans _ _ _ (ih (omega arith)) (further_one (state b f j) (f j))
    go (inr ge) ih = let e : i ≡ suc j = omega arith in subst (λ k. IsFurther (state b f k) (state b f (suc j))) (sym e) (further_same (state b f (suc j)))

  -- one lease sequence at two indexes has one holder
  pub one_holder : (i j : ℕ) → (state b f i).lease.seq ≡ (state b f j).lease.seq → (state b f i).lease.holder ≡ (state b f j).lease.holder
  one_holder i j e = go (cases_lt i j) where
    go : (i < j) ⊎ (j ≤ i) → (state b f i).lease.holder ≡ (state b f j).lease.holder
    go (inl lt) = sym ((onward i j (omega arith)).numbers.holder (sym e))
    go (inr ge) = (onward j i ge).numbers.holder e

  -- a place is timely
  pub timely_at : (k : ℕ) (c : Command) → Takes b f k c → IsTimely (state b f k) c
  timely_at k c t = timely (state b f k) c t.taken

  pub lai_after : (k : ℕ) (c : Command) → Takes b f k c → (state b f (suc k)).lai ≡ c.max
  lai_after k c t = ap (λ p. (after (state b f k) p).lai) t.here ∙ taken_lai (state b f k) c t.taken

  -- after a place the lease applied index is at or above its maximum
  pub lai_from : (k : ℕ) (c : Command) (j : ℕ) → k < j → Takes b f k c → c.max ≤ (state b f j).lai
  lai_from k c j l t = let e = lai_after k c t in let o = onward (suc k) j (omega arith) in omega arith

  -- a later place has a greater maximum, whoever proposed it
  pub max_rises : (j k : ℕ) (c d : Command) → j < k → Takes b f j c → Takes b f k d → c.max < d.max
  max_rises j k c d l t u = let le = lai_from j c k l t in let v = timely_at k d u in omega arith

  -- one maximum is taken once
  pub max_once : (j k : ℕ) (c d : Command) → Takes b f j c → Takes b f k d → c.max ≡ d.max → j ≡ k
  max_once j k c d t u e = go (cases_order j k) where
    go : (j ≡ k) ⊎ ((j < k) ⊎ (k < j)) → j ≡ k
    go (inl same) = same
    go (inr (inl lt)) = let r = max_rises j k c d lt t u in absurd (omega arith)
    go (inr (inr gt)) = let r = max_rises k j d c gt u t in absurd (omega arith)

  -- what is blocked stays so
  pub blocked_later : (i j : ℕ) (seq max : ℕ) → i ≤ j → IsBlocked (state b f i) seq max → IsBlocked (state b f j) seq max
  blocked_later i j seq max l = blocked_further (state b f i) (state b f j) seq max (onward i j l)

  -- and has no place from there on
  pub blocked_never : (i k : ℕ) (c : Command) (seq : ℕ) → i ≤ k → c.seq ≡ seq → IsBlocked (state b f i) seq c.max → Takes b f k c → ⊥
  blocked_never i k c seq l e h t = blocked_untaken (state b f k) c seq e (blocked_later i k seq c.max l h) t.taken
