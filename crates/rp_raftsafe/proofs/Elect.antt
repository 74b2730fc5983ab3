-- A candidate with a majority of votes becomes the leader of its term.
use Rattle.std.proofs.Common.{◌≡◌, ℕ, zero, suc, ◌<◌, ◌≤◌, [], length, take, refl, sym, ap, subst, ◌∙◌, arith, ◌⊎◌, ⊎_elim, inl, inr}
use Rattle.std.proofs.lemmas.Bool.{cases_lt, cases_eq}
use Rattle.rp_raftsafe.proofs.Tables.{upd, upd2, at_upd, at_upd2}
use Rattle.rp_raftsafe.proofs.Logs.{tm, term_in, last_tm, Good, Longer, good_more, longer_refl, same_less, same_length, same_tm, whole_front}
use Rattle.rp_raftsafe.proofs.Quorum.{Majority, Shared, majority_map, majorities_meet}
use Rattle.rp_raftsafe.proofs.Machine.{Abs, Proper, Open, IsFresh, Inv}

abbrev pub elect : Abs → ℕ → Abs
elect a c = record a {
  lead = upd a.lead (a.term c) c;
  llog = upd a.llog (a.term c) (a.log c);
  ack = upd2 a.ack c (a.term c) (length (a.log c));
}

-- when a candidate is elected
pub record Elects (n : ℕ) (a : Abs) (c : ℕ) : Type 0 where
  pub positive : 0 < c
  pub votes : Majority n (λ q. a.vote q (a.term c) ≡ c)
  pub leaderless : a.lead (a.term c) ≡ 0
  pub asked : a.asked (a.term c) c ≡ a.log c

-- the log of the leader of the last entry's term holds the whole log, so there is such a leader
leader_of_last : (n : ℕ) (a : Abs) → Inv n a → (p : ℕ) → 0 < length (a.log p) → 0 < a.lead (last_tm (a.log p))
leader_of_last n a h p some =
    ⊎_elim
    (λ (none : a.lead (last_tm (a.log p)) ≡ 0).
    let within = same_length (length (a.log p)) (a.log p) (a.llog (last_tm (a.log p))) (omega arith) (whole_front a.llog (a.log p) (h.good_log p)) in
    absurd (omega (arith, within, ap length (h.unled (last_tm (a.log p)) none))))
    (λ ne. omega (arith, ne))
    (cases_eq (a.lead (last_tm (a.log p))) 0)

-- no entry of the log has the term that is to be led
not_of_term : (n : ℕ) (a : Abs) (t : ℕ) → Inv n a → a.lead t ≡ 0 → (p j : ℕ) → j < length (a.log p) → tm (a.log p) j ≡ t → ⊥
not_of_term n a t h leaderless p j within own =
    let front : take (suc j) (a.log p) ≡ take (suc j) (a.llog t) = subst (λ z. take (suc j) (a.log p) ≡ take (suc j) (a.llog z)) own (h.good_log p j within) in
    absurd (omega (arith, same_length (suc j) (a.log p) (a.llog t) (omega arith) front, ap length (h.unled t leaderless)))

-- where the log passes the place of an earlier leader's entry, by the last term being later
later_holds : (n : ℕ) (a : Abs) → Inv n a → (c t j : ℕ) → t < last_tm (a.log c) → Proper a.llog t j → Open n a.term a.ack t j → take (suc j) (a.llog t) ≡ take (suc j) (a.log c)
later_holds n a h c t j lt proper opens = with_length (length (a.log c)) refl
  where
    with_length : (k : ℕ) → length (a.log c) ≡ k → take (suc j) (a.llog t) ≡ take (suc j) (a.log c)
    with_length zero e = absurd (omega (arith, ap (λ z. term_in (a.log c) z) e))
    with_length (suc k) e =
        let led : 0 < a.lead (last_tm (a.log c)) = leader_of_last n a h c (omega arith) in
        let last : last_tm (a.log c) ≡ tm (a.log c) k = ap (term_in (a.log c)) e in
        let whole : take (suc k) (a.log c) ≡ take (suc k) (a.llog (last_tm (a.log c))) = subst (λ z. take z (a.log c) ≡ take z (a.llog (last_tm (a.log c)))) e (whole_front a.llog (a.log c) (h.good_log c)) in
        let done : take (suc j) (a.llog t) ≡ take (suc j) (a.llog (last_tm (a.log c))) = h.complete (last_tm (a.log c)) t j led lt proper opens in
        ⊎_elim
        (λ (short : k < j).
        let at : tm (a.llog t) k ≡ tm (a.llog (last_tm (a.log c))) k = same_tm k (suc j) (a.llog t) (a.llog (last_tm (a.log c))) (omega arith) done in
        let here : tm (a.log c) k ≡ tm (a.llog (last_tm (a.log c))) k = same_tm k (suc k) (a.log c) (a.llog (last_tm (a.log c))) (omega arith) whole in
        absurd (omega (arith, at, here, last, h.llog_terms t k)))
        (λ (long : j ≤ k). done ∙ sym (same_less (suc j) (suc k) (a.log c) (a.llog (last_tm (a.log c))) (omega arith) whole))
        (cases_lt k j)

elect_complete : (n : ℕ) (a : Abs) (c : ℕ) → Inv n a → Elects n a c → (t j : ℕ) → t < a.term c → Proper a.llog t j → Open n a.term a.ack t j → take (suc j) (a.llog t) ≡ take (suc j) (a.log c)
elect_complete n a c h g t j lt proper opens =
    let s : Shared n (λ q. a.vote q (a.term c) ≡ c) (λ q. (j < a.ack q t) ⊎ (a.term q ≤ t)) = majorities_meet n _ _ g.votes opens in
    let voted : a.vote s.node (a.term c) ≡ c = s.left in
    let pos : 0 < a.vote s.node (a.term c) = omega (arith, g.positive) in
    let late : a.term c ≤ a.term s.node = ⊎_elim (λ (early : a.term s.node < a.term c). absurd (omega (arith, h.unvoted s.node (a.term c) early))) (λ le. le) (cases_lt (a.term s.node) (a.term c)) in
    let acked : j < a.ack s.node t = ⊎_elim (λ k. k) (λ le. absurd (omega arith)) s.right in
    let freshness : IsFresh t j (a.log c) = subst (λ z. IsFresh t j z) g.asked (subst (λ z. IsFresh t j (a.asked (a.term c) z)) voted (h.fresh s.node (a.term c) t j pos lt proper opens acked)) in
    ⊎_elim
    (λ later. later_holds n a h c t j later proper opens)
    (λ both.
    let e : t ≡ last_tm (a.log c) = both.0 in
    let long : j < length (a.log c) = both.1 in
    let whole : take (length (a.log c)) (a.log c) ≡ take (length (a.log c)) (a.llog t) = subst (λ z. take (length (a.log c)) (a.log c) ≡ take (length (a.log c)) (a.llog z)) (sym e) (whole_front a.llog (a.log c) (h.good_log c)) in
    sym (same_less (suc j) (length (a.log c)) (a.log c) (a.llog t) (omega arith) whole))
    freshness

pub elect_longer : (n : ℕ) (a : Abs) (c : ℕ) → Inv n a → Elects n a c → Longer a.llog (upd a.llog (a.term c) (a.log c))
elect_longer n a c h g t =
    at_upd (λ x. take (length (a.llog t)) x ≡ a.llog t) a.llog (a.term c) (a.log c) t
    (λ e. let nil : a.llog t ≡ [] = h.unled t (ap a.lead e ∙ g.leaderless) in subst (λ z. take (length z) (a.log c) ≡ z) (sym nil) refl)
    (λ ne. longer_refl (a.llog t))

-- a proper place after the election was one before, of another term
elect_proper : (n : ℕ) (a : Abs) (c : ℕ) → Inv n a → Elects n a c → (t j : ℕ) → Proper (upd a.llog (a.term c) (a.log c)) t j → (t ≡ a.term c → ⊥) × Proper a.llog t j
elect_proper n a c h g t j proper =
    at_upd (λ x. j < length x → tm x j ≡ t → (t ≡ a.term c → ⊥) × Proper a.llog t j) a.llog (a.term c) (a.log c) t
    (λ e within own. absurd (not_of_term n a (a.term c) h g.leaderless c j within (own ∙ e)))
    (λ ne within own. (ne, record { within = within; own = own }))
    proper.within proper.own

elect_open : (n : ℕ) (a : Abs) (c : ℕ) (t j : ℕ) → Open n a.term (upd2 a.ack c (a.term c) (length (a.log c))) t j → Open n a.term a.ack t j
elect_open n a c t j o =
    majority_map n _ _
    (λ q _ either.
    ⊎_elim
    (λ k. at_upd2 (λ x. j < x → (j < a.ack q t) ⊎ (a.term q ≤ t)) a.ack c (a.term c) (length (a.log c)) q t (λ eq et _. inr (omega (arith, ap a.term eq))) (λ ne k'. inl k') k)
    inr either)
    o

pub elect_keeps : (n : ℕ) (a : Abs) (c : ℕ) → Elects n a c → Inv n a → Inv n (elect a c)
elect_keeps n a c g h = record {
  unvoted = h.unvoted;
  asked_first = h.asked_first;
  elected = λ t. at_upd (λ x. 0 < x → Majority n (λ q. a.vote q t ≡ x)) a.lead (a.term c) c t (λ e _. subst (λ z. Majority n (λ q. a.vote q z ≡ c)) (sym e) g.votes) (λ ne pos. h.elected t pos);
  unled = λ t.
      at_upd (λ x. x ≡ 0 → upd a.llog (a.term c) (a.log c) t ≡ []) a.lead (a.term c) c t
      (λ e z. absurd (omega (arith, g.positive)))
      (λ ne z. at_upd (λ x. x ≡ []) a.llog (a.term c) (a.log c) t (λ e. absurd (ne e)) (λ _. h.unled t z));
  lead_term = λ t. at_upd (λ x. 0 < x → t ≤ a.term x) a.lead (a.term c) c t (λ e _. omega arith) (λ ne pos. h.lead_term t pos);
  lead_log = λ p pos.
      at_upd (λ x. x ≡ p → a.log p ≡ upd a.llog (a.term c) (a.log c) (a.term p)) a.lead (a.term c) c (a.term p)
      (λ e cp. at_upd (λ x. a.log p ≡ x) a.llog (a.term c) (a.log c) (a.term p) (λ _. ap a.log (sym cp)) (λ ne. absurd (ne e)))
      (λ ne lp. at_upd (λ x. a.log p ≡ x) a.llog (a.term c) (a.log c) (a.term p) (λ e. absurd (ne e)) (λ _. h.lead_log p pos lp));
  lead_ack = λ t.
      at_upd (λ x. 0 < x → upd2 a.ack c (a.term c) (length (a.log c)) x t ≡ length (upd a.llog (a.term c) (a.log c) t)) a.lead (a.term c) c t
      (λ e _.
      at_upd2 (λ x. x ≡ length (upd a.llog (a.term c) (a.log c) t)) a.ack c (a.term c) (length (a.log c)) c t
      (λ _ _. at_upd (λ x. length (a.log c) ≡ length x) a.llog (a.term c) (a.log c) t (λ _. refl) (λ ne. absurd (ne e)))
      (λ ne. absurd (ne refl e)))
      (λ ne pos.
      at_upd2 (λ x. x ≡ length (upd a.llog (a.term c) (a.log c) t)) a.ack c (a.term c) (length (a.log c)) (a.lead t) t
      (λ _ et. absurd (ne et))
      (λ _. at_upd (λ x. a.ack (a.lead t) t ≡ length x) a.llog (a.term c) (a.log c) t (λ e. absurd (ne e)) (λ _. h.lead_ack t pos)));
  good_log = λ p. good_more a.llog (upd a.llog (a.term c) (a.log c)) (a.log p) (elect_longer n a c h g) (h.good_log p);
  good_llog = λ t.
      at_upd (λ x. Good (upd a.llog (a.term c) (a.log c)) x) a.llog (a.term c) (a.log c) t
      (λ _. good_more a.llog (upd a.llog (a.term c) (a.log c)) (a.log c) (elect_longer n a c h g) (h.good_log c))
      (λ _. good_more a.llog (upd a.llog (a.term c) (a.log c)) (a.llog t) (elect_longer n a c h g) (h.good_llog t));
  log_terms = h.log_terms;
  llog_terms = λ t j. at_upd (λ x. tm x j ≤ t) a.llog (a.term c) (a.log c) t (λ e. omega (arith, h.log_terms c j)) (λ ne. h.llog_terms t j);
  ack_length = λ p t.
      at_upd2 (λ x. x ≤ length (upd a.llog (a.term c) (a.log c) t)) a.ack c (a.term c) (length (a.log c)) p t
      (λ _ et. at_upd (λ x. length (a.log c) ≤ length x) a.llog (a.term c) (a.log c) t (λ _. omega arith) (λ ne. absurd (ne et)))
      (λ _. at_upd (λ x. a.ack p t ≤ length x) a.llog (a.term c) (a.log c) t (λ e. omega (arith, h.ack_length p t, ap length (h.unled t (ap a.lead e ∙ g.leaderless)))) (λ _. h.ack_length p t));
  ack_term = λ p t lt. at_upd2 (λ x. x ≡ 0) a.ack c (a.term c) (length (a.log c)) p t (λ ep et. absurd (omega (arith, ap a.term ep))) (λ ne. h.ack_term p t lt);
  stored = λ p t j proper opens acked.
      let old : (t ≡ a.term c → ⊥) × Proper a.llog t j = elect_proper n a c h g t j proper in
      let was : j < a.ack p t = at_upd2 (λ x. j < x → j < a.ack p t) a.ack c (a.term c) (length (a.log c)) p t (λ _ et _. absurd (old.0 et)) (λ _ k. k) acked in
      at_upd (λ x. take (suc j) x ≡ take (suc j) (a.log p)) a.llog (a.term c) (a.log c) t (λ e. absurd (old.0 e)) (λ _. h.stored p t j old.1 (elect_open n a c t j opens) was);
  fresh = λ p s t j voted lt proper opens acked.
      let old : (t ≡ a.term c → ⊥) × Proper a.llog t j = elect_proper n a c h g t j proper in
      let was : j < a.ack p t = at_upd2 (λ x. j < x → j < a.ack p t) a.ack c (a.term c) (length (a.log c)) p t (λ _ et _. absurd (old.0 et)) (λ _ k. k) acked in
      h.fresh p s t j voted lt old.1 (elect_open n a c t j opens) was;
  complete = λ s t j led lt proper opens.
      let old : (t ≡ a.term c → ⊥) × Proper a.llog t j = elect_proper n a c h g t j proper in
      let opened : Open n a.term a.ack t j = elect_open n a c t j opens in
      at_upd (λ x. take (suc j) x ≡ take (suc j) (upd a.llog (a.term c) (a.log c) s)) a.llog (a.term c) (a.log c) t
      (λ e. absurd (old.0 e))
      (λ _.
      at_upd (λ x. take (suc j) (a.llog t) ≡ take (suc j) x) a.llog (a.term c) (a.log c) s
      (λ es. elect_complete n a c h g t j (omega arith) old.1 opened)
      (λ ns. h.complete s t j (at_upd (λ x. 0 < x → 0 < a.lead s) a.lead (a.term c) c s (λ es _. absurd (ns es)) (λ _ k. k) led) lt old.1 opened));
}
