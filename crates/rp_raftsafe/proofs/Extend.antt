-- A leader appends an entry of its term.
use Rattle.std.proofs.Common.{◌≡◌, ℕ, suc, ◌<◌, ◌≤◌, [], ◌∷◌, ◌++◌, length, take, sym, ap, subst, ◌∙◌, arith, ◌⊎◌, ⊎_elim, inl, inr}
use Rattle.std.proofs.lemmas.Bool.{cases_lt}
use Rattle.std.proofs.lemmas.List.{length_push, get_or_append_left}
use Rattle.rp_raftlog.specs.declared.entries.Entry.{Entry}
use Rattle.rp_raftsafe.proofs.Tables.{upd, upd2, at_upd, at_upd2, upd_same}
use Rattle.rp_raftsafe.proofs.Logs.{tm, no_entry, Good, Longer, good_more, good_push, longer_refl, longer_push, longer_take, longer_length, same_length, tm_push}
use Rattle.rp_raftsafe.proofs.Quorum.{Shared, majority_map, majorities_meet}
use Rattle.rp_raftsafe.proofs.Machine.{Abs, Proper, Open, IsFresh, Inv}

abbrev pub extend : Abs → ℕ → Entry → Abs
extend a c e = record a {
  log = upd a.log c (a.log c ++ e ∷ []);
  llog = upd a.llog (a.term c) (a.llog (a.term c) ++ e ∷ []);
  ack = upd2 a.ack c (a.term c) (suc (a.ack c (a.term c)));
}

-- when a leader may append an entry
pub record Extends (a : Abs) (c : ℕ) (e : Entry) : Type 0 where
  pub positive : 0 < c
  pub leads : a.lead (a.term c) ≡ c
  pub own : e.term ≡ a.term c

module _ (n : ℕ) (a : Abs) (c : ℕ) (e : Entry) (h : Inv n a) (g : Extends a c e) where
  same_log : a.log c ≡ a.llog (a.term c)
  same_log = h.lead_log c g.positive g.leads

  full_ack : a.ack c (a.term c) ≡ length (a.llog (a.term c))
  full_ack = subst (λ z. a.ack z (a.term c) ≡ length (a.llog (a.term c))) g.leads (h.lead_ack (a.term c) (omega (arith, g.positive, g.leads)))

  pub longer : Longer a.llog (extend a c e).llog
  longer t = at_upd (λ x. take (length (a.llog t)) x ≡ a.llog t) a.llog (a.term c) (a.llog (a.term c) ++ e ∷ []) t
      (λ et. subst (λ z. take (length (a.llog z)) (a.llog (a.term c) ++ e ∷ []) ≡ a.llog z) (sym et) (longer_push (a.llog (a.term c)) e))
      (λ _. longer_refl (a.llog t))

  pub longer_log : (p : ℕ) → take (length (a.log p)) ((extend a c e).log p) ≡ a.log p
  longer_log p = at_upd (λ x. take (length (a.log p)) x ≡ a.log p) a.log c (a.log c ++ e ∷ []) p
      (λ ep. subst (λ z. take (length (a.log z)) (a.log c ++ e ∷ []) ≡ a.log z) (sym ep) (longer_push (a.log c) e))
      (λ _. longer_refl (a.log p))

  new_log : (extend a c e).llog e.term ≡ a.log c ++ e ∷ []
  new_log = ap (extend a c e).llog g.own ∙ upd_same a.llog (a.term c) (a.llog (a.term c) ++ e ∷ []) ∙ ap (λ z. z ++ e ∷ []) (sym same_log)

  opened : (t j : ℕ) → Open n a.term (extend a c e).ack t j → Open n a.term a.ack t j
  opened t j o =
      majority_map n _ _
      (λ q _ either.
      ⊎_elim
      (λ k. at_upd2 (λ x. j < x → (j < a.ack q t) ⊎ (a.term q ≤ t)) a.ack c (a.term c) (suc (a.ack c (a.term c))) q t (λ eq et _. inr (omega (arith, ap a.term eq))) (λ ne k'. inl k') k)
      inr either)
      o

  -- a place of the leaders' logs as they were
  proper_within : (t j : ℕ) → j < length (a.llog t) → Proper (extend a c e).llog t j → Proper a.llog t j
  proper_within t j lt proper =
      at_upd (λ x. tm x j ≡ t → Proper a.llog t j) a.llog (a.term c) (a.llog (a.term c) ++ e ∷ []) t
      (λ et own.
      let lt' : j < length (a.llog (a.term c)) = subst (λ z. j < length (a.llog z)) et lt in
      let same : tm (a.llog (a.term c) ++ e ∷ []) j ≡ tm (a.llog (a.term c)) j = ap (λ z. z.term) (get_or_append_left (a.llog (a.term c)) (e ∷ []) no_entry j lt') in
      record { within = lt; own = ap (λ z. tm (a.llog z) j) et ∙ sym same ∙ own })
      (λ _ own. record { within = lt; own = own })
      proper.own

  -- what two logs share, they share after the append
  still : (t s j : ℕ) → suc j ≤ length (a.llog t) → take (suc j) (a.llog t) ≡ take (suc j) (a.llog s) → take (suc j) ((extend a c e).llog t) ≡ take (suc j) ((extend a c e).llog s)
  still t s j le same =
      let le' : suc j ≤ length (a.llog s) = same_length (suc j) (a.llog t) (a.llog s) le same in
      longer_take (a.llog t) ((extend a c e).llog t) (suc j) (longer t) le ∙ same ∙ sym (longer_take (a.llog s) ((extend a c e).llog s) (suc j) (longer s) le')

  still_log : (t p j : ℕ) → suc j ≤ length (a.llog t) → take (suc j) (a.llog t) ≡ take (suc j) (a.log p) → take (suc j) ((extend a c e).llog t) ≡ take (suc j) ((extend a c e).log p)
  still_log t p j le same =
      let le' : suc j ≤ length (a.log p) = same_length (suc j) (a.llog t) (a.log p) le same in
      longer_take (a.llog t) ((extend a c e).llog t) (suc j) (longer t) le ∙ same ∙ sym (longer_take (a.log p) ((extend a c e).log p) (suc j) (longer_log p) le')

  -- the new place can no longer become committed once a later term is led
  new_place_shut : (s t j : ℕ) → 0 < a.lead s → t < s → length (a.llog t) ≤ j → Open n a.term a.ack t j → ⊥
  new_place_shut s t j led lt past o =
      let m : Shared n (λ q. a.vote q s ≡ a.lead s) (λ q. (j < a.ack q t) ⊎ (a.term q ≤ t)) = majorities_meet n _ _ (h.elected s led) o in
      let voted : a.vote m.node s ≡ a.lead s = m.left in
      let late : s ≤ a.term m.node = ⊎_elim (λ (early : a.term m.node < s). absurd (omega (arith, h.unvoted m.node s early))) (λ le. le) (cases_lt (a.term m.node) s) in
      ⊎_elim (λ (k : j < a.ack m.node t). absurd (omega (arith, h.ack_length m.node t))) (λ (le : a.term m.node ≤ t). absurd (omega arith)) m.right

  pub extend_keeps_all : Inv n (extend a c e)
  extend_keeps_all = record {
    unvoted = h.unvoted;
    asked_first = h.asked_first;
    elected = h.elected;
    unled = λ t z. at_upd (λ x. x ≡ []) a.llog (a.term c) (a.llog (a.term c) ++ e ∷ []) t (λ et. absurd (omega (arith, g.positive, g.leads, ap a.lead et))) (λ _. h.unled t z);
    lead_term = h.lead_term;
    lead_log = λ p pos lp.
        at_upd (λ x. x ≡ (extend a c e).llog (a.term p)) a.log c (a.log c ++ e ∷ []) p
        (λ ep. at_upd (λ y. a.log c ++ e ∷ [] ≡ y) a.llog (a.term c) (a.llog (a.term c) ++ e ∷ []) (a.term p) (λ _. ap (λ z. z ++ e ∷ []) same_log) (λ ne. absurd (ne (ap a.term ep))))
        (λ ne. at_upd (λ y. a.log p ≡ y) a.llog (a.term c) (a.llog (a.term c) ++ e ∷ []) (a.term p) (λ et. absurd (ne (sym lp ∙ ap a.lead et ∙ g.leads))) (λ _. h.lead_log p pos lp));
    lead_ack = λ t pos.
        at_upd2 (λ x. x ≡ length ((extend a c e).llog t)) a.ack c (a.term c) (suc (a.ack c (a.term c))) (a.lead t) t
        (λ el et. at_upd (λ y. suc (a.ack c (a.term c)) ≡ length y) a.llog (a.term c) (a.llog (a.term c) ++ e ∷ []) t (λ _. omega (arith, full_ack, length_push (a.llog (a.term c)) e)) (λ ne. absurd (ne et)))
        (λ ne. at_upd (λ y. a.ack (a.lead t) t ≡ length y) a.llog (a.term c) (a.llog (a.term c) ++ e ∷ []) t (λ et. absurd (ne (ap a.lead et ∙ g.leads) et)) (λ _. h.lead_ack t pos));
    good_log = λ p.
        at_upd (λ x. Good (extend a c e).llog x) a.log c (a.log c ++ e ∷ []) p
        (λ _. good_push a.llog (extend a c e).llog (a.log c) e longer (h.good_log c) new_log)
        (λ _. good_more a.llog (extend a c e).llog (a.log p) longer (h.good_log p));
    good_llog = λ t.
        at_upd (λ x. Good (extend a c e).llog x) a.llog (a.term c) (a.llog (a.term c) ++ e ∷ []) t
        (λ _. subst (λ z. Good (extend a c e).llog (z ++ e ∷ [])) same_log (good_push a.llog (extend a c e).llog (a.log c) e longer (h.good_log c) new_log))
        (λ _. good_more a.llog (extend a c e).llog (a.llog t) longer (h.good_llog t));
    log_terms = λ p j. at_upd (λ x. tm x j ≤ a.term p) a.log c (a.log c ++ e ∷ []) p (λ ep. subst (λ z. tm (a.log c ++ e ∷ []) j ≤ a.term z) (sym ep) (tm_push (a.log c) e (a.term c) (h.log_terms c) (omega (arith, g.own)) j)) (λ _. h.log_terms p j);
    llog_terms = λ t j. at_upd (λ x. tm x j ≤ t) a.llog (a.term c) (a.llog (a.term c) ++ e ∷ []) t (λ et. subst (λ z. tm (a.llog (a.term c) ++ e ∷ []) j ≤ z) (sym et) (tm_push (a.llog (a.term c)) e (a.term c) (h.llog_terms (a.term c)) (omega (arith, g.own)) j)) (λ _. h.llog_terms t j);
    ack_length = λ p t.
        at_upd2 (λ x. x ≤ length ((extend a c e).llog t)) a.ack c (a.term c) (suc (a.ack c (a.term c))) p t
        (λ ep et. at_upd (λ y. suc (a.ack c (a.term c)) ≤ length y) a.llog (a.term c) (a.llog (a.term c) ++ e ∷ []) t (λ _. omega (arith, full_ack, length_push (a.llog (a.term c)) e)) (λ ne. absurd (ne et)))
        (λ _. omega (arith, h.ack_length p t, longer_length (a.llog t) ((extend a c e).llog t) (longer t)));
    ack_term = λ p t lt. at_upd2 (λ x. x ≡ 0) a.ack c (a.term c) (suc (a.ack c (a.term c))) p t (λ ep et. absurd (omega (arith, ap a.term ep))) (λ _. h.ack_term p t lt);
    stored = λ p t j proper opens acked.
        at_upd2 (λ x. j < x → take (suc j) ((extend a c e).llog t) ≡ take (suc j) ((extend a c e).log p)) a.ack c (a.term c) (suc (a.ack c (a.term c))) p t
        (λ ep et _. ap (take (suc j)) (at_upd (λ x. x ≡ (extend a c e).log p) a.llog (a.term c) (a.llog (a.term c) ++ e ∷ []) t (λ _. at_upd (λ y. a.llog (a.term c) ++ e ∷ [] ≡ y) a.log c (a.log c ++ e ∷ []) p (λ _. ap (λ z. z ++ e ∷ []) (sym same_log)) (λ ne. absurd (ne ep))) (λ ne. absurd (ne et))))
        (λ _ k.
        let le : j < length (a.llog t) = omega (arith, h.ack_length p t) in
        still_log t p j le (h.stored p t j (proper_within t j le proper) (opened t j opens) k))
        acked;
    fresh = λ p s t j voted lt proper opens acked.
        at_upd2 (λ x. j < x → IsFresh t j (a.asked s (a.vote p s))) a.ack c (a.term c) (suc (a.ack c (a.term c))) p t
        (λ ep et _. absurd (omega (arith, h.unvoted p s (omega (arith, ap a.term ep)))))
        (λ _ k. h.fresh p s t j voted lt (proper_within t j (omega (arith, h.ack_length p t)) proper) (opened t j opens) k)
        acked;
    complete = λ s t j led lt proper opens.
        ⊎_elim
        (λ (within : j < length (a.llog t)). still t s j within (h.complete s t j led lt (proper_within t j within proper) (opened t j opens)))
        (λ (past : length (a.llog t) ≤ j). absurd (new_place_shut s t j led lt past (opened t j opens)))
        (cases_lt j (length (a.llog t)));
  }

pub extend_keeps : (n : ℕ) (a : Abs) (c : ℕ) (e : Entry) → Extends a c e → Inv n a → Inv n (extend a c e)
extend_keeps n a c e g h = extend_keeps_all n a c e h g
