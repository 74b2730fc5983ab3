-- A node takes entries of its term's leader.
use Rattle.std.proofs.Common.{◌≡◌, ℕ, suc, ◌<◌, ◌≤◌, max, List, length, take, sym, ap, subst, ◌∙◌, arith, ◌⊎◌, ⊎_elim, inl, inr}
use Rattle.std.proofs.lemmas.Bool.{cases_lt}
use Rattle.rp_raftlog.specs.declared.entries.Entry.{Entry}
use Rattle.rp_raftsafe.proofs.Tables.{upd, upd2, at_upd, at_upd2}
use Rattle.rp_raftsafe.proofs.Logs.{tm, Good, same_less, same_length}
use Rattle.rp_raftsafe.proofs.Quorum.{majority_map}
use Rattle.rp_raftsafe.proofs.Machine.{Abs, Proper, Open, IsFresh, Inv}

-- the log becomes xs, of which the leader learns that m entries are as its own
abbrev pub store : Abs → ℕ → List Entry → ℕ → Abs
store a p xs m = record a {
  log = upd a.log p xs;
  ack = upd2 a.ack p (a.term p) (max (a.ack p (a.term p)) m);
}

-- when a node may do so
pub record Stores (a : Abs) (p : ℕ) (xs : List Entry) (m : ℕ) : Type 0 where
  pub good : Good a.llog xs
  pub terms : (j : ℕ) → tm xs j ≤ a.term p
  -- what is acknowledged
  pub within : m ≤ length (a.llog (a.term p))
  pub front : take m xs ≡ take m (a.llog (a.term p))
  -- what the node has in common with the leader, it keeps
  pub kept : (j : ℕ) → j ≤ length (a.log p) → take j (a.log p) ≡ take j (a.llog (a.term p)) → take j xs ≡ take j (a.llog (a.term p))

-- under a leader that is another node
pub record Follows (a : Abs) (p : ℕ) : Type 0 where
  pub led : 0 < a.lead (a.term p)
  pub other : a.lead (a.term p) ≡ p → ⊥

module _ (n : ℕ) (a : Abs) (p0 : ℕ) (xs : List Entry) (m : ℕ) (h : Inv n a) (f : Follows a p0) (g : Stores a p0 xs m) where
  stored_open : (t j : ℕ) → Open n a.term (store a p0 xs m).ack t j → Open n a.term a.ack t j
  stored_open t j o =
      majority_map n _ _
      (λ q _ either.
      ⊎_elim
      (λ k. at_upd2 (λ x. j < x → (j < a.ack q t) ⊎ (a.term q ≤ t)) a.ack p0 (a.term p0) (max (a.ack p0 (a.term p0)) m) q t (λ eq et _. inr (omega (arith, ap a.term eq))) (λ ne k'. inl k') k)
      inr either)
      o

  -- what was acknowledged of the present term
  now : (j : ℕ) → Proper a.llog (a.term p0) j → Open n a.term a.ack (a.term p0) j → j < max (a.ack p0 (a.term p0)) m → take (suc j) (a.llog (a.term p0)) ≡ take (suc j) xs
  now j proper opens lt =
      ⊎_elim
      (λ (new : j < m). sym (same_less (suc j) m xs (a.llog (a.term p0)) (omega arith) g.front))
      (λ (old : m ≤ j).
      let same : take (suc j) (a.llog (a.term p0)) ≡ take (suc j) (a.log p0) = h.stored p0 (a.term p0) j proper opens (omega arith) in
      sym (g.kept (suc j) (same_length (suc j) (a.llog (a.term p0)) (a.log p0) proper.within same) (sym same)))
      (cases_lt j m)

  -- what was acknowledged of an earlier term
  before : (t j : ℕ) → (t ≡ a.term p0 → ⊥) → Proper a.llog t j → Open n a.term a.ack t j → j < a.ack p0 t → take (suc j) (a.llog t) ≡ take (suc j) xs
  before t j ne proper opens acked =
      let past : t ≤ a.term p0 = ⊎_elim (λ (early : a.term p0 < t). absurd (omega (arith, h.ack_term p0 t early))) (λ le. le) (cases_lt (a.term p0) t) in
      let same : take (suc j) (a.llog t) ≡ take (suc j) (a.log p0) = h.stored p0 t j proper opens acked in
      let done : take (suc j) (a.llog t) ≡ take (suc j) (a.llog (a.term p0)) = h.complete (a.term p0) t j f.led (omega (arith, ne)) proper opens in
      done ∙ sym (g.kept (suc j) (same_length (suc j) (a.llog t) (a.log p0) proper.within same) (sym same ∙ done))

  pub store_keeps_all : Inv n (store a p0 xs m)
  store_keeps_all = record {
    unvoted = h.unvoted;
    asked_first = h.asked_first;
    elected = h.elected;
    unled = h.unled;
    lead_term = h.lead_term;
    lead_log = λ p pos lp. at_upd (λ x. x ≡ a.llog (a.term p)) a.log p0 xs p (λ ep. absurd (f.other (ap (λ z. a.lead (a.term z)) (sym ep) ∙ lp ∙ ep))) (λ _. h.lead_log p pos lp);
    lead_ack = λ t pos. at_upd2 (λ x. x ≡ length (a.llog t)) a.ack p0 (a.term p0) (max (a.ack p0 (a.term p0)) m) (a.lead t) t (λ el et. absurd (f.other (ap a.lead (sym et) ∙ el))) (λ _. h.lead_ack t pos);
    good_log = λ p. at_upd (λ x. Good a.llog x) a.log p0 xs p (λ _. g.good) (λ _. h.good_log p);
    good_llog = h.good_llog;
    log_terms = λ p j. at_upd (λ x. tm x j ≤ a.term p) a.log p0 xs p (λ ep. omega (arith, ap a.term ep, g.terms j)) (λ _. h.log_terms p j);
    llog_terms = h.llog_terms;
    ack_length = λ p t. at_upd2 (λ x. x ≤ length (a.llog t)) a.ack p0 (a.term p0) (max (a.ack p0 (a.term p0)) m) p t (λ ep et. omega (arith, ap (λ z. length (a.llog z)) et, h.ack_length p0 (a.term p0), g.within)) (λ _. h.ack_length p t);
    ack_term = λ p t lt. at_upd2 (λ x. x ≡ 0) a.ack p0 (a.term p0) (max (a.ack p0 (a.term p0)) m) p t (λ ep et. absurd (omega (arith, ap a.term ep))) (λ _. h.ack_term p t lt);
    stored = λ p t j proper opens acked.
        at_upd2 (λ x. j < x → take (suc j) (a.llog t) ≡ take (suc j) ((store a p0 xs m).log p)) a.ack p0 (a.term p0) (max (a.ack p0 (a.term p0)) m) p t
        (λ ep et k.
        at_upd (λ x. take (suc j) (a.llog t) ≡ take (suc j) x) a.log p0 xs p
        (λ _. subst (λ z. take (suc j) (a.llog z) ≡ take (suc j) xs) (sym et) (now j (subst (λ z. Proper a.llog z j) et proper) (subst (λ z. Open n a.term a.ack z j) et (stored_open t j opens)) k))
        (λ ne. absurd (ne ep)))
        (λ ne k.
        at_upd (λ x. take (suc j) (a.llog t) ≡ take (suc j) x) a.log p0 xs p
        (λ ep. before t j (λ et. ne ep et) proper (stored_open t j opens) (subst (λ z. j < a.ack z t) ep k))
        (λ _. h.stored p t j proper (stored_open t j opens) k))
        acked;
    fresh = λ p s t j voted lt proper opens acked.
        at_upd2 (λ x. j < x → IsFresh t j (a.asked s (a.vote p s))) a.ack p0 (a.term p0) (max (a.ack p0 (a.term p0)) m) p t
        (λ ep et _. absurd (omega (arith, h.unvoted p s (omega (arith, ap a.term ep)))))
        (λ _ k. h.fresh p s t j voted lt proper (stored_open t j opens) k)
        acked;
    complete = λ s t j led lt proper opens. h.complete s t j led lt proper (stored_open t j opens);
  }

pub store_keeps : (n : ℕ) (a : Abs) (p : ℕ) (xs : List Entry) (m : ℕ) → Follows a p → Stores a p xs m → Inv n a → Inv n (store a p xs m)
store_keeps n a p xs m f g h = store_keeps_all n a p xs m h f g
