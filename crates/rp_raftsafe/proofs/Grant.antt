-- A node gives its vote of the present term.
use Rattle.std.proofs.Common.{◌≡◌, ℕ, suc, ◌<◌, ◌≤◌, List, length, take, refl, sym, ap, subst, ◌∙◌, arith, ◌⊎◌, ⊎_elim, inl, inr}
use Rattle.std.proofs.lemmas.Bool.{cases_order}
use Rattle.rp_raftlog.specs.declared.entries.Entry.{Entry}
use Rattle.rp_raftsafe.proofs.Tables.{upd2, at_upd2}
use Rattle.rp_raftsafe.proofs.Logs.{tm, last_tm, same_length, same_tm, whole_front}
use Rattle.rp_raftsafe.proofs.Quorum.{majority_map}
use Rattle.rp_raftsafe.proofs.Machine.{Abs, Proper, Open, IsFresh, AtLeast, Inv}

abbrev pub grant : Abs → ℕ → ℕ → Abs
grant a p c = record a { vote = upd2 a.vote p (a.term p) c }

-- when a node may vote for another, or for itself
pub record Grants (a : Abs) (p c : ℕ) : Type 0 where
  pub positive : 0 < c
  pub free : a.vote p (a.term p) ≡ 0
  pub up_to_date : AtLeast (a.asked (a.term p) c) (a.log p)
  pub stands : (c ≡ p) ⊎ (a.vote c (a.term p) ≡ c)

-- the last term of a log is no less than any other of it
pub last_ge : (n : ℕ) (a : Abs) → Inv n a → (p j : ℕ) → j < length (a.log p) → tm (a.log p) j ≤ last_tm (a.log p)
last_ge n a h p j lt =
    let e = same_tm j (length (a.log p)) (a.log p) (a.llog (last_tm (a.log p))) lt (whole_front a.llog (a.log p) (h.good_log p)) in
    omega (arith, e, h.llog_terms (last_tm (a.log p)) j)

-- a log that is at least as up to date as one that holds an entry is fresh for it
fresh_than : (t j : ℕ) (xs ys : List Entry) → j < length ys → t ≤ last_tm ys → AtLeast xs ys → IsFresh t j xs
fresh_than t j xs ys within le at_least =
    ⊎_elim
    (λ lt. inl (omega arith))
    (λ both. let e : last_tm ys ≡ last_tm xs = both.0 in let more : length ys ≤ length xs = both.1 in
    ⊎_elim
    (λ (same : t ≡ last_tm xs). inr (same, omega arith))
    (⊎_elim (λ lt. inl lt) (λ gt. absurd (omega arith)))
    (cases_order t (last_tm xs)))
    at_least

pub grant_keeps : (n : ℕ) (a : Abs) (p c : ℕ) → Grants a p c → Inv n a → Inv n (grant a p c)
grant_keeps n a p c g h = record {
  unvoted = λ q s lt. at_upd2 (λ x. x ≡ 0) a.vote p (a.term p) c q s (λ eq es. absurd (omega (arith, ap a.term eq))) (λ ne. h.unvoted q s lt);
  asked_first = λ q s.
      at_upd2 (λ x. 0 < x → upd2 a.vote p (a.term p) c x s ≡ x) a.vote p (a.term p) c q s
      (λ eq es pos.
      at_upd2 (λ x. x ≡ c) a.vote p (a.term p) c c s
      (λ _ _. refl)
      (λ ne. ⊎_elim (λ same. absurd (ne same es)) (λ stood. ap (a.vote c) es ∙ stood) g.stands))
      (λ ne pos.
      at_upd2 (λ x. x ≡ a.vote q s) a.vote p (a.term p) c (a.vote q s) s
      (λ ev es.
      let itself : a.vote (a.vote q s) s ≡ a.vote q s = h.asked_first q s pos in
      let none : a.vote (a.vote q s) s ≡ 0 = subst (λ z. a.vote z s ≡ 0) (sym ev) (subst (λ z. a.vote p z ≡ 0) (sym es) g.free) in
      absurd (omega (arith, itself, none)))
      (λ ne'. h.asked_first q s pos));
  elected = λ s pos.
      majority_map n _ _
      (λ q _ voted.
      at_upd2 (λ x. x ≡ a.lead s) a.vote p (a.term p) c q s
      (λ eq es.
      let none : a.vote q s ≡ 0 = subst (λ z. a.vote z s ≡ 0) (sym eq) (subst (λ z. a.vote p z ≡ 0) (sym es) g.free) in
      absurd (omega (arith, voted, none)))
      (λ ne. voted))
      (h.elected s pos);
  unled = h.unled;
  lead_term = h.lead_term;
  lead_log = h.lead_log;
  lead_ack = h.lead_ack;
  good_log = h.good_log;
  good_llog = h.good_llog;
  log_terms = h.log_terms;
  llog_terms = h.llog_terms;
  ack_length = h.ack_length;
  ack_term = h.ack_term;
  stored = h.stored;
  fresh = λ q u s j.
      at_upd2 (λ x. 0 < x → s < u → Proper a.llog s j → Open n a.term a.ack s j → j < a.ack q s → IsFresh s j (a.asked u x)) a.vote p (a.term p) c q u
      (λ eq eu pos lt proper opens acked.
      let same : take (suc j) (a.llog s) ≡ take (suc j) (a.log p) = subst (λ z. take (suc j) (a.llog s) ≡ take (suc j) (a.log z)) eq (h.stored q s j proper opens acked) in
      let within : suc j ≤ length (a.log p) = same_length (suc j) (a.llog s) (a.log p) proper.within same in
      let at = same_tm j (suc j) (a.llog s) (a.log p) (omega arith) same in
      let le : s ≤ last_tm (a.log p) = omega (arith, at, proper.own, last_ge n a h p j within) in
      subst (λ z. IsFresh s j (a.asked z c)) (sym eu) (fresh_than s j (a.asked (a.term p) c) (a.log p) within le g.up_to_date))
      (λ ne pos lt proper opens acked. h.fresh q u s j pos lt proper opens acked);
  complete = h.complete;
}
