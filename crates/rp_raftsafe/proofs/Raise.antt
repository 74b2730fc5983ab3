-- A node goes on to a later term; and a candidate notes its log.
use Rattle.std.proofs.Common.{◌≡◌, ℕ, ◌<◌, ◌≤◌, sym, ap, subst, arith, ⊎_elim, inl, inr}
use Rattle.rp_raftsafe.proofs.Tables.{upd, upd2, at_upd, at_upd2}
use Rattle.rp_raftsafe.proofs.Logs.{tm}
use Rattle.rp_raftsafe.proofs.Quorum.{majority_map}
use Rattle.rp_raftsafe.proofs.Machine.{Abs, Open, IsFresh, Inv}

abbrev pub raise : Abs → ℕ → ℕ → Abs
raise a p t = record a { term = upd a.term p t }

raised_open : (n : ℕ) (a : Abs) (p t : ℕ) → a.term p < t → (s j : ℕ) → Open n (upd a.term p t) a.ack s j → Open n a.term a.ack s j
raised_open n a p t up s j o =
    majority_map n _ _
    (λ q pos either. ⊎_elim inl (λ le. inr (at_upd (λ x. x ≤ s → a.term q ≤ s) a.term p t q (λ e le'. omega (arith, ap a.term e)) (λ ne le'. le') le)) either)
    o

pub raise_keeps : (n : ℕ) (a : Abs) (p t : ℕ) → a.term p < t → Inv n a → Inv n (raise a p t)
raise_keeps n a p t up h = record {
  unvoted = λ q s. at_upd (λ x. x < s → a.vote q s ≡ 0) a.term p t q (λ e lt. h.unvoted q s (omega (arith, ap a.term e))) (λ ne lt. h.unvoted q s lt);
  asked_first = h.asked_first;
  elected = h.elected;
  unled = h.unled;
  lead_term = λ s pos. at_upd (λ x. s ≤ x) a.term p t (a.lead s) (λ e. omega (arith, ap a.term e, h.lead_term s pos)) (λ ne. h.lead_term s pos);
  lead_log = λ q pos. at_upd (λ x. a.lead x ≡ q → a.log q ≡ a.llog x) a.term p t q
      (λ e le. absurd (omega (arith, ap a.term le, ap a.term e, h.lead_term t (omega arith))))
      (λ ne le. h.lead_log q pos le);
  lead_ack = h.lead_ack;
  good_log = h.good_log;
  good_llog = h.good_llog;
  log_terms = λ q j. at_upd (λ x. tm (a.log q) j ≤ x) a.term p t q (λ e. omega (arith, ap a.term e, h.log_terms q j)) (λ ne. h.log_terms q j);
  llog_terms = h.llog_terms;
  ack_length = h.ack_length;
  ack_term = λ q s. at_upd (λ x. x < s → a.ack q s ≡ 0) a.term p t q (λ e lt. h.ack_term q s (omega (arith, ap a.term e))) (λ ne lt. h.ack_term q s lt);
  stored = λ q s j proper opens. h.stored q s j proper (raised_open n a p t up s j opens);
  fresh = λ q u s j voted lt proper opens. h.fresh q u s j voted lt proper (raised_open n a p t up s j opens);
  complete = λ u s j led lt proper opens. h.complete u s j led lt proper (raised_open n a p t up s j opens);
}

abbrev pub ask : Abs → ℕ → Abs
ask a p = record a { asked = upd2 a.asked (a.term p) p (a.log p) }

pub ask_keeps : (n : ℕ) (a : Abs) (p : ℕ) → a.vote p (a.term p) ≡ 0 → Inv n a → Inv n (ask a p)
ask_keeps n a p free h = record {
  unvoted = h.unvoted;
  asked_first = h.asked_first;
  elected = h.elected;
  unled = h.unled;
  lead_term = h.lead_term;
  lead_log = h.lead_log;
  lead_ack = h.lead_ack;
  good_log = h.good_log;
  good_llog = h.good_llog;
  log_terms = h.log_terms;
  llog_terms = h.llog_terms;
  ack_length = h.ack_length;
  ack_term = h.ack_term;
  stored = h.stored;
  fresh = λ q u s j voted lt proper opens acked.
      at_upd2 (λ x. IsFresh s j x) a.asked (a.term p) p (a.log p) u (a.vote q u)
      (λ eu ev.
      let itself : a.vote (a.vote q u) u ≡ a.vote q u = h.asked_first q u voted in
      let none : a.vote (a.vote q u) u ≡ 0 = subst (λ z. a.vote z u ≡ 0) (sym ev) (subst (λ z. a.vote p z ≡ 0) (sym eu) free) in
      absurd (omega (arith, itself, none)))
      (λ ne. h.fresh q u s j voted lt proper opens acked);
  complete = h.complete;
}
