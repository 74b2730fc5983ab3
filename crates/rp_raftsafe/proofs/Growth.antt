-- What no move takes back; and what a move of one node leaves of the others.
use Rattle.std.proofs.Common.{◌≡◌, ℕ, suc, ◌<◌, ◌≤◌, max, List, [], ◌∷◌, ◌++◌, length, refl, sym, ap, subst, ◌∙◌, arith, ⊎_elim}
use Rattle.std.proofs.lemmas.Bool.{cases_lt}
use Rattle.std.proofs.lemmas.List.{get_or_push, length_push}
use Rattle.rp_raftlog.specs.declared.entries.Entry.{Entry}
use Rattle.rp_raftsafe.proofs.Tables.{at_upd, at_upd2}
use Rattle.rp_raftsafe.proofs.Logs.{tm, no_entry, same_tm, Longer, longer_refl, longer_take, longer_length}
use Rattle.rp_raftsafe.proofs.Machine.{Abs, Inv}
use Rattle.rp_raftsafe.proofs.Raise.{raise, ask}
use Rattle.rp_raftsafe.proofs.Grant.{grant}
use Rattle.rp_raftsafe.proofs.Elect.{elect, Elects, elect_longer}
use Rattle.rp_raftsafe.proofs.Extend.{extend, Extends, longer}
use Rattle.rp_raftsafe.proofs.Store.{store}

pub record Grows (a b : Abs) : Type 0 where
  pub term : (q : ℕ) → a.term q ≤ b.term q
  pub vote : (q t : ℕ) → 0 < a.vote q t → b.vote q t ≡ a.vote q t
  pub asked : (t c : ℕ) → 0 < a.vote c t → b.asked t c ≡ a.asked t c
  pub lead : (t : ℕ) → 0 < a.lead t → b.lead t ≡ a.lead t
  pub llog : Longer a.llog b.llog
  pub ack : (q t : ℕ) → a.ack q t ≤ b.ack q t
  -- a leader appends entries of its own term
  pub added : (t j : ℕ) → 0 < a.lead t → length (a.llog t) ≤ j → j < length (b.llog t) → tm (b.llog t) j ≡ t

pub grows_refl : (a : Abs) → Grows a a
grows_refl a = record { term = λ q. omega arith; vote = λ q t _. refl; asked = λ t c _. refl; lead = λ t _. refl; llog = λ t. longer_refl (a.llog t); ack = λ q t. omega arith; added = λ t j _ le lt. absurd (omega arith) }

pub grows_trans : (a b c : Abs) → Grows a b → Grows b c → Grows a c
grows_trans a b c g h = record {
  term = λ q. omega (arith, g.term q, h.term q);
  vote = λ q t pos. h.vote q t (omega (arith, g.vote q t pos)) ∙ g.vote q t pos;
  asked = λ t p pos. h.asked t p (omega (arith, g.vote p t pos)) ∙ g.asked t p pos;
  lead = λ t pos. h.lead t (omega (arith, g.lead t pos)) ∙ g.lead t pos;
  llog = λ t. longer_take (b.llog t) (c.llog t) (length (a.llog t)) (h.llog t) (longer_length (a.llog t) (b.llog t) (g.llog t)) ∙ g.llog t;
  ack = λ q t. omega (arith, g.ack q t, h.ack q t);
  added = λ t j pos le lt.
      ⊎_elim
      (λ (old : j < length (b.llog t)). same_tm j (suc j) (c.llog t) (b.llog t) (omega arith) (longer_take (b.llog t) (c.llog t) (suc j) (h.llog t) (omega arith)) ∙ g.added t j pos le old)
      (λ (new : length (b.llog t) ≤ j). h.added t j (omega (arith, g.lead t pos)) new lt)
      (cases_lt j (length (b.llog t)));
}

pub record Moves (p : ℕ) (a b : Abs) : Type 0 where
  pub grows : Grows a b
  pub term : (q : ℕ) → (q ≡ p → ⊥) → b.term q ≡ a.term q
  pub log : (q : ℕ) → (q ≡ p → ⊥) → b.log q ≡ a.log q
  pub vote : (q t : ℕ) → (q ≡ p → ⊥) → b.vote q t ≡ a.vote q t
  pub lead : (q t : ℕ) → (q ≡ p → ⊥) → b.lead t ≡ q → a.lead t ≡ q

pub moves_refl : (p : ℕ) (a : Abs) → Moves p a a
moves_refl p a = record { grows = grows_refl a; term = λ q _. refl; log = λ q _. refl; vote = λ q t _. refl; lead = λ q t _ e. e }

pub moves_trans : (p : ℕ) (a b c : Abs) → Moves p a b → Moves p b c → Moves p a c
moves_trans p a b c g h = record {
  grows = grows_trans a b c g.grows h.grows;
  term = λ q ne. h.term q ne ∙ g.term q ne;
  log = λ q ne. h.log q ne ∙ g.log q ne;
  vote = λ q t ne. h.vote q t ne ∙ g.vote q t ne;
  lead = λ q t ne e. g.lead q t ne (h.lead q t ne e);
}

pub raise_moves : (a : Abs) (p t : ℕ) → a.term p < t → Moves p a (raise a p t)
raise_moves a p t up = record {
  grows = record {
    term = λ q. at_upd (λ x. a.term q ≤ x) a.term p t q (λ e. omega (arith, ap a.term e)) (λ _. omega arith);
    vote = λ q s _. refl;
    asked = λ s c _. refl;
    lead = λ s _. refl;
    llog = λ s. longer_refl (a.llog s);
    ack = λ q s. omega arith;
    added = λ s j _ le lt. absurd (omega arith);
  };
  term = λ q ne. at_upd (λ x. x ≡ a.term q) a.term p t q (λ e. absurd (ne e)) (λ _. refl);
  log = λ q _. refl;
  vote = λ q s _. refl;
  lead = λ q s _ e. e;
}

pub ask_moves : (a : Abs) (p : ℕ) → a.vote p (a.term p) ≡ 0 → Moves p a (ask a p)
ask_moves a p free = record {
  grows = record {
    term = λ q. omega arith;
    vote = λ q s _. refl;
    asked = λ s c pos. at_upd2 (λ x. x ≡ a.asked s c) a.asked (a.term p) p (a.log p) s c (λ es ec. absurd (omega (arith, subst (λ z. a.vote z s ≡ 0) (sym ec) (subst (λ z. a.vote p z ≡ 0) (sym es) free)))) (λ _. refl);
    lead = λ s _. refl;
    llog = λ s. longer_refl (a.llog s);
    ack = λ q s. omega arith;
    added = λ s j _ le lt. absurd (omega arith);
  };
  term = λ q _. refl;
  log = λ q _. refl;
  vote = λ q s _. refl;
  lead = λ q s _ e. e;
}

pub grant_moves : (a : Abs) (p c : ℕ) → a.vote p (a.term p) ≡ 0 → Moves p a (grant a p c)
grant_moves a p c free = record {
  grows = record {
    term = λ q. omega arith;
    vote = λ q s pos. at_upd2 (λ x. x ≡ a.vote q s) a.vote p (a.term p) c q s (λ eq es. absurd (omega (arith, subst (λ z. a.vote z s ≡ 0) (sym eq) (subst (λ z. a.vote p z ≡ 0) (sym es) free)))) (λ _. refl);
    asked = λ s d _. refl;
    lead = λ s _. refl;
    llog = λ s. longer_refl (a.llog s);
    ack = λ q s. omega arith;
    added = λ s j _ le lt. absurd (omega arith);
  };
  term = λ q _. refl;
  log = λ q _. refl;
  vote = λ q s ne. at_upd2 (λ x. x ≡ a.vote q s) a.vote p (a.term p) c q s (λ eq _. absurd (ne eq)) (λ _. refl);
  lead = λ q s _ e. e;
}

pub elect_moves : (n : ℕ) (a : Abs) (c : ℕ) → Inv n a → Elects n a c → Moves c a (elect a c)
elect_moves n a c h g = record {
  grows = record {
    term = λ q. omega arith;
    vote = λ q s _. refl;
    asked = λ s d _. refl;
    lead = λ s pos. at_upd (λ x. x ≡ a.lead s) a.lead (a.term c) c s (λ es. absurd (omega (arith, ap a.lead es, g.leaderless))) (λ _. refl);
    llog = elect_longer n a c h g;
    ack = λ q s. at_upd2 (λ x. a.ack q s ≤ x) a.ack c (a.term c) (length (a.log c)) q s (λ eq es. omega (arith, h.ack_length q s, ap length (h.unled s (ap a.lead es ∙ g.leaderless)))) (λ _. omega arith);
    added = λ s j pos le. at_upd (λ x. j < length x → tm x j ≡ s) a.llog (a.term c) (a.log c) s (λ es _. absurd (omega (arith, ap a.lead es, g.leaderless))) (λ _ lt. absurd (omega arith));
  };
  term = λ q _. refl;
  log = λ q _. refl;
  vote = λ q s _. refl;
  lead = λ q s ne. at_upd (λ x. x ≡ q → a.lead s ≡ q) a.lead (a.term c) c s (λ _ e. absurd (ne (sym e))) (λ _ e. e);
}

pub extend_moves : (n : ℕ) (a : Abs) (c : ℕ) (e : Entry) → Inv n a → Extends a c e → Moves c a (extend a c e)
extend_moves n a c e h g = record {
  grows = record {
    term = λ q. omega arith;
    vote = λ q s _. refl;
    asked = λ s d _. refl;
    lead = λ s _. refl;
    llog = longer n a c e h g;
    ack = λ q s. at_upd2 (λ x. a.ack q s ≤ x) a.ack c (a.term c) (suc (a.ack c (a.term c))) q s (λ eq es. subst (λ z. a.ack z s ≤ suc (a.ack c (a.term c))) (sym eq) (subst (λ z. a.ack c z ≤ suc (a.ack c (a.term c))) (sym es) (omega arith))) (λ _. omega arith);
    added = λ s j _ le. at_upd (λ x. j < length x → tm x j ≡ s) a.llog (a.term c) (a.llog (a.term c) ++ e ∷ []) s
        (λ es lt. ap (λ z. z.term) (get_or_push (a.llog (a.term c)) e no_entry j (omega (arith, length_push (a.llog (a.term c)) e, ap (λ z. length (a.llog z)) es))) ∙ g.own ∙ sym es)
        (λ _ lt. absurd (omega arith));
  };
  term = λ q _. refl;
  log = λ q ne. at_upd (λ x. x ≡ a.log q) a.log c (a.log c ++ e ∷ []) q (λ eq. absurd (ne eq)) (λ _. refl);
  vote = λ q s _. refl;
  lead = λ q s _ e'. e';
}

pub store_moves : (a : Abs) (p : ℕ) (xs : List Entry) (m : ℕ) → Moves p a (store a p xs m)
store_moves a p xs m = record {
  grows = record {
    term = λ q. omega arith;
    vote = λ q s _. refl;
    asked = λ s d _. refl;
    lead = λ s _. refl;
    llog = λ s. longer_refl (a.llog s);
    ack = λ q s. at_upd2 (λ x. a.ack q s ≤ x) a.ack p (a.term p) (max (a.ack p (a.term p)) m) q s (λ eq es. subst (λ z. a.ack z s ≤ max (a.ack p (a.term p)) m) (sym eq) (subst (λ z. a.ack p z ≤ max (a.ack p (a.term p)) m) (sym es) (omega arith))) (λ _. omega arith);
    added = λ s j _ le lt. absurd (omega arith);
  };
  term = λ q _. refl;
  log = λ q ne. at_upd (λ x. x ≡ a.log q) a.log p xs q (λ eq. absurd (ne eq)) (λ _. refl);
  vote = λ q s _. refl;
  lead = λ q s _ e. e;
}
