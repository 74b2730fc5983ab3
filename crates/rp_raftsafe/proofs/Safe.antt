-- What is committed, and that it is one list.
use Rattle.std.proofs.Common.{◌≡◌, ℕ, suc, ◌<◌, ◌≤◌, max, List, length, take, refl, sym, ap, subst, ◌∙◌, arith, ◌⊎◌, ⊎_elim, inl, inr}
use Rattle.std.proofs.lemmas.Bool.{cases_lt, cases_eq}
use Rattle.rp_raftlog.specs.declared.entries.Entry.{Entry}
use Rattle.rp_raftsafe.proofs.Logs.{same_less, same_length, longer_take, longer_length, same_tm}
use Rattle.rp_raftsafe.proofs.Quorum.{Majority, majority_map}
use Rattle.rp_raftsafe.proofs.Machine.{Abs, Proper, Open, Inv}
use Rattle.rp_raftsafe.proofs.Growth.{Grows}

-- an entry of the leader of t is committed
pub record Committed (n : ℕ) (a : Abs) (t j : ℕ) : Type 0 where
  pub proper : Proper a.llog t j
  pub held : Majority n (λ q. j < a.ack q t)

-- the first k entries of xs are committed, by a leader of a term up to t
pub record CommitOk (n : ℕ) (a : Abs) (t k : ℕ) (xs : List Entry) : Type 0 where
  pub by_term : ℕ
  pub place : ℕ
  pub term_le : by_term ≤ t
  pub committed : Committed n a by_term place
  pub within : k ≤ suc place
  pub front : take k xs ≡ take k (a.llog by_term)

abbrev pub Commits : ℕ → Abs → ℕ → ℕ → List Entry → Type 0
Commits n a t k xs = (k ≡ 0) ⊎ CommitOk n a t k xs

pub commits_less : (n : ℕ) (a : Abs) (t k m : ℕ) (xs : List Entry) → k ≤ m → Commits n a t m xs → Commits n a t k xs
commits_less n a t k m xs le c =
    ⊎_elim
    (λ (e : m ≡ 0). inl (omega arith))
    (λ (ok : CommitOk n a t m xs). inr (record { by_term = ok.by_term; place = ok.place; term_le = ok.term_le; committed = ok.committed; within = omega (arith, ok.within); front = same_less k m xs (a.llog ok.by_term) le ok.front }))
    c

pub commits_more : (n : ℕ) (a : Abs) (t s k : ℕ) (xs ys : List Entry) → t ≤ s → take k xs ≡ take k ys → Commits n a t k xs → Commits n a s k ys
commits_more n a t s k xs ys le same c =
    ⊎_elim
    inl
    (λ (ok : CommitOk n a t k xs). inr (record { by_term = ok.by_term; place = ok.place; term_le = omega (arith, ok.term_le); committed = ok.committed; within = ok.within; front = sym same ∙ ok.front }))
    c

pub commits_max : (n : ℕ) (a : Abs) (t k m : ℕ) (xs : List Entry) → Commits n a t k xs → Commits n a t m xs → Commits n a t (max k m) xs
commits_max n a t k m xs ck cm =
    ⊎_elim
    (λ (lt : k < m). let e : max k m ≡ m = omega arith in subst (λ z. Commits n a t z xs) (sym e) cm)
    (λ (le : m ≤ k). let e : max k m ≡ k = omega arith in subst (λ z. Commits n a t z xs) (sym e) ck)
    (cases_lt k m)

pub commits_within : (n : ℕ) (a : Abs) (t k : ℕ) (xs : List Entry) → Commits n a t k xs → k ≤ length xs
commits_within n a t k xs c =
    ⊎_elim
    (λ (e : k ≡ 0). omega arith)
    (λ (ok : CommitOk n a t k xs). same_length k (a.llog ok.by_term) xs (omega (arith, ok.within, ok.committed.proper.within)) (sym ok.front))
    c

committed_open : (n : ℕ) (a : Abs) (t j : ℕ) → Committed n a t j → Open n a.term a.ack t j
committed_open n a t j c = majority_map n _ _ (λ q _ k. inl k) c.held

-- a committed place is the same in each later leader's log
committed_in : (n : ℕ) (a : Abs) → Inv n a → (t s j : ℕ) → Committed n a t j → 0 < a.lead s → t ≤ s → take (suc j) (a.llog t) ≡ take (suc j) (a.llog s)
committed_in n a h t s j c led le =
    ⊎_elim
    (λ (lt : t < s). h.complete s t j led lt c.proper (committed_open n a t j c))
    (λ (ge : s ≤ t). let e : t ≡ s = omega arith in ap (λ z. take (suc j) (a.llog z)) e)
    (cases_lt t s)

pub some_leader : (n : ℕ) (a : Abs) → Inv n a → (t : ℕ) → 0 < length (a.llog t) → 0 < a.lead t
some_leader n a h t some =
    ⊎_elim
    (λ (none : a.lead t ≡ 0). absurd (omega (arith, ap length (h.unled t none))))
    (λ ne. omega (arith, ne))
    (cases_eq (a.lead t) 0)

-- what is committed by then is a front of a leader's log
pub committed_front : (n : ℕ) (a : Abs) → Inv n a → (t s k : ℕ) (xs : List Entry) → t ≤ s → 0 < a.lead s → Commits n a t k xs → take k xs ≡ take k (a.llog s)
committed_front n a h t s k xs le led c =
    ⊎_elim
    (λ (e : k ≡ 0). subst (λ z. take z xs ≡ take z (a.llog s)) (sym e) refl)
    (λ (ok : CommitOk n a t k xs).
    ok.front ∙ same_less k (suc ok.place) (a.llog ok.by_term) (a.llog s) ok.within (committed_in n a h ok.by_term s ok.place ok.committed led (omega (arith, ok.term_le))))
    c

commit_ok_agree : (n : ℕ) (a : Abs) → Inv n a → (t s k : ℕ) (xs ys : List Entry) → (c : CommitOk n a t k xs) → (d : CommitOk n a s k ys) → c.by_term ≤ d.by_term → take k xs ≡ take k ys
commit_ok_agree n a h t s k xs ys c d le =
    let led : 0 < a.lead d.by_term = some_leader n a h d.by_term (omega (arith, d.committed.proper.within)) in
    let same = committed_in n a h c.by_term d.by_term c.place c.committed led le in
    c.front ∙ same_less k (suc c.place) (a.llog c.by_term) (a.llog d.by_term) c.within same ∙ sym d.front

-- two logs of which so many entries are committed agree on them
pub commits_agree : (n : ℕ) (a : Abs) → Inv n a → (t s k : ℕ) (xs ys : List Entry) → Commits n a t k xs → Commits n a s k ys → take k xs ≡ take k ys
commits_agree n a h t s k xs ys cx cy =
    ⊎_elim
    (λ (e : k ≡ 0). subst (λ z. take z xs ≡ take z ys) (sym e) refl)
    (λ (c : CommitOk n a t k xs).
    ⊎_elim
    (λ (e : k ≡ 0). subst (λ z. take z xs ≡ take z ys) (sym e) refl)
    (λ (d : CommitOk n a s k ys).
    ⊎_elim
    (λ (lt : c.by_term < d.by_term). commit_ok_agree n a h t s k xs ys c d (omega arith))
    (λ (ge : d.by_term ≤ c.by_term). sym (commit_ok_agree n a h s t k ys xs d c ge))
    (cases_lt c.by_term d.by_term))
    cy)
    cx

pub commits_grow : (n : ℕ) (a b : Abs) → Grows a b → (t k : ℕ) (xs : List Entry) → Commits n a t k xs → Commits n b t k xs
commits_grow n a b g t k xs c =
    ⊎_elim
    inl
    (λ (ok : CommitOk n a t k xs).
    let u : ℕ = ok.by_term in
    let more : take (length (a.llog ok.by_term)) (b.llog ok.by_term) ≡ a.llog ok.by_term = g.llog ok.by_term in
    let was : suc ok.place ≤ length (a.llog ok.by_term) = ok.committed.proper.within in
    let longer : length (a.llog ok.by_term) ≤ length (b.llog ok.by_term) = longer_length (a.llog ok.by_term) (b.llog ok.by_term) more in
    let same : take (suc ok.place) (b.llog ok.by_term) ≡ take (suc ok.place) (a.llog ok.by_term) = longer_take (a.llog ok.by_term) (b.llog ok.by_term) (suc ok.place) more was in
    inr
    (record {
      by_term = ok.by_term;
      place = ok.place;
      term_le = ok.term_le;
      committed = record {
        proper = record { within = omega arith; own = same_tm ok.place (suc ok.place) (b.llog ok.by_term) (a.llog ok.by_term) (omega arith) same ∙ ok.committed.proper.own };
        held = majority_map n _ _ (λ q _ k'. omega (arith, g.ack q ok.by_term)) ok.committed.held;
      };
      within = ok.within;
      front = ok.front ∙ sym (longer_take (a.llog ok.by_term) (b.llog ok.by_term) k more (omega (arith, ok.within)));
    }))
    c
