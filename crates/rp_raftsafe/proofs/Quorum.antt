-- Majorities of nodes.
use Rattle.std.proofs.Common.{◌≡◌, ℕ, zero, suc, ◌+◌, ◌*◌, ◌<◌, ◌≤◌, Bool, true, false, cond, arith, ⊎_elim}
use Rattle.std.proofs.lemmas.Bool.{cases_Bool, cond-true, cond-false}

-- how many of the nodes 1 to n pass
abbrev pub count : (ℕ → Bool) → ℕ → ℕ
count test zero = 0
count test (suc n) = cond (test (suc n)) (suc (count test n)) (count test n)

-- a majority of the nodes 1 to n has P
pub record Majority (n : ℕ) (P : ℕ → Type 0) : Type 0 where
  pub test : ℕ → Bool
  pub most : n < 2 * count test n
  pub has : (q : ℕ) → 0 < q → q ≤ n → test q ≡ true → P q

pub majority_map : (n : ℕ) (P Q : ℕ → Type 0) → ((q : ℕ) → 0 < q → P q → Q q) → Majority n P → Majority n Q
majority_map n P Q f m = record { test = m.test; most = m.most; has = λ q pos le passes. f q pos (m.has q pos le passes) }

-- a node that two majorities share
pub record Shared (n : ℕ) (P Q : ℕ → Type 0) : Type 0 where
  pub node : ℕ
  pub positive : 0 < node
  pub left : P node
  pub right : Q node

shared : (f g : ℕ → Bool) (n : ℕ) → n < count f n + count g n → (q : ℕ) × (0 < q) × (q ≤ n) × (f q ≡ true) × (g q ≡ true)
shared f g zero lt = absurd (omega arith)
shared f g (suc n) lt =
    let less : n < count f n + count g n → (q : ℕ) × (0 < q) × (q ≤ suc n) × (f q ≡ true) × (g q ≡ true) =
    λ lt'. let r = shared f g n lt' in (r.0, r.1, omega arith, r.3, r.4) in
    ⊎_elim
    (λ (ft : f (suc n) ≡ true).
    ⊎_elim
    (λ (gt : g (suc n) ≡ true). (suc n, omega arith, omega arith, ft, gt))
    (λ (gf : g (suc n) ≡ false). less (omega (arith, cond-true (f (suc n)) (suc (count f n)) (count f n) ft, cond-false (g (suc n)) (suc (count g n)) (count g n) gf)))
    (cases_Bool (g (suc n))))
    (λ (ff : f (suc n) ≡ false).
    ⊎_elim
    (λ (gt : g (suc n) ≡ true). less (omega (arith, cond-false (f (suc n)) (suc (count f n)) (count f n) ff, cond-true (g (suc n)) (suc (count g n)) (count g n) gt)))
    (λ (gf : g (suc n) ≡ false). less (omega (arith, cond-false (f (suc n)) (suc (count f n)) (count f n) ff, cond-false (g (suc n)) (suc (count g n)) (count g n) gf)))
    (cases_Bool (g (suc n))))
    (cases_Bool (f (suc n)))

pub majorities_meet : (n : ℕ) (P Q : ℕ → Type 0) → Majority n P → Majority n Q → Shared n P Q
majorities_meet n P Q l r =
    let s = shared l.test r.test n (omega (arith, l.most, r.most)) in
    record { node = s.0; positive = s.1; left = l.has s.0 s.1 s.2 s.3; right = r.has s.0 s.1 s.2 s.4 }
