-- The counts of clients: one that is given one more, and the others.
use Rattle.std.proofs.Common.{◌≡◌, ◌≢◌, ℕ, zero, suc, ◌+◌, ◌-◌, ◌<◌, ◌≤◌, ◌==◌, Bool, true, false, List, length, replicate, get_or, set, refl, ap, ◌∙◌, arith, eqb-true, length-set}
use Rattle.std.proofs.lemmas.Bool.Decides.{nat_tests}
use Rattle.std.proofs.lemmas.List.{get_or-set_same, get_or-set_other}
use Rattle.rp_base.specs.ClientCounts.{no_counts, count_of, one_more_of}

-- at first no client has any
none_at : (n k : ℕ) → get_or {A = ℕ} (replicate n 0) k 0 ≡ 0
none_at zero k = refl
none_at (suc n) zero = refl
none_at (suc n) (suc k) = none_at n k

pub none_counted : (client : ℕ) → count_of no_counts client ≡ 0
none_counted client = none_at 64 (client - 1)

pub none_counted_at : (k : ℕ) → get_or no_counts k 0 ≡ 0
none_counted_at k = none_at 64 k

-- there are as many counts as before
pub one_more_length : (counts : List ℕ) (client : ℕ) → length (one_more_of counts client) ≡ length counts
one_more_length counts client = length-set counts (client - 1) _

-- a client stands among 64
pub client_within : (counts : List ℕ) (client : ℕ) → length counts ≡ 64 → 1 ≤ client → client ≤ 64 → client - 1 < length counts
client_within counts client all from_one to_limit = omega arith

-- the client has one more
pub one_more_counted : (counts : List ℕ) (client : ℕ) → client - 1 < length counts → count_of (one_more_of counts client) client ≡ count_of counts client + 1
one_more_counted counts client within = get_or-set_same counts (client - 1) _ 0 within

-- another one has as many as before
pub others_counted : (counts : List ℕ) (client other : ℕ) → 1 ≤ client → 1 ≤ other → other ≢ client → count_of (one_more_of counts client) other ≡ count_of counts other
others_counted counts client other from_one first ne = get_or-set_other counts (client - 1) (other - 1) _ 0 (let apart : other - 1 ≢ client - 1 = omega arith in apart)

-- no count falls, and each stays below a bound that rises by one
bounds_by : (xs : List ℕ) (c n j : ℕ) → c < length xs → (b : Bool) → (j == c) ≡ b
    → (get_or xs j 0 ≤ get_or (set xs c (get_or xs c 0 + 1)) j 0) × (((i : ℕ) → get_or xs i 0 ≤ n) → get_or (set xs c (get_or xs c 0 + 1)) j 0 ≤ n + 1)
bounds_by xs c n j within true e =
    let at : get_or (set xs c (get_or xs c 0 + 1)) j 0 ≡ get_or xs c 0 + 1 =
    ap (λ i. get_or (set xs c (get_or xs c 0 + 1)) i 0) (eqb-true j c e) ∙ get_or-set_same xs c _ 0 within in
    let same : get_or xs j 0 ≡ get_or xs c 0 = ap (λ i. get_or xs i 0) (eqb-true j c e) in
    (omega (arith, at, same), λ few. let a = few c in omega (arith, at, a))
bounds_by xs c n j within false e =
    let other : j ≢ c = grind (arith, nat_tests) in
    let at = get_or-set_other xs c j (get_or xs c 0 + 1) 0 other in
    (omega (arith, at), λ few. let a = few j in omega (arith, at, a))

pub counts_grow : (counts : List ℕ) (client j : ℕ) → client - 1 < length counts → get_or counts j 0 ≤ get_or (one_more_of counts client) j 0
counts_grow counts client j within = (bounds_by counts (client - 1) 0 j within (j == client - 1) refl).0

pub counts_bounded : (counts : List ℕ) (client n : ℕ) → client - 1 < length counts → ((i : ℕ) → get_or counts i 0 ≤ n)
    → (j : ℕ) → get_or (one_more_of counts client) j 0 ≤ n + 1
counts_bounded counts client n within few j = (bounds_by counts (client - 1) n j within (j == client - 1) refl).1 few
