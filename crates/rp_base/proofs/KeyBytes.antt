-- Bytes in places: the numbers that they write, and the bytes that those have.
use Rattle.std.proofs.Common.{◌≡◌, ℕ, zero, suc, ◌+◌, ◌-◌, ◌*◌, ◌/◌, ◌%◌, ◌^◌, ◌<◌, ◌≤◌, Bool, true, false, not, cond, eqb, List, [], ◌∷◌, ◌++◌, length, replicate, get_or, refl, ap, sym, ◌∙◌, arith, add_assoc, lit<, add-zero, inl, inr, ◌⊎◌}
use Rattle.std.specs.Int.{byte_at, byte_worth, bytes_high_first, sum_through}
use Rattle.std.specs.List.{prefix_len, position_or_len, before_first}
use Rattle.std.specs.declared.cmp.Ordering.TheVariants.{Less, Equal, Greater}
use Rattle.std.specs.Ordering.{nat_cmp, ordering_then}
use Rattle.std.specs.Cmp.Lexicographic.{slice_cmp}
use Rattle.std.proofs.lemmas.Bool.Decides.{nat_tests}
use Rattle.std.proofs.lemmas.Nat.{div-mul-add, pow-add}
use Rattle.std.proofs.Math.Nat.{div-one, mul-add-div_right, mul-add-mod_self_right, mod-eq_of_lt, sub-zero, pow-suc, pow-succ', mul-lt-mul_of_pos_left}
use Rattle.std.proofs.Math.Arith.{digits_lt}
use Rattle.std.specs.Cmp.{nat_cmp_is}
use Rattle.std.proofs.lemmas.List.Sums.{take_while-cons}
use Rattle.std.proofs.lemmas.Bool.{cases_lt}

-- what bytes are worth in k places, the first highest
abbrev pub worth : ℕ → List ℕ → ℕ
worth zero bs = 0
worth (suc k) [] = 0
worth (suc k) (b ∷ bs) = b * 256 ^ k + worth k bs

-- bytes, none of them zero
abbrev pub AreLetters : List ℕ → Type 0
AreLetters [] = Unit {0}
AreLetters (b ∷ bs) = (0 < b) × (b < 256) × AreLetters bs

pub byte_worth_is : (i b : ℕ) → byte_worth i b ≡ b * 256 ^ i
byte_worth_is zero b = omega arith
byte_worth_is (suc i) b = refl

pub byte_at_is : (i n : ℕ) → byte_at i n ≡ n / 256 ^ i % 256
byte_at_is zero n = ap (λ m. m % 256) (sym (div-one n))
byte_at_is (suc i) n = refl

pub sum_through-first : (f : ℕ → ℕ) (k : ℕ) → sum_through f (suc k) ≡ f 0 + sum_through (λ i. f (suc i)) k
sum_through-first f zero = refl
sum_through-first f (suc k) = ap (λ n. n + f (suc (suc k))) (sum_through-first f k) ∙ add_assoc (f 0) (sum_through (λ i. f (suc i)) k) (f (suc (suc k)))

pub sum_through-same : (f g : ℕ → ℕ) → ((i : ℕ) → f i ≡ g i) → (k : ℕ) → sum_through f k ≡ sum_through g k
sum_through-same f g same zero = same 0
sum_through-same f g same (suc k) = cc (sum_through-same f g same k, same (suc k))

-- the bytes of a whole number of k + 1 bytes
pub sum_worth : (k : ℕ) (bs : List ℕ) → length bs ≡ suc k → sum_through (λ i. byte_worth (k - i) (get_or bs i 0)) k ≡ worth (suc k) bs
sum_worth k [] h = absurd (omega arith)
sum_worth zero (b ∷ bs) h = omega arith
sum_worth (suc k) (b ∷ bs) h =
    sum_through-first (λ i. byte_worth (suc k - i) (get_or (b ∷ bs) i 0)) k
    ∙ (let front : byte_worth (suc k - 0) b ≡ b * 256 ^ suc k = rw sub-zero in
    let back : sum_through (λ i. byte_worth (suc k - suc i) (get_or bs i 0)) k ≡ worth (suc k) bs =
    sum_through-same (λ i. byte_worth (suc k - suc i) (get_or bs i 0)) (λ i. byte_worth (k - i) (get_or bs i 0))
    (λ i. let e : suc k - suc i ≡ k - i = omega arith in rw e) k
    ∙ sum_worth k bs (omega arith) in
    cc)

pub worth-zeros : (k m : ℕ) → worth k (replicate m 0) ≡ 0
worth-zeros zero m = refl
worth-zeros (suc k) zero = refl
worth-zeros (suc k) (suc m) = omega (arith, worth-zeros k m)

-- zero bytes behind are worth nothing
pub worth-padded : (k m : ℕ) (bs : List ℕ) → worth k (bs ++ replicate m 0) ≡ worth k bs
worth-padded zero m bs = refl
worth-padded (suc k) m [] = worth-zeros (suc k) m
worth-padded (suc k) m (b ∷ bs) = ap (λ n. b * 256 ^ k + n) (worth-padded k m bs)

pub pow-pos : (k : ℕ) → 0 < 256 ^ k
pow-pos zero = lit< tt
pow-pos (suc k) = rw pow-suc (omega (arith, pow-pos k))

pub worth-lt : (k : ℕ) (bs : List ℕ) → AreLetters bs → worth k bs < 256 ^ k
worth-lt zero bs h = lit< tt
worth-lt (suc k) [] h = pow-pos (suc k)
worth-lt (suc k) (b ∷ bs) h = rw pow-succ' (digits_lt h.1 (worth-lt k bs h.2))

-- lower bytes do not see what stands above
pub byte_at-low : (j m c r : ℕ) → byte_at j (c * 256 ^ (suc j + m) + r) ≡ byte_at j r
byte_at-low j m c r =
    let split : c * 256 ^ (suc j + m) ≡ c * 256 ^ m * 256 * 256 ^ j =
    ap (λ n. c * n) (pow-add 256 (suc j) m) ∙ (rw pow-suc (grind arith)) in
    byte_at_is j (c * 256 ^ (suc j + m) + r)
    ∙ (rw split (rw (mul-add-div_right (pow-pos j) (c * 256 ^ m * 256) r) (mul-add-mod_self_right (c * 256 ^ m) 256 (r / 256 ^ j))))
    ∙ sym (byte_at_is j r)

pub bytes_high_first-low : (j m c r : ℕ) → bytes_high_first j (c * 256 ^ (j + m) + r) ≡ bytes_high_first j r
bytes_high_first-low zero m c r = refl
bytes_high_first-low (suc j) m c r =
    let e : suc j + m ≡ j + suc m = omega arith in
    let low : bytes_high_first j (c * 256 ^ (suc j + m) + r) ≡ bytes_high_first j r = rw e (bytes_high_first-low j (suc m) c r) in
    cc (byte_at-low j m c r, low)

-- the highest byte
pub byte_at-high : (k b r : ℕ) → b < 256 → r < 256 ^ k → byte_at k (b * 256 ^ k + r) ≡ b
byte_at-high k b r low rest = byte_at_is k (b * 256 ^ k + r) ∙ ap (λ n. n % 256) (div-mul-add b (256 ^ k) r rest) ∙ mod-eq_of_lt low

pub byte_at-zero : (k : ℕ) → byte_at k 0 ≡ 0
byte_at-zero k = let e : 0 * 256 ^ k + 0 ≡ 0 = omega arith in rw e at (byte_at-high k 0 0 (lit< tt) (pow-pos k))

-- a front goes on over a byte that is not zero
pub before_zero-cons : (b : ℕ) (bs : List ℕ) → 0 < b → before_first (λ b. eqb b 0) (b ∷ bs) ≡ b ∷ before_first (λ b. eqb b 0) bs
before_zero-cons b bs some =
    let other : eqb b 0 ≡ false = grind (arith, nat_tests) in
    take_while-cons (λ b. not (eqb b 0)) b bs ∙ (rw other)

-- the letters before the first zero byte are those that were written
pub letters_of-worth : (k : ℕ) (bs : List ℕ) → AreLetters bs → length bs ≤ k → before_first (λ b. eqb b 0) (bytes_high_first k (worth k bs)) ≡ bs
letters_of-worth zero [] h short = refl
letters_of-worth zero (b ∷ bs) h short = absurd (omega arith)
letters_of-worth (suc k) [] h short = rw byte_at-zero
letters_of-worth (suc k) (b ∷ bs) h short =
    let rest : worth k bs < 256 ^ k = worth-lt k bs h.2 in
    let low : bytes_high_first k (b * 256 ^ k + worth k bs) ≡ bytes_high_first k (worth k bs) =
    rw add-zero at (bytes_high_first-low k 0 b (worth k bs)) in
    let fits : length bs ≤ k = omega arith in
    rw (byte_at-high k b (worth k bs) h.1 rest, low) (before_zero-cons b (bytes_high_first k (worth k bs)) h.0 ∙ ap (λ cs. b ∷ cs) (letters_of-worth k bs h.2 fits))

pub three_ways : (x y : ℕ) → (x < y) ⊎ ((x ≡ y) ⊎ (y < x))
three_ways x y = elim (cases_lt x y) [
  | inl below ↦ inl below
  | inr above ↦ elim (cases_lt y x) [ inl over ↦ inr (inr over) | inr under ↦ inr (inl (omega arith)) ]
]

pub digits_rise : (w x y r s : ℕ) → r < w → x < y → x * w + r < y * w + s
digits_rise w x y r s hr below = omega (arith, digits_lt below hr)

-- the same amount more on both sides changes no order
pub nat_cmp-shifted : (n r s : ℕ) → nat_cmp (n + r) (n + s) ≡ nat_cmp r s
nat_cmp-shifted n r s = elim (three_ways r s) [
  | inl below ↦ sym (nat_cmp_is (n + r) (n + s) Less (omega arith)) ∙ nat_cmp_is r s Less below
  | inr (inl same) ↦ sym (nat_cmp_is (n + r) (n + s) Equal (omega arith)) ∙ nat_cmp_is r s Equal same
  | inr (inr above) ↦ sym (nat_cmp_is (n + r) (n + s) Greater (omega arith)) ∙ nat_cmp_is r s Greater above
]

-- two digits each: the higher ones decide, then the lower ones
pub nat_cmp-digits : (w x y r s : ℕ) → r < w → s < w → nat_cmp (x * w + r) (y * w + s) ≡ ordering_then (nat_cmp x y) (nat_cmp r s)
nat_cmp-digits w x y r s hr hs = elim (three_ways x y) [
  | inl below ↦ sym (nat_cmp_is (x * w + r) (y * w + s) Less (digits_rise w x y r s hr below))
      ∙ ap (λ o. ordering_then o (nat_cmp r s)) (nat_cmp_is x y Less below)
  | inr (inl same) ↦ ap (λ n. nat_cmp (x * w + r) (n * w + s)) (sym same) ∙ nat_cmp-shifted (x * w) r s
      ∙ ap (λ o. ordering_then o (nat_cmp r s)) (nat_cmp_is x y Equal same)
  | inr (inr above) ↦ sym (nat_cmp_is (x * w + r) (y * w + s) Greater (digits_rise w y x s r hs above))
      ∙ ap (λ o. ordering_then o (nat_cmp r s)) (nat_cmp_is x y Greater above)
]

-- numbers are in the order of their bytes
pub worth-order : (k : ℕ) (xs ys : List ℕ) → AreLetters xs → AreLetters ys → length xs ≤ k → length ys ≤ k → nat_cmp (worth k xs) (worth k ys) ≡ slice_cmp nat_cmp xs ys
worth-order zero [] [] hx hy sx sy = refl
worth-order zero [] (y ∷ ys) hx hy sx sy = absurd (omega arith)
worth-order zero (x ∷ xs) ys hx hy sx sy = absurd (omega arith)
worth-order (suc k) [] [] hx hy sx sy = refl
worth-order (suc k) [] (y ∷ ys) hx hy sx sy = sym (nat_cmp_is 0 (y * 256 ^ k + worth k ys) Less (omega (arith, mul-lt-mul_of_pos_left {m = 0} hy.0 (pow-pos k))))
worth-order (suc k) (x ∷ xs) [] hx hy sx sy = sym (nat_cmp_is (x * 256 ^ k + worth k xs) 0 Greater (omega (arith, mul-lt-mul_of_pos_left {m = 0} hx.0 (pow-pos k))))
worth-order (suc k) (x ∷ xs) (y ∷ ys) hx hy sx sy =
    nat_cmp-digits (256 ^ k) x y (worth k xs) (worth k ys) (worth-lt k xs hx.2) (worth-lt k ys hy.2)
    ∙ ap (ordering_then (nat_cmp x y)) (worth-order k xs ys hx.2 hy.2 (omega arith) (omega arith))

-- a text that passes whole begins with a byte that passes, and the rest passes
pub passes_whole : (p : ℕ → Bool) (b : ℕ) (bs : List ℕ) (t : Bool) → p b ≡ t → cond t (1 + prefix_len p bs) 0 ≡ suc (length bs) → (p b ≡ true) × (prefix_len p bs ≡ length bs)
passes_whole p b bs true e h = (e, omega arith)
passes_whole p b bs false e h = absurd (omega arith)

pub AreLetters-whole : (p : ℕ → Bool) → ((b : ℕ) → p b ≡ true → (0 < b) × (b < 256)) → (bs : List ℕ) → prefix_len p bs ≡ length bs → AreLetters bs
AreLetters-whole p letter [] h = tt
AreLetters-whole p letter (b ∷ bs) h =
    let parts : (p b ≡ true) × (prefix_len p bs ≡ length bs) = passes_whole p b bs (p b) refl h in
    let here : (0 < b) × (b < 256) = letter b parts.0 in
    (here.0, here.1, AreLetters-whole p letter bs parts.1)

-- zero has zero bytes
pub bytes_high_first-zero : (k : ℕ) → bytes_high_first k 0 ≡ replicate k 0
bytes_high_first-zero zero = refl
bytes_high_first-zero (suc k) = rw (byte_at-zero, bytes_high_first-zero k)

-- the bytes of the letters' number are the letters in front of zero bytes
pub bytes_high_first-worth : (k : ℕ) (bs : List ℕ) → AreLetters bs → length bs ≤ k → bytes_high_first k (worth k bs) ≡ bs ++ replicate (k - length bs) 0
bytes_high_first-worth zero [] h short = refl
bytes_high_first-worth zero (b ∷ bs) h short = absurd (omega arith)
bytes_high_first-worth (suc k) [] h short = rw sub-zero (bytes_high_first-zero (suc k))
bytes_high_first-worth (suc k) (b ∷ bs) h short =
    let rest : worth k bs < 256 ^ k = worth-lt k bs h.2 in
    let low : bytes_high_first k (b * 256 ^ k + worth k bs) ≡ bytes_high_first k (worth k bs) =
    rw add-zero at (bytes_high_first-low k 0 b (worth k bs)) in
    let fits : length bs ≤ k = omega arith in
    let room : suc k - suc (length bs) ≡ k - length bs = omega arith in
    rw (byte_at-high k b (worth k bs) h.1 rest, low, room) (ap (λ cs. b ∷ cs) (bytes_high_first-worth k bs h.2 fits))

-- the letters are counted up to the zero bytes behind
pub letters_len : (m : ℕ) (bs : List ℕ) → AreLetters bs → position_or_len (λ b. eqb b 0) (bs ++ replicate m 0) ≡ length bs
letters_len zero [] h = refl
letters_len (suc m) [] h = refl
letters_len m (b ∷ bs) h =
    let other : eqb b 0 ≡ false = let some : 0 < b = h.0 in grind (arith, nat_tests) in
    rw other (omega (arith, letters_len m bs h.2))
