-- Numbers: what is read is what digits are worth.
use Rattle.std.proofs.Common.{◌≡◌, ℕ, ◌+◌, ◌-◌, ◌*◌, ◌<◌, ◌≤◌, ◌^◌, ◌⊎◌, inl, inr, true, List, [], ◌∷◌, length, take, get_or, Ok, Err, refl, ap, ◌∙◌, arith}
use Rattle.std.specs.Char.{is_ascii_digit, digit_value}
use Rattle.std.specs.Fmt.{decimal}
use Rattle.std.proofs.lemmas.Bool.{cases_lt}
use Rattle.std.proofs.lemmas.Bool.Decides.{nat_tests}
use Rattle.std.proofs.lemmas.List.Sums.{prefix_len-le-length, prefix_len_passes}
use Rattle.std.proofs.lemmas.Int.Digits.{digits_value_more}
use Rattle.std.specs.Str.Parse.{AllDigits}
use Rattle.std.proofs.lemmas.Str.Parse.{digits_value-take-le, digit_from_value}
use Rattle.std.proofs.lemmas.Fmt.{decimal_is_IsNumeral}
use Rattle.rp_base.specs.declared.numbers.NumberFault.TheVariants.{NotNumber, TooLarge}
use Rattle.rp_base.specs.Numbers.{number_of, digits_len, u64_of}

-- what stops short, or is empty, is no number
pub u64_of_stops : (bs : List ℕ) → (digits_len bs ≡ 0) ⊎ (digits_len bs < length bs) → u64_of bs ≡ Err (NotNumber (digits_len bs))
unfolding u64_of
u64_of_stops bs h = grind (arith, nat_tests)

-- digits are one where their value fits
pub u64_of_fits : (bs : List ℕ) → 0 < digits_len bs → digits_len bs ≡ length bs → number_of bs < 2 ^ 64 → u64_of bs ≡ Ok (number_of bs)
unfolding u64_of
u64_of_fits bs some all fits = grind (arith, nat_tests)

-- and else too large
pub u64_of_large : (bs : List ℕ) → 0 < digits_len bs → digits_len bs ≡ length bs → 2 ^ 64 ≤ number_of bs → u64_of bs ≡ Err TooLarge
unfolding u64_of
u64_of_large bs some all large = grind (arith, nat_tests)

-- each byte of digits is one
pub digit_at : (bs : List ℕ) (i : ℕ) → digits_len bs ≡ length bs → i < length bs → (48 ≤ get_or bs i 0) × (digit_value (get_or bs i 0) ≡ get_or bs i 0 - 48)
digit_at bs i whole here =
    let passes : is_ascii_digit (get_or bs i 0) ≡ true = prefix_len_passes is_ascii_digit bs i 0 (omega arith) in
    grind (arith, nat_tests)

-- one digit more
pub number_of_more : (bs : List ℕ) (i n : ℕ) → digits_len bs ≡ length bs → i < length bs → n ≡ number_of (take i bs) → number_of (take (i + 1) bs) ≡ n * 10 + (get_or bs i 0 - 48)
number_of_more bs i n whole here so_far =
    digits_value_more 10 bs i here ∙ (let digit = (digit_at bs i whole here).1 in cc)

-- what is too large on the way is too large in the end
pub number_of_large : (bs : List ℕ) (i n : ℕ) → digits_len bs ≡ length bs → i < length bs → n ≡ number_of (take i bs) → 2 ^ 64 ≤ n * 10 + (get_or bs i 0 - 48) → ¬ (number_of bs < 2 ^ 64)
number_of_large bs i n whole here so_far large fits =
    let more = number_of_more bs i n whole here so_far in
    let front = digits_value-take-le 10 bs (i + 1) (omega arith) in
    omega arith

-- digits to the end are counted to the end
pub digits_len-digits : (bs : List ℕ) → AllDigits 10 bs → digits_len bs ≡ length bs
digits_len-digits [] h = refl
digits_len-digits (b ∷ bs) h =
    let range = digit_from_value b h.0 in
    let digit : is_ascii_digit b ≡ true = grind (arith, nat_tests) in
    rw digit (omega (arith, digits_len-digits bs h.1))

-- what is written is read
pub read_as_written : (n : ℕ) → n < 2 ^ 64 → u64_of (decimal n) ≡ Ok n
read_as_written n fits =
    let numeral = decimal_is_IsNumeral n fits in
    let whole : digits_len (decimal n) ≡ length (decimal n) = digits_len-digits (decimal n) numeral.0.1 in
    let value : number_of (decimal n) ≡ n = numeral.1 in
    u64_of_fits (decimal n) (omega (arith, numeral.0.0)) whole (omega arith) ∙ ap Ok value

-- a number that is read is the value of digits, and fits
pub record Writes (bs : List ℕ) (n : ℕ) : Type 0 where
  pub some : 0 < length bs
  pub digits : digits_len bs ≡ length bs
  pub value : n ≡ number_of bs
  pub fits : n < 2 ^ 64

pub Writes-from_ok : (bs : List ℕ) (n : ℕ) → u64_of bs ≡ Ok n → Writes bs n
Writes-from_ok bs n h = elim (cases_lt 0 (digits_len bs)) [
  | inl some ↦ elim (cases_lt (digits_len bs) (length bs)) [
    | inl stops ↦ absurd (let e = u64_of_stops bs (inr stops) in cc)
    | inr all ↦
        let whole : digits_len bs ≡ length bs = omega (arith, prefix_len-le-length is_ascii_digit bs) in
        elim (cases_lt (number_of bs) (2 ^ 64)) [
          | inl fits ↦
              let e = u64_of_fits bs some whole fits in
              let value : n ≡ number_of bs = cc in
              record { some = omega arith; digits = whole; value = value; fits = rw value fits }
          | inr large ↦ absurd (let e = u64_of_large bs some whole large in cc)
        ]
  ]
  | inr none ↦ absurd (let zero : digits_len bs ≡ 0 = omega arith in let e = u64_of_stops bs (inl zero) in cc)
]

pub value_as_read : (bs : List ℕ) (n : ℕ) → u64_of bs ≡ Ok n → (n ≡ number_of bs) × (n < 2 ^ 64)
value_as_read bs n h = let w = Writes-from_ok bs n h in (w.value, w.fits)
