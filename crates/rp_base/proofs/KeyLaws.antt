-- Keys: what is read is what is spelled.
use Rattle.std.proofs.Common.{◌≡◌, ℕ, ◌-◌, ◌^◌, ◌<◌, ◌≤◌, ◌≢◌, ◌⊎◌, inl, inr, true, false, eqb, List, [], ◌∷◌, refl, ◌++◌, length, replicate, take, get_or, lit<, Ok, Err, Result, sym, ap, ◌∙◌, arith, length-append}
use Rattle.std.specs.Bool.{◌==◌}
use Rattle.std.specs.Int.{w128, from_be_bytes, to_be_bytes}
use Rattle.std.specs.Str.{IsAscii, IsUtf8}
use Rattle.std.proofs.lemmas.Str.{IsUtf8-from_ascii}
use Rattle.std.specs.List.{prefix_len, position_or_len}
use Rattle.std.specs.Ordering.{nat_cmp}
use Rattle.std.specs.Cmp.Lexicographic.{slice_cmp}
use Rattle.std.proofs.lemmas.Bool.Decides.{nat_tests}
use Rattle.std.proofs.lemmas.Bool.{cases_lt}
use Rattle.std.proofs.lemmas.List.{length-replicate, get_or_past}
use Rattle.std.proofs.lemmas.List.Sums.{prefix_len-le-length, prefix_len_passes, prefix_len_stops}
use Rattle.rp_base.specs.declared.keys.BadKey.{BadKey}
use Rattle.rp_base.specs.Keys.{is_key_byte, key_len, key_number, key_of, key_text, IsKey, IsBadPlace, IsShown, bound_text}
use Rattle.rp_base.proofs.KeyBytes.{AreLetters, worth, sum_worth, worth-padded, letters_of-worth, worth-order, AreLetters-whole, passes_whole, worth-lt, bytes_high_first-worth, letters_len}

-- what stops short, or is empty, is no key
pub key_of_err : (bs : List ℕ) → (key_len bs ≡ 0) ⊎ (key_len bs < length bs) → key_of bs ≡ Err (record { place = key_len bs })
unfolding key_of
key_of_err bs h = grind (arith, nat_tests)

-- all else is one
pub key_of_ok : (bs : List ℕ) → 0 < key_len bs → key_len bs ≡ length bs → key_of bs ≡ Ok (key_number bs)
unfolding key_of
key_of_ok bs some all = grind (arith, nat_tests)

-- the same, as the code finds it
pub key_of_bytes : (bs : List ℕ) (good n : ℕ) → good ≡ key_len bs → good ≢ 0 → length bs ≤ good → n ≡ from_be_bytes w128 (bs ++ replicate (16 - length bs) 0) → key_of bs ≡ Ok n
unfolding key_number
key_of_bytes bs good n e some all number =
    let front : prefix_len is_key_byte bs ≤ length bs = prefix_len-le-length is_key_byte bs in
    let whole : key_len bs ≡ length bs = omega arith in
    key_of_ok bs (omega arith) whole ∙ ap Ok (sym number)

-- the count stops short, or goes to the end
pub key_or_not : (bs : List ℕ) → ((key_len bs ≡ 0) ⊎ (key_len bs < length bs)) ⊎ ((0 < key_len bs) × (key_len bs ≡ length bs))
key_or_not bs = elim (cases_lt 0 (key_len bs)) [
  | inl some ↦ elim (cases_lt (key_len bs) (length bs)) [
    | inl stops ↦ inl (inr stops)
    | inr all ↦ let front : prefix_len is_key_byte bs ≤ length bs = prefix_len-le-length is_key_byte bs in inr (some, omega arith)
  ]
  | inr none ↦ inl (inl (omega arith))
]

-- the text spells a key with this number
pub record Spells (bs : List ℕ) (n : ℕ) : Type 0 where
  pub good : prefix_len is_key_byte bs ≡ length bs
  pub some : 0 < length bs
  pub short : length bs ≤ 16
  pub number : n ≡ key_number bs

pub Spells-from_ok : (bs : List ℕ) (n : ℕ) → key_of bs ≡ Ok n → Spells bs n
Spells-from_ok bs n h = elim (key_or_not bs) [
  | inl stops ↦ absurd (let refused = key_of_err bs stops in cc)
  | inr whole ↦
      let taken = key_of_ok bs whole.0 whole.1 in
      let number : n ≡ key_number bs = cc in
      record { good = omega (arith, prefix_len-le-length is_key_byte bs, whole.1); some = omega (arith, whole.0, whole.1); short = omega (arith, whole.1); number = number }
]

pub key_byte_plain : (b : ℕ) → is_key_byte b ≡ true → b < 128
key_byte_plain b h = grind (arith, nat_tests)

pub key_byte_fits : (b : ℕ) → is_key_byte b ≡ true → (0 < b) × (b < 256)
key_byte_fits b h = grind (arith, nat_tests)

pub letters_of_key : (bs : List ℕ) (n : ℕ) → Spells bs n → AreLetters bs
letters_of_key bs n s = AreLetters-whole is_key_byte key_byte_fits bs s.good

pub key_number-worth : (bs : List ℕ) → length bs ≤ 16 → key_number bs ≡ worth 16 bs
unfolding key_number
key_number-worth bs short =
    let whole : length (bs ++ replicate (16 - length bs) 0) ≡ 16 = omega (arith, length-append bs (replicate (16 - length bs) 0), length-replicate {A = ℕ} (16 - length bs) 0) in
    sum_worth 15 (bs ++ replicate (16 - length bs) 0) whole ∙ worth-padded 16 (16 - length bs) bs

pub worth_inside : (bs : List ℕ) → 0 < length bs → prefix_len is_key_byte bs ≡ length bs → AreLetters bs → (0 < worth 16 bs) × (worth 16 bs < 2 ^ 128 - 1)
worth_inside [] some good letters = absurd (omega arith)
worth_inside (b ∷ bs) some good letters =
    let low : b < 128 = key_byte_plain b (passes_whole is_key_byte b bs (is_key_byte b) refl good).0 in
    let rest : worth 15 bs < 256 ^ 15 = worth-lt 15 bs letters.2 in
    let first : 0 < b = letters.0 in
    (omega arith, omega arith)

-- what is read is so spelled
pub spelled_as_read : (bs : List ℕ) (n : ℕ) → key_of bs ≡ Ok n → key_text n ≡ bs
unfolding key_text
spelled_as_read bs n h =
    let s = Spells-from_ok bs n h in
    let e : n ≡ worth 16 bs = s.number ∙ key_number-worth bs s.short in
    rw e (letters_of-worth 16 bs (letters_of_key bs n s) s.short)

-- each spelling is read
pub read_as_spelled : (n : ℕ) → IsKey n → key_of (key_text n) ≡ Ok n
read_as_spelled n (bs, h) = ap key_of (spelled_as_read bs n h) ∙ h

-- the order of keys' numbers is that of their bytes
pub order_of_bytes : (m n : ℕ) → IsKey m → IsKey n → nat_cmp m n ≡ slice_cmp nat_cmp (key_text m) (key_text n)
order_of_bytes m n (xs, hm) (ys, hn) =
    let s = Spells-from_ok xs m hm in
    let t = Spells-from_ok ys n hn in
    let em : m ≡ worth 16 xs = s.number ∙ key_number-worth xs s.short in
    let en : n ≡ worth 16 ys = t.number ∙ key_number-worth ys t.short in
    rw (spelled_as_read xs m hm, spelled_as_read ys n hn) (rw (em, en) (worth-order 16 xs ys (letters_of_key xs m s) (letters_of_key ys n t) s.short t.short))

-- a spelling is plain text
pub IsAscii-key : (bs : List ℕ) (n : ℕ) → Spells bs n → IsAscii bs
IsAscii-key bs n s i = elim (cases_lt i (length bs)) [
  | inl here ↦ (key_byte_plain (get_or bs i 0) (prefix_len_passes is_key_byte bs i 0 (omega (arith, s.good))))
  | inr past ↦ rw (get_or_past bs i 0 past) (lit< tt)
]

pub IsUtf8-key_text : (n : ℕ) → IsKey n → IsUtf8 (key_text n)
IsUtf8-key_text n (bs, h) = rw (spelled_as_read bs n h) (IsUtf8-from_ascii bs (IsAscii-key bs n (Spells-from_ok bs n h)))

-- the same, as the code finds it
pub IsUtf8-spelled : (n end : ℕ) (bytes : List ℕ) → IsKey n → bytes ≡ to_be_bytes w128 n → end ≡ position_or_len (λ b. b == 0) bytes → (take end bytes ≡ key_text n) × IsUtf8 (take end bytes)
unfolding key_text
IsUtf8-spelled n end bytes key is stops =
    let e : take end bytes ≡ key_text n = rw (stops, is) in
    (e, rw e (IsUtf8-key_text n key))

-- two keys with one number are one key
pub one_spelling : (xs ys : List ℕ) (n : ℕ) → key_of xs ≡ Ok n → key_of ys ≡ Ok n → xs ≡ ys
one_spelling xs ys n hx hy = sym (spelled_as_read xs n hx) ∙ spelled_as_read ys n hy

-- a key's number is neither the least bound nor the greatest
pub key_inside : (n : ℕ) → IsKey n → (0 < n) × (n < 2 ^ 128 - 1)
key_inside n (bs, h) =
    let s = Spells-from_ok bs n h in
    let e : n ≡ worth 16 bs = s.number ∙ key_number-worth bs s.short in
    rw e (worth_inside bs s.some s.good (letters_of_key bs n s))

-- how long a spelling is
pub key_text_len : (n : ℕ) → IsKey n → (1 ≤ length (key_text n)) × (length (key_text n) ≤ 16)
key_text_len n (bs, h) = let s = Spells-from_ok bs n h in rw (spelled_as_read bs n h) (s.some, s.short)

-- the number's bytes are the spelling in front of zero bytes
pub to_be_bytes-key : (n : ℕ) → IsKey n → to_be_bytes w128 n ≡ key_text n ++ replicate (16 - length (key_text n)) 0
to_be_bytes-key n (bs, h) =
    let s = Spells-from_ok bs n h in
    let e : n ≡ worth 16 bs = s.number ∙ key_number-worth bs s.short in
    rw (spelled_as_read bs n h) (rw e (bytes_high_first-worth 16 bs (letters_of_key bs n s) s.short))

-- before the zero bytes stand as many bytes as are spelled
pub spelling_len : (n m : ℕ) (bytes : List ℕ) → IsKey n → bytes ≡ key_text n ++ replicate m 0 → position_or_len (λ b. b == 0) bytes ≡ length (key_text n)
spelling_len n m bytes (bs, h) is =
    let spelled : key_text n ≡ bs = spelled_as_read bs n h in
    rw is (rw spelled (letters_len m bs (letters_of_key bs n (Spells-from_ok bs n h))))

-- each byte of a spelling is a key's
pub key_text_good : (n : ℕ) → IsKey n → prefix_len is_key_byte (key_text n) ≡ length (key_text n)
key_text_good n (bs, h) = let s = Spells-from_ok bs n h in rw (spelled_as_read bs n h) s.good

-- before the counted bytes no place is bad
pub no_bad_before : (bs : List ℕ) (k : ℕ) → k < key_len bs → ¬ (IsBadPlace bs k)
no_bad_before bs k before bad =
    let front : prefix_len is_key_byte bs ≤ length bs = prefix_len-le-length is_key_byte bs in
    elim bad [
      | inl empty ↦ omega (arith, empty.0)
      | inr (here, inl other) ↦ let good = prefix_len_passes is_key_byte bs k 0 (omega arith) in cc
      | inr (here, inr past) ↦ omega (arith, past)
    ]

-- where the count stops short, or there is nothing to count, the place is bad
pub bad_where_stops : (bs : List ℕ) → (key_len bs ≡ 0) ⊎ (key_len bs < length bs) → IsBadPlace bs (key_len bs)
bad_where_stops bs (inl none) = elim (cases_lt 0 (length bs)) [
  | inl some ↦
      let stops : prefix_len is_key_byte bs < length bs = omega arith in
      let same : prefix_len is_key_byte bs ≡ key_len bs = omega arith in
      inr (omega arith, inl (rw same at (prefix_len_stops is_key_byte bs 0 stops)))
  | inr empty ↦ inl (omega arith, none)
]
bad_where_stops bs (inr stops) = elim (cases_lt (prefix_len is_key_byte bs) 16) [
  | inl low ↦
      let same : prefix_len is_key_byte bs ≡ key_len bs = omega arith in
      inr (stops, inl (rw same at (prefix_len_stops is_key_byte bs 0 (omega arith))))
  | inr high ↦ inr (stops, inr (omega arith))
]

-- a text that is refused has a bad place, and the least is named
pub least_bad_place : (bs : List ℕ) (e : BadKey) → key_of bs ≡ Err e → IsBadPlace bs e.place × ((k : ℕ) → k < e.place → ¬ (IsBadPlace bs k))
least_bad_place bs e h = elim (key_or_not bs) [
  | inl stops ↦
      let made : record { place = key_len bs } ≡ e = let refused = key_of_err bs stops in cc in
      rw (← made) (bad_where_stops bs stops, no_bad_before bs)
  | inr whole ↦ absurd (let taken = key_of_ok bs whole.0 whole.1 in cc)
]

-- a key has no bad place
pub no_bad_place : (bs : List ℕ) (n : ℕ) → key_of bs ≡ Ok n → (k : ℕ) → ¬ (IsBadPlace bs k)
no_bad_place bs n h k bad =
    let s = Spells-from_ok bs n h in
    let all : key_len bs ≡ length bs = omega (arith, s.good, s.short) in
    elim bad [
      | inl empty ↦ omega (arith, empty.0, s.some)
      | inr (here, why) ↦ no_bad_before bs k (omega arith) (inr (here, why))
    ]

-- how each kind of bound is shown
pub bound_text_least : bound_text 0 ≡ 94 ∷ []
bound_text_least = refl

pub bound_text_greatest : bound_text (2 ^ 128 - 1) ≡ 126 ∷ []
bound_text_greatest = refl

pub bound_text_key : (n : ℕ) → IsKey n → bound_text n ≡ key_text n
bound_text_key n key =
    let inside : (0 < n) × (n < 2 ^ 128 - 1) = key_inside n key in
    let low : eqb n 0 ≡ false = grind (arith, nat_tests) in
    let high : eqb n (2 ^ 128 - 1) ≡ false = grind (arith, nat_tests) in
    rw (low, high)

-- no key is spelled by one byte from outside the alphabet
pub no_sign : (b n : ℕ) → is_key_byte b ≡ false → IsKey n → ¬ (key_text n ≡ b ∷ [])
no_sign b n other key e =
    let good : prefix_len is_key_byte (b ∷ []) ≡ 1 = rw e at (key_text_good n key) in
    let none : prefix_len is_key_byte (b ∷ []) ≡ 0 = rw other in
    omega arith

pub no_sign_either : (b m n : ℕ) → is_key_byte b ≡ false → IsKey m → bound_text m ≡ bound_text n → ¬ (bound_text n ≡ b ∷ [])
no_sign_either b m n other key same e = no_sign b m other key (sym (bound_text_key m key) ∙ same ∙ e)

pub signs_apart : ¬ (bound_text 0 ≡ bound_text (2 ^ 128 - 1))
signs_apart e = let first : ◌≡◌ {A = ℕ} 94 126 = ap (λ bs. get_or bs 0 0) e in omega arith

-- bounds that are shown alike are the same
pub one_bound : (m n : ℕ) → IsShown m → IsShown n → bound_text m ≡ bound_text n → m ≡ n
one_bound m n (inl least) (inl also) same = least ∙ sym also
one_bound m n (inl least) (inr (inl greatest)) same = absurd (signs_apart (sym (ap bound_text least) ∙ same ∙ ap bound_text greatest))
one_bound m n (inl least) (inr (inr key)) same = absurd (no_sign_either 94 n m refl key (sym same) (ap bound_text least))
one_bound m n (inr (inl greatest)) (inl least) same = absurd (signs_apart (sym (ap bound_text least) ∙ sym same ∙ ap bound_text greatest))
one_bound m n (inr (inl greatest)) (inr (inl also)) same = greatest ∙ sym also
one_bound m n (inr (inl greatest)) (inr (inr key)) same = absurd (no_sign_either 126 n m refl key (sym same) (ap bound_text greatest))
one_bound m n (inr (inr key)) (inl least) same = absurd (no_sign_either 94 m n refl key same (ap bound_text least))
one_bound m n (inr (inr key)) (inr (inl greatest)) same = absurd (no_sign_either 126 m n refl key same (ap bound_text greatest))
one_bound m n (inr (inr key)) (inr (inr other)) same =
    let text : key_text m ≡ key_text n = sym (bound_text_key m key) ∙ same ∙ bound_text_key n other in
    let read : ◌≡◌ {A = Result ℕ BadKey} (Ok m) (Ok n) = sym (read_as_spelled m key) ∙ ap key_of text ∙ read_as_spelled n other in
    cc

pub key_spelling : (n : ℕ) → IsKey n → (1 ≤ length (key_text n)) × (length (key_text n) ≤ 16) × (prefix_len is_key_byte (key_text n) ≡ length (key_text n))
key_spelling n key = let len = key_text_len n key in (len.0, len.1, key_text_good n key)
