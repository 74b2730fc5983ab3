-- Short texts: what is read is a text, and each text is read.
use Rattle.std.proofs.Common.{◌≡◌, ℕ, ◌-◌, ◌<◌, ◌≤◌, ◌⊎◌, inl, inr, true, List, ◌++◌, length, replicate, take, drop, get_or, refl, sym, ap, ◌∙◌, arith, lit<, Ok, Err, Result, MatchResult, IsOk}
use Rattle.std.proofs.Math.Seq.{take-append_seam}
use Rattle.std.proofs.lemmas.Bool.{cases_lt}
use Rattle.std.proofs.lemmas.Bool.Decides.{nat_tests}
use Rattle.std.proofs.lemmas.List.{drop-replicate, get_or_past}
use Rattle.std.proofs.lemmas.List.Sums.{prefix_len-le-length, prefix_len_passes, prefix_len_stops}
use Rattle.std.proofs.lemmas.Str.{IsUtf8-from_ascii}
use Rattle.std.specs.List.{prefix_len}
use Rattle.std.specs.Str.{IsAscii, IsUtf8}
use Rattle.rp_base.specs.ShortTexts.{is_text_byte, good_len, text_of, padded, IsText, IsKept, IsBadTextPlace}
use Rattle.rp_base.specs.declared.short_texts.BadText.{BadText}

-- what is never an error is `Ok`
pub IsOk-no_err : {X E : Type 0} (r : Result X E) (P : X → Type 0) (Q : E → Type 0) → MatchResult r P Q → ((e : E) → Q e → ⊥) → IsOk r
IsOk-no_err (Ok x) P Q holds none = refl
IsOk-no_err (Err e) P Q holds none = absurd (none e holds)

-- what stops short is no text
pub text_of_stops : (bs : List ℕ) → good_len bs < length bs → text_of bs ≡ Err (record { place = good_len bs })
unfolding text_of
text_of_stops bs h = grind (arith, nat_tests)

-- all else is one
pub text_of_whole : (bs : List ℕ) → length bs ≤ good_len bs → text_of bs ≡ Ok bs
unfolding text_of
text_of_whole bs h =
    let front : prefix_len is_text_byte bs ≤ length bs = prefix_len-le-length is_text_byte bs in
    let all : good_len bs ≡ length bs = omega arith in
    grind (arith, nat_tests)

-- a copy over zero bytes
pub copied_in_front : (text copy : List ℕ) → copy ≡ text → copy ++ drop (length text) (replicate 64 0) ≡ padded text
copied_in_front text copy same = ap (λ bs. bs ++ drop (length text) (replicate 64 0)) same ∙ ap (λ bs. text ++ bs) (drop-replicate (length text) 64 0)

-- the bytes in front of the zero bytes are the text
pub taken_from_padded : (bs bytes : List ℕ) (good : ℕ) → bytes ≡ padded bs → good ≡ good_len bs → length bs ≤ good → take good bytes ≡ bs
taken_from_padded bs bytes good is stops all =
    let same : good ≡ length bs = omega (arith, prefix_len-le-length is_text_byte bs) in
    rw (is, same) (take-append_seam bs (replicate (64 - length bs) 0))

pub IsKept-padded : (bs bytes : List ℕ) (good : ℕ) → bytes ≡ padded bs → good ≡ good_len bs → length bs ≤ good → IsKept bytes good
IsKept-padded bs bytes good is stops all =
    let front : take good bytes ≡ bs = taken_from_padded bs bytes good is stops all in
    let below : prefix_len is_text_byte bs ≤ length bs = prefix_len-le-length is_text_byte bs in
    let same : length bs ≡ good = omega arith in
    let passes : prefix_len is_text_byte bs ≡ good = omega arith in
    record { short = omega arith; whole = rw front same; zero = rw front (sym is); good = rw front passes }

-- what is read is the text, as the code keeps it
pub text_of_kept : (bs bytes : List ℕ) (good : ℕ) → bytes ≡ padded bs → good ≡ good_len bs → length bs ≤ good → text_of bs ≡ Ok (take good bytes)
text_of_kept bs bytes good is stops all = text_of_whole bs (omega arith) ∙ ap Ok (sym (taken_from_padded bs bytes good is stops all))

pub text_byte_plain : (b : ℕ) → is_text_byte b ≡ true → b < 128
text_byte_plain b h = grind (arith, nat_tests)

-- a text is plain
pub IsAscii-text : (bs : List ℕ) → IsText bs → IsAscii bs
IsAscii-text bs text i = elim (cases_lt i (length bs)) [
  | inl here ↦ text_byte_plain (get_or bs i 0) (prefix_len_passes is_text_byte bs i 0 (omega (arith, text.good)))
  | inr past ↦ rw (get_or_past bs i 0 past) (lit< tt)
]

pub IsUtf8-text : (bs : List ℕ) → IsText bs → IsUtf8 bs
IsUtf8-text bs text = IsUtf8-from_ascii bs (IsAscii-text bs text)

-- each text is read, as itself
pub read_as_it_is : (bs : List ℕ) → IsText bs → text_of bs ≡ Ok bs
read_as_it_is bs text = text_of_whole bs (omega (arith, text.short, text.good))

-- the count stops short, or goes to the end
pub text_or_not : (bs : List ℕ) → (good_len bs < length bs) ⊎ (length bs ≤ good_len bs)
text_or_not bs = cases_lt (good_len bs) (length bs)

-- what is read is a text, and is as it was
pub text_as_read : (bs text : List ℕ) → text_of bs ≡ Ok text → (text ≡ bs) × IsText text
text_as_read bs text h = elim (text_or_not bs) [
  | inl stops ↦ absurd (let refused = text_of_stops bs stops in cc)
  | inr all ↦
      let taken = text_of_whole bs all in
      let same : text ≡ bs = cc in
      let below : prefix_len is_text_byte bs ≤ length bs = prefix_len-le-length is_text_byte bs in
      (same, rw same (record { short = omega arith; good = omega arith }))
]

-- before the counted bytes no place is bad
pub no_bad_before : (bs : List ℕ) (k : ℕ) → k < good_len bs → ¬ (IsBadTextPlace bs k)
no_bad_before bs k before (here, inl other) = let good = prefix_len_passes is_text_byte bs k 0 (omega arith) in cc
no_bad_before bs k before (here, inr past) = omega (arith, past)

-- where the count stops short, the place is bad
pub bad_where_stops : (bs : List ℕ) → good_len bs < length bs → IsBadTextPlace bs (good_len bs)
bad_where_stops bs stops = elim (cases_lt (prefix_len is_text_byte bs) 64) [
  | inl low ↦
      let same : prefix_len is_text_byte bs ≡ good_len bs = omega arith in
      (stops, inl (rw same at (prefix_len_stops is_text_byte bs 0 (omega arith))))
  | inr high ↦ (stops, inr (omega arith))
]

-- what is refused has a bad place, and the least is named
pub least_bad_place : (bs : List ℕ) (e : BadText) → text_of bs ≡ Err e → IsBadTextPlace bs e.place × ((k : ℕ) → k < e.place → ¬ (IsBadTextPlace bs k))
least_bad_place bs e h = elim (text_or_not bs) [
  | inl stops ↦
      let made : record { place = good_len bs } ≡ e = let refused = text_of_stops bs stops in cc in
      rw (← made) (bad_where_stops bs stops, no_bad_before bs)
  | inr all ↦ absurd (let taken = text_of_whole bs all in cc)
]
