-- What keeps a word of a line from being a text.
use Rattle.std.proofs.Common.{◌≡◌, ℕ, zero, suc, ◌+◌, ◌<◌, ◌≤◌, ◌&&◌, ◌||◌, ◌==◌, not, Bool, true, false, List, [], ◌∷◌, length, get_or, min, Option, None, Some, Result, Ok, Err, refl, ap, ◌∙◌, sym, subst, arith, nat_le}
use Rattle.std.specs.Prelude.{filter, IsErr, IsNone, if◌then◌else◌}
use Rattle.std.specs.List.{list_any, position_from, prefix_len, AllByRecursion}
use Rattle.std.proofs.lemmas.Bool.Decides.{nat_tests}
use Rattle.rp_base.specs.ShortTexts.{is_text_byte, good_len, text_of}
use Rattle.rp_base.proofs.TextLaws.{text_of_stops, text_of_whole}
use Rattle.rp_request.specs.Words.{begun_with, pieces, has_bytes, words_of}
use Rattle.rp_script.specs.Seen.{is_bad_byte, has_bad_byte, bad_byte_of}
use Rattle.rp_script.specs.Causes.{LongTextsAlone}

abbrev has_space : List ℕ → Bool
has_space word = list_any (λ b. b == 32) word

-- no piece of a line has a space
abbrev NoSpace : List ℕ → Type 0
NoSpace word = has_space word ≡ false

no_space_begun : (b : ℕ) (word : List ℕ) → (b == 32) ≡ false → NoSpace word → NoSpace (b ∷ word)
no_space_begun b word other h = simp other h

all_begun : (b : ℕ) (texts : List (List ℕ)) → (b == 32) ≡ false → AllByRecursion NoSpace texts → AllByRecursion NoSpace (begun_with b texts)
all_begun b [] other h = (no_space_begun b [] other refl, tt)
all_begun b (text ∷ texts) other h = (no_space_begun b text other h.0, h.1)

piece_free : (b : ℕ) (s : List ℕ) (v : Bool) → (b == 32) ≡ v → AllByRecursion NoSpace (pieces s) → AllByRecursion NoSpace (if v then [] ∷ pieces s else begun_with b (pieces s))
piece_free b s true e h = (refl, h)
piece_free b s false e h = all_begun b (pieces s) e h

pieces_free : (s : List ℕ) → AllByRecursion NoSpace (pieces s)
pieces_free [] = (refl, tt)
pieces_free (b ∷ s) = piece_free b s _ refl (pieces_free s)

kept_free : (texts : List (List ℕ)) → AllByRecursion NoSpace texts → AllByRecursion NoSpace (filter has_bytes texts)
kept_free [] h = tt
kept_free ([] ∷ texts) h = kept_free texts h.1
kept_free ((b ∷ text) ∷ texts) h = (h.0, kept_free texts h.1)

-- no word has a bad byte
abbrev NoBadByte : List ℕ → Type 0
NoBadByte word = has_bad_byte word ≡ false

good_head : (at : ℕ) (word : List ℕ) (words : List (List ℕ)) (v : Bool) → has_bad_byte word ≡ v
    → IsNone (if v then Some at else position_from has_bad_byte (at + 1) words)
    → (IsNone (position_from has_bad_byte (at + 1) words) → AllByRecursion NoBadByte words) → AllByRecursion NoBadByte (word ∷ words)
good_head at word words true e free later = absurd (cc)
good_head at word words false e free later = (e, later free)

good_from : (at : ℕ) (words : List (List ℕ)) → IsNone (position_from has_bad_byte at words) → AllByRecursion NoBadByte words
good_from at [] h = tt
good_from at (word ∷ words) h = good_head at word words (has_bad_byte word) refl h (λ free. good_from (at + 1) words free)

picked : (P : List ℕ → Type 0) (words : List (List ℕ)) (n : ℕ) → n < length words → AllByRecursion P words → P (get_or words n [])
picked P [] n here h = absurd (omega (arith, here))
picked P (word ∷ words) zero here h = h.0
picked P (word ∷ words) (suc n) here h = picked P words n (omega (arith, here)) h.1

-- each byte is one of a text
either_false : (a b : Bool) → (a || b) ≡ false → (a ≡ false) × (b ≡ false)
either_false false b e = (refl, e)
either_false true b e = absurd (cc)

text_byte : (b : ℕ) → is_bad_byte b ≡ false → (b == 32) ≡ false → is_text_byte b ≡ true
text_byte b good other = grind (arith, nat_tests)

all_bytes : (text : List ℕ) → has_bad_byte text ≡ false → has_space text ≡ false → prefix_len is_text_byte text ≡ length text
all_bytes [] good free = refl
all_bytes (b ∷ text) good free =
    let g = either_false (is_bad_byte b) (has_bad_byte text) good in
    let f = either_false (b == 32) (has_space text) free in
    simp (text_byte b g.0 f.0) (omega (arith, all_bytes text g.1 f.1))

short_or_not : (text : List ℕ) → prefix_len is_text_byte text ≡ length text → (v : Bool) → nat_le (length text) 64 ≡ v
    → (IsErr (text_of text) → 64 < length text) × (64 < length text → IsErr (text_of text))
short_or_not text all true e =
    let short : length text ≤ 64 = grind (arith, nat_tests) in
    let whole : text_of text ≡ Ok text = text_of_whole text (omega (arith, all)) in
    (λ h. absurd (subst (λ r. IsErr r → ⊥) (sym whole) (λ x. cc) h), λ long. absurd (omega arith))
short_or_not text all false e =
    let long : 64 < length text = grind (arith, nat_tests) in
    let stops = text_of_stops text (omega (arith, all)) in
    (λ h. long, λ h. subst (λ r. IsErr r) (sym stops) refl)

pub long_texts_alone : LongTextsAlone
unfolding bad_byte_of
long_texts_alone line n text none here begins =
    let good : has_bad_byte (39 ∷ text) ≡ false = subst NoBadByte begins (picked NoBadByte (words_of line) n here (good_from 1 (words_of line) none)) in
    let free : has_space (39 ∷ text) ≡ false = subst NoSpace begins (picked NoSpace (words_of line) n here (kept_free (pieces line) (pieces_free line))) in
    short_or_not text (all_bytes text good free) _ refl
