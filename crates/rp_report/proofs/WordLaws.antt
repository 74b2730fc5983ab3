-- The words of a text that is written word by word.
use Rattle.std.proofs.Common.{◌≡◌, ℕ, ◌<◌, ◌==◌, Bool, true, false, not, ◌&&◌, inl, inr, subst, List, [], ◌∷◌, ◌++◌, length, refl, ap, sym, ◌∙◌, arith, append_assoc}
use Rattle.std.specs.Prelude.{filter, ◌^◌}
use Rattle.std.specs.List.{prefix_len}
use Rattle.std.specs.Char.{is_ascii_digit}
use Rattle.std.specs.Fmt.{decimal}
use Rattle.std.proofs.lemmas.Bool.Decides.{nat_tests}
use Rattle.rp_base.specs.Keys.{is_key_byte, key_text, key_of, IsKey, IsShown, bound_text}
use Rattle.rp_base.specs.Numbers.{u64_of}
use Rattle.rp_base.proofs.KeyBytes.{passes_whole}
use Rattle.rp_base.proofs.KeyLaws.{key_text_good, key_text_len, read_as_spelled, bound_text_least, bound_text_greatest, bound_text_key}
use Rattle.rp_base.proofs.NumberLaws.{read_as_written, Writes-from_ok}
use Rattle.rp_base.specs.ShortTexts.{is_text_byte}
use Rattle.rp_base.specs.Values.{IsValue, value_text}
use Rattle.rp_base.specs.declared.values.Value.{Value}
use Rattle.rp_base.specs.declared.values.Value.TheVariants.{Number, Text}
use Rattle.rp_request.specs.Words.{pieces, has_bytes, words_of}

-- a byte that is neither a space nor the end of a line
abbrev pub is_letter : ℕ → Type 0
is_letter b = ((b == 32) ≡ false) × ((b == 10) ≡ false)

-- no byte is a space or the end of a line
abbrev pub AreLetters : List ℕ → Type 0
AreLetters [] = Unit {0}
AreLetters (b ∷ bs) = is_letter b × AreLetters bs

-- a word: some bytes, all of them letters
pub record IsWord (w : List ℕ) : Type 0 where
  pub some : has_bytes w ≡ true
  pub letters : AreLetters w

-- words with a space between each two
abbrev pub spoken : List (List ℕ) → List ℕ
spoken [] = []
spoken (w ∷ []) = w
spoken (w ∷ v ∷ ws) = w ++ 32 ∷ spoken (v ∷ ws)

abbrev pub AreWords : List (List ℕ) → Type 0
AreWords [] = Unit {0}
AreWords (w ∷ ws) = IsWord w × AreWords ws

pieces_front : (w rest : List ℕ) → AreLetters w → pieces (w ++ 32 ∷ rest) ≡ w ∷ pieces rest
pieces_front [] rest h = refl
pieces_front (b ∷ w) rest h = rw (h.0.0, pieces_front w rest h.1)

pieces_last : (w : List ℕ) → AreLetters w → pieces w ≡ w ∷ []
pieces_last [] h = refl
pieces_last (b ∷ w) h = rw (h.0.0, pieces_last w h.1)

word_kept : (w : List ℕ) (ws : List (List ℕ)) → has_bytes w ≡ true → filter has_bytes (w ∷ ws) ≡ w ∷ filter has_bytes ws
word_kept w ws some = rw some

-- the words of words that are spoken are these words
pub words_spoken : (ws : List (List ℕ)) → AreWords ws → words_of (spoken ws) ≡ ws
words_spoken [] h = refl
words_spoken (w ∷ []) h = ap (filter has_bytes) (pieces_last w h.0.letters) ∙ word_kept w [] h.0.some
words_spoken (w ∷ v ∷ ws) h =
    ap (filter has_bytes) (pieces_front w (spoken (v ∷ ws)) h.0.letters) ∙ word_kept w (pieces (spoken (v ∷ ws))) h.0.some
    ∙ ap (λ x. w ∷ x) (words_spoken (v ∷ ws) h.1)

letters_whole : (p : ℕ → Bool) → ((b : ℕ) → p b ≡ true → is_letter b) → (bs : List ℕ) → prefix_len p bs ≡ length bs → AreLetters bs
letters_whole p letter [] h = tt
letters_whole p letter (b ∷ bs) h =
    let parts : (p b ≡ true) × (prefix_len p bs ≡ length bs) = passes_whole p b bs (p b) refl h in
    (letter b parts.0, letters_whole p letter bs parts.1)

some_bytes : (bs : List ℕ) → 0 < length bs → has_bytes bs ≡ true
some_bytes [] h = absurd (omega arith)
some_bytes (b ∷ bs) h = refl

digit_letter : (b : ℕ) → is_ascii_digit b ≡ true → is_letter b
digit_letter b h = (grind (arith, nat_tests), grind (arith, nat_tests))

key_letter : (b : ℕ) → is_key_byte b ≡ true → is_letter b
key_letter b h = (grind (arith, nat_tests), grind (arith, nat_tests))

-- a number is a word
pub number_word : (n : ℕ) → n < 2 ^ 64 → IsWord (decimal n)
number_word n fits =
    let w = Writes-from_ok (decimal n) n (read_as_written n fits) in
    record { some = some_bytes (decimal n) w.some; letters = letters_whole is_ascii_digit digit_letter (decimal n) w.digits }

-- a key is a word
pub key_word : (n : ℕ) → IsKey n → IsWord (key_text n)
key_word n key =
    let len = key_text_len n key in
    record { some = some_bytes (key_text n) (omega (arith, len.0)); letters = letters_whole is_key_byte key_letter (key_text n) (key_text_good n key) }

text_letter : (b : ℕ) → is_text_byte b ≡ true → is_letter b
text_letter b h = (grind (arith, nat_tests), grind (arith, nat_tests))

-- a value is a word
pub value_word : (v : Value) → IsValue v → IsWord (value_text v)
value_word (Number n) h = number_word n h
value_word (Text text) h = record { some = refl; letters = ((refl, refl), letters_whole is_text_byte text_letter text h.good) }

letters_append : (v w : List ℕ) → AreLetters v → AreLetters w → AreLetters (v ++ w)
letters_append [] w hv hw = hw
letters_append (b ∷ v) w hv hw = (hv.0, letters_append v w hv.1 hw)

-- the test of a written-out word
abbrev pub is_plain : List ℕ → Bool
is_plain [] = true
is_plain (b ∷ bs) = not (b == 32) && (not (b == 10) && is_plain bs)

plain_one : (b : ℕ) (x y v : Bool) → (b == 32) ≡ x → (b == 10) ≡ y → (not x && (not y && v)) ≡ true → is_letter b × (v ≡ true)
plain_one b false false v e f h = ((e, f), h)
plain_one b true y v e f h = absurd (cc)
plain_one b false true v e f h = absurd (cc)

plain_letters : (w : List ℕ) → is_plain w ≡ true → AreLetters w
plain_letters [] h = tt
plain_letters (b ∷ w) h = let one = plain_one b _ _ (is_plain w) refl refl h in (one.0, plain_letters w one.1)

pub literal_word : (w : List ℕ) → (has_bytes w && is_plain w) ≡ true → IsWord w
literal_word [] h = absurd (cc)
literal_word (b ∷ w) h = record { some = refl; letters = plain_letters (b ∷ w) h }

-- a command's number behind its client's, with a dot between
pub dotted_word : (m n : ℕ) → m < 2 ^ 64 → n < 2 ^ 64 → IsWord (decimal m ++ 46 ∷ decimal n)
dotted_word m n hm hn =
    let front = number_word m hm in
    record { some = joined_some (decimal m) (46 ∷ decimal n) front.some; letters = letters_append (decimal m) (46 ∷ decimal n) front.letters ((refl, refl), (number_word n hn).letters) }
  where
    joined_some : (v w : List ℕ) → has_bytes v ≡ true → has_bytes (v ++ w) ≡ true
    joined_some [] w h = absurd (cc)
    joined_some (b ∷ v) w h = refl

pub bound_word : (n : ℕ) → IsShown n → IsWord (bound_text n)
bound_word n (inl zero) = subst (λ (m : ℕ). IsWord (bound_text m)) (sym zero) (subst IsWord (sym bound_text_least) (literal_word (94 ∷ []) refl))
bound_word n (inr (inl most)) = subst (λ (m : ℕ). IsWord (bound_text m)) (sym most) (subst IsWord (sym bound_text_greatest) (literal_word (126 ∷ []) refl))
bound_word n (inr (inr key)) = subst IsWord (sym (bound_text_key n key)) (key_word n key)

-- words behind words
abbrev pub are_some : List (List ℕ) → Bool
are_some [] = false
are_some (w ∷ ws) = true

pub spoken_append : (vs ws : List (List ℕ)) → are_some vs ≡ true → are_some ws ≡ true → spoken (vs ++ ws) ≡ spoken vs ++ 32 ∷ spoken ws
spoken_append [] ws hv hw = absurd (cc)
spoken_append (v ∷ []) [] hv hw = absurd (cc)
spoken_append (v ∷ []) (w ∷ ws) hv hw = refl
spoken_append (v ∷ u ∷ vs) ws hv hw =
    ap (λ t. v ++ 32 ∷ t) (spoken_append (u ∷ vs) ws refl hw) ∙ sym (append_assoc v (32 ∷ spoken (u ∷ vs)) (32 ∷ spoken ws))

pub words_append : (vs ws : List (List ℕ)) → AreWords vs → AreWords ws → AreWords (vs ++ ws)
words_append [] ws hv hw = hw
words_append (v ∷ vs) ws hv hw = (hv.0, words_append vs ws hv.1 hw)

-- texts that are spoken alike have the same words
pub same_words : (vs ws : List (List ℕ)) → AreWords vs → AreWords ws → spoken vs ≡ spoken ws → vs ≡ ws
same_words vs ws hv hw same = sym (words_spoken vs hv) ∙ ap words_of same ∙ words_spoken ws hw

-- what stands before the first byte that does not pass, and what stands behind it
peel : (p : ℕ → Bool) (v w s t : List ℕ) (c : ℕ) → p c ≡ false → prefix_len p v ≡ length v → prefix_len p w ≡ length w
    → v ++ c ∷ s ≡ w ++ c ∷ t → (v ≡ w) × (s ≡ t)
peel p [] [] s t c stops hv hw same = (refl, cc)
peel p [] (b ∷ w) s t c stops hv hw same =
    let parts : (p b ≡ true) × (prefix_len p w ≡ length w) = passes_whole p b w (p b) refl hw in
    let e : c ≡ b = cc in
    let f : p c ≡ p b = ap p e in
    absurd (let g = parts.0 in cc)
peel p (b ∷ v) [] s t c stops hv hw same =
    let parts : (p b ≡ true) × (prefix_len p v ≡ length v) = passes_whole p b v (p b) refl hv in
    let e : b ≡ c = cc in
    let f : p b ≡ p c = ap p e in
    absurd (let g = parts.0 in cc)
peel p (a ∷ v) (b ∷ w) s t c stops hv hw same =
    let first : a ≡ b = cc in
    let rest : v ++ c ∷ s ≡ w ++ c ∷ t = cc in
    let left : (p a ≡ true) × (prefix_len p v ≡ length v) = passes_whole p a v (p a) refl hv in
    let right : (p b ≡ true) × (prefix_len p w ≡ length w) = passes_whole p b w (p b) refl hw in
    let e = peel p v w s t c stops left.1 right.1 rest in
    (let f = e.0 in cc, e.1)

pub number_same : (m n : ℕ) → m < 2 ^ 64 → n < 2 ^ 64 → decimal m ≡ decimal n → m ≡ n
number_same m n hm hn same =
    let e : u64_of (decimal m) ≡ u64_of (decimal n) = ap u64_of same in
    let a = read_as_written m hm in
    let b = read_as_written n hn in
    cc

pub key_same : (m n : ℕ) → IsKey m → IsKey n → key_text m ≡ key_text n → m ≡ n
key_same m n hm hn same =
    let e : key_of (key_text m) ≡ key_of (key_text n) = ap key_of same in
    let a = read_as_spelled m hm in
    let b = read_as_spelled n hn in
    cc

pub dotted_same : (k l m n : ℕ) → k < 2 ^ 64 → l < 2 ^ 64 → m < 2 ^ 64 → n < 2 ^ 64 → decimal k ++ 46 ∷ decimal l ≡ decimal m ++ 46 ∷ decimal n → (k ≡ m) × (l ≡ n)
dotted_same k l m n hk hl hm hn same =
    let front = Writes-from_ok (decimal k) k (read_as_written k hk) in
    let other = Writes-from_ok (decimal m) m (read_as_written m hm) in
    let parts = peel is_ascii_digit (decimal k) (decimal m) (decimal l) (decimal n) 46 refl front.digits other.digits same in
    (number_same k m hk hm parts.0, number_same l n hl hn parts.1)
