-- The first word of a text: behind its leading spaces, up to the next space.
use Rattle.std.proofs.Common.{◌≡◌, ◌≢◌, ℕ, suc, ◌+◌, ◌==◌, not, Bool, true, false, List, [], ◌∷◌, take, drop, length, refl, ap, ◌∙◌, sym, arith}
use Rattle.std.specs.Prelude.{filter}
use Rattle.std.specs.List.{prefix_len}
use Rattle.rp_request.specs.Words.{pieces, has_bytes, words_of}

abbrev is_space : ℕ → Bool
is_space b = b == 32

abbrev spaces_of : List ℕ → ℕ
spaces_of s = prefix_len (λ b. b == 32) s

abbrev word_len_of : List ℕ → ℕ
word_len_of s = prefix_len (λ b. not (b == 32)) s

one_more : (n : ℕ) → 1 + n ≡ suc n
one_more n = omega arith

behind_one : (b : ℕ) (s : List ℕ) (v : Bool) → (b == 32) ≡ v → words_of s ≡ words_of (drop (spaces_of s) s)
    → words_of (b ∷ s) ≡ words_of (drop (spaces_of (b ∷ s)) (b ∷ s))
behind_one b s true e ih = simp (e, one_more) ih
behind_one b s false e ih = simp e refl

-- leading spaces make no word
behind_spaces : (s : List ℕ) → words_of s ≡ words_of (drop (spaces_of s) s)
behind_spaces [] = refl
behind_spaces (b ∷ s) = behind_one b s _ refl (behind_spaces s)

-- a text that does not begin with a space
abbrev BeginsWithWord : List ℕ → Type 0
BeginsWithWord [] = Unit {0}
BeginsWithWord (b ∷ s) = (b == 32) ≡ false

begins_one : (b : ℕ) (s : List ℕ) (v : Bool) → (b == 32) ≡ v → BeginsWithWord (drop (spaces_of s) s)
    → BeginsWithWord (drop (spaces_of (b ∷ s)) (b ∷ s))
begins_one b s true e ih = simp (e, one_more) ih
begins_one b s false e ih = simp e refl

begins : (s : List ℕ) → BeginsWithWord (drop (spaces_of s) s)
begins [] = tt
begins (b ∷ s) = begins_one b s _ refl (begins s)

-- the pieces behind the first one
abbrev later_pieces : List ℕ → List (List ℕ)
later_pieces [] = []
later_pieces (b ∷ s) = pieces s

first_one : (b : ℕ) (s : List ℕ) (v : Bool) → (b == 32) ≡ v → pieces s ≡ take (word_len_of s) s ∷ later_pieces (drop (word_len_of s) s)
    → pieces (b ∷ s) ≡ take (word_len_of (b ∷ s)) (b ∷ s) ∷ later_pieces (drop (word_len_of (b ∷ s)) (b ∷ s))
first_one b s true e ih = simp e refl
first_one b s false e ih = simp (e, one_more, ih) refl

-- the first piece goes up to the first space
first_piece : (s : List ℕ) → pieces s ≡ take (word_len_of s) s ∷ later_pieces (drop (word_len_of s) s)
first_piece [] = refl
first_piece (b ∷ s) = first_one b s _ refl (first_piece s)

later_one : (b : ℕ) (s : List ℕ) (v : Bool) → (b == 32) ≡ v → words_of (drop (word_len_of s) s) ≡ filter has_bytes (later_pieces (drop (word_len_of s) s))
    → words_of (drop (word_len_of (b ∷ s)) (b ∷ s)) ≡ filter has_bytes (later_pieces (drop (word_len_of (b ∷ s)) (b ∷ s)))
later_one b s true e ih = simp e refl
later_one b s false e ih = simp (e, one_more) ih

later_words : (s : List ℕ) → words_of (drop (word_len_of s) s) ≡ filter has_bytes (later_pieces (drop (word_len_of s) s))
later_words [] = refl
later_words (b ∷ s) = later_one b s _ refl (later_words s)

-- a text that begins with a word has it as its first word
begun_none : (t : List ℕ) → BeginsWithWord t → length (take (word_len_of t) t) ≡ 0 → words_of t ≡ []
begun_none [] h e = refl
begun_none (b ∷ t) h e = absurd (let k : length (b ∷ take (word_len_of t) t) ≡ 0 = simp (h, one_more) at e in omega arith)

with_bytes : (word : List ℕ) (texts : List (List ℕ)) → length word ≢ 0 → filter has_bytes (word ∷ texts) ≡ word ∷ filter has_bytes texts
with_bytes [] texts h = absurd (h refl)
with_bytes (b ∷ word) texts h = refl

-- the same, from what the code knows of the parts that it cuts: m spaces, then a word of n bytes, then the rest
pub next_none : (s from word : List ℕ) (m n : ℕ) → m ≡ spaces_of s → from ≡ drop m s → n ≡ word_len_of from → word ≡ take n from
    → length word ≡ 0 → words_of s ≡ []
next_none s from word m n m_is from_is n_is word_is none =
    behind_spaces s ∙ begun_none _ (begins s) (rw (word_is, n_is, from_is, m_is) at none)

pub next_some : (s from word rest : List ℕ) (m n : ℕ) → m ≡ spaces_of s → from ≡ drop m s → n ≡ word_len_of from → word ≡ take n from
    → rest ≡ drop n from → length word ≢ 0 → words_of s ≡ word ∷ words_of rest
next_some s from word rest m n m_is from_is n_is word_is rest_is some =
    behind_spaces s
    ∙ rw (← m_is, ← from_is) (ap (filter has_bytes) (first_piece from)
    ∙ rw (← n_is, ← word_is, ← rest_is) (with_bytes word (later_pieces rest) some ∙ rw (rest_is, n_is) (ap (λ ws. word ∷ ws) (sym (later_words from)))))
