-- How words are read from left to right, and how each kind of word is read.
use Rattle.std.specs.Prelude.{ℕ, ◌-◌, ◌^◌, ◌&&◌, ◌==◌, Bool, true, false, nat_le, List, [], ◌∷◌, Option, Some, None, Result, Ok, Err, codes, if◌then◌else◌}
use Rattle.std.specs.Str.{bytes_eq}
use Rattle.rp_base.specs.Numbers.{u64_of}
use Rattle.rp_base.specs.Keys.{key_of}
use Rattle.rp_base.specs.ShortTexts.{text_of}
use Rattle.rp_base.specs.Spans.{key_span_of}
use Rattle.rp_base.specs.declared.NumberFault.{NumberFault}
use Rattle.rp_base.specs.declared.NumberFault.TheVariants as numbers
use Rattle.rp_base.specs.declared.BadKey.{BadKey}
use Rattle.rp_base.specs.declared.BadText.{BadText}
use Rattle.rp_base.specs.declared.KeySpan.{KeySpan}
use Rattle.rp_base.specs.declared.Value.{Value}
use Rattle.rp_base.specs.declared.Value.TheVariants as values
use Rattle.rp_script.specs.declared.faults.LineKind.{LineKind}
use Rattle.rp_script.specs.declared.faults.LineKind.TheVariants as kinds
use Rattle.rp_script.specs.declared.faults.BadWord.{BadWord}

abbrev pub bad_word : ℕ → LineKind → BadWord
bad_word at kind = record { word = at; kind = kind }

abbrev pub bad : {A : Type 0} → ℕ → LineKind → Result A BadWord
bad at kind = Err (bad_word at kind)

-- what the words from one on say, or which of them is refused
abbrev pub Reader : Type 0 → Type 0
Reader A = List (List ℕ) → Result A BadWord

abbrev pub behind : List (List ℕ) → List (List ℕ)
behind [] = []
behind (word ∷ words) = words

abbrev pub going_on : {A B : Type 0} → Result A BadWord → (A → Reader B) → Reader B
going_on (Ok x) f words = f x words
going_on (Err e) f words = Err e

-- one word, and then those behind it
infixl 10 ◌>>=◌
abbrev pub ◌>>=◌ : {A B : Type 0} → Reader A → (A → Reader B) → Reader B
p >>= f = λ words. going_on (p words) f (behind words)

-- the line ends here, before word `at`
abbrev pub is_whole : List (List ℕ) → Bool
is_whole [] = true
is_whole (word ∷ words) = false

abbrev pub whole : {A : Type 0} → ℕ → A → Reader A
whole at x words = if is_whole words then Ok x else bad at kinds.ExtraWord

-- word `at` is there, and is read so
abbrev pub word_at : {A : Type 0} → ℕ → (List ℕ → Result A BadWord) → Reader A
word_at at read [] = bad at kinds.MissingWord
word_at at read (word ∷ words) = read word

-- a number from one to another: it is no number, or then it is outside
abbrev pub in_range : ℕ → ℕ → ℕ → Result ℕ NumberFault → Result ℕ BadWord
in_range at low high (Ok n) = if nat_le low n && nat_le n high then Ok n else bad at kinds.OutOfRange
in_range at low high (Err numbers.TooLarge) = bad at kinds.OutOfRange
in_range at low high (Err (numbers.NotNumber place)) = bad at kinds.NotNumber

unfoldable pub number_in : ℕ → ℕ → ℕ → List ℕ → Result ℕ BadWord
number_in at low high word = in_range at low high (u64_of word)

unfoldable pub number_at : ℕ → ℕ → ℕ → Reader ℕ
number_at at low high = word_at at (number_in at low high)

-- any number of 64 bits
abbrev pub any_number_at : ℕ → Reader ℕ
any_number_at at = number_at at 0 (2 ^ 64 - 1)

-- the number of one of so many commands: then it passes their count
abbrev pub sent_of : ℕ → ℕ → Result ℕ BadWord → Result ℕ BadWord
sent_of at count (Ok n) = if nat_le n count then Ok n else bad at kinds.NotSent
sent_of at count (Err e) = Err e

unfoldable pub seq_at : ℕ → ℕ → Reader ℕ
seq_at at count = word_at at (λ word. sent_of at count (number_in at 1 (2 ^ 64 - 1) word))

-- a key
abbrev pub as_key : ℕ → Result ℕ BadKey → Result ℕ BadWord
as_key at (Ok key) = Ok key
as_key at (Err e) = bad at kinds.BadKey

unfoldable pub key_in : ℕ → List ℕ → Result ℕ BadWord
key_in at word = as_key at (key_of word)

unfoldable pub key_at : ℕ → Reader ℕ
key_at at = word_at at (key_in at)

-- a value: behind an apostrophe the bytes of a text, else a number
abbrev pub as_text : ℕ → Result (List ℕ) BadText → Result Value BadWord
as_text at (Ok text) = Ok (values.Text text)
as_text at (Err e) = bad at kinds.BadText

abbrev pub as_number : Result ℕ BadWord → Result Value BadWord
as_number (Ok n) = Ok (values.Number n)
as_number (Err e) = Err e

unfoldable pub value_in : ℕ → List ℕ → Result Value BadWord
value_in at [] = as_number (number_in at 0 (2 ^ 64 - 1) [])
value_in at (b ∷ bytes) = if b == 39 then as_text at (text_of bytes) else as_number (number_in at 0 (2 ^ 64 - 1) (b ∷ bytes))

unfoldable pub value_at : ℕ → Reader Value
value_at at = word_at at (value_in at)

abbrev pub given : {A : Type 0} → Result A BadWord → Result (Option A) BadWord
given (Ok x) = Ok (Some x)
given (Err e) = Err e

-- an expected value: `none`, or a value
unfoldable pub expect_at : ℕ → Reader (Option Value)
expect_at at = word_at at (λ word. if bytes_eq word (codes "none") then Ok None else given (value_in at word))

-- an end: `~`, or a key
unfoldable pub bound_in : ℕ → List ℕ → Result (Option ℕ) BadWord
bound_in at word = if bytes_eq word (codes "~") then Ok None else given (key_in at word)

-- the end of a span from this start on: then the start is not below it
abbrev pub as_span : ℕ → Option KeySpan → Result KeySpan BadWord
as_span at (Some span) = Ok span
as_span at None = bad at kinds.BadSpan

abbrev pub spanned : ℕ → ℕ → Result (Option ℕ) BadWord → Result KeySpan BadWord
spanned at start (Ok end) = as_span at (key_span_of start end)
spanned at start (Err e) = Err e

unfoldable pub span_at : ℕ → ℕ → Reader KeySpan
span_at at start = word_at at (λ word. spanned at start (bound_in at word))
