-- Where each kind of refusal comes.
use Rattle.std.specs.Prelude.{◌≡◌, ◌≢◌, ◌↔◌, ◌⊎◌, ℕ, zero, suc, ◌+◌, ◌-◌, ◌^◌, ◌≤◌, ◌<◌, List, [], ◌∷◌, length, codes, Option, Some, None, Result, Ok, Err, IsErr, IfErr, IsSome, IsNone, IsTrue, IsFalse, if◌then◌else◌}
use Rattle.rp_base.specs.Numbers.{number_of, digits_len}
use Rattle.rp_base.specs.Keys.{key_of, end_of}
use Rattle.rp_base.specs.ShortTexts.{text_of}
use Rattle.rp_script.specs.Keywords.{request_word_of, is_barred_in_race, keyword_of}
use Rattle.rp_request.specs.Words.{words_of}
use Rattle.rp_script.specs.Readers.{bad_word}
use Rattle.rp_script.specs.Requests.{request}
use Rattle.rp_script.specs.Wanted.{Wanted, Number, CommandNumber, KeyName, ValueWord, Expected, EndFrom, RequestName, nth, request as wanted_request, wants}
use Rattle.rp_script.specs.Seen.{Seen, begins_comment, bad_byte_of, placed, said, judged}
use Rattle.rp_script.specs.declared.faults.BadWord.{BadWord}
use Rattle.rp_script.specs.declared.faults.LineKind.{LineKind}
use Rattle.rp_script.specs.declared.faults.LineKind.TheVariants as kinds
use Rattle.rp_script.specs.declared.faults.ScriptFault.{ScriptFault}
use Rattle.rp_script.specs.declared.faults.ScriptFault.TheVariants.{Refused, Limit}
use Rattle.rp_script.specs.declared.keywords.Keyword.{Keyword}
use Rattle.rp_script.specs.declared.keywords.Keyword.TheVariants as keywords
use Rattle.rp_script.specs.declared.keywords.RequestWord.TheVariants as requests
use Rattle.rp_script.specs.declared.lines.ScriptLine.{ScriptLine}

-- all bytes of a word are digits, and one is there; or not
abbrev pub IsNumber : List ℕ → Type 0
IsNumber word = (0 < digits_len word) × (digits_len word ≡ length word)

abbrev pub IsNoNumber : List ℕ → Type 0
IsNoNumber word = (digits_len word ≡ 0) ⊎ (digits_len word < length word)

-- a number that is below the least, above the greatest, or longer than 64 bits
abbrev pub IsOutside : ℕ → ℕ → List ℕ → Type 0
IsOutside low high word = IsNumber word × ((number_of word < low) ⊎ (high < number_of word) ⊎ (2 ^ 64 ≤ number_of word))

-- a number that may count commands, but passes their count
abbrev pub IsUnsent : ℕ → List ℕ → Type 0
IsUnsent count word = IsNumber word × (1 ≤ number_of word) × (number_of word < 2 ^ 64) × (count < number_of word)

-- a word begins with an apostrophe, behind which is no text; or it begins with none
abbrev pub IsBadText : List ℕ → Type 0
IsBadText word = (text : List ℕ) × (word ≡ 39 ∷ text) × IsErr (text_of text)

abbrev pub IsPlain : List ℕ → Type 0
IsPlain word = (text : List ℕ) → word ≢ 39 ∷ text

-- a bound, of which the key of a word is not below: `~` for the end of the key space, or a key
abbrev pub IsEndOf : Option ℕ → List ℕ → Type 0
IsEndOf None word = word ≡ codes "~"
IsEndOf (Some key) word = (word ≢ codes "~") × (key_of word ≡ Ok key)

abbrev pub IsNotBelow : List ℕ → List ℕ → Type 0
IsNotBelow start word = (first : ℕ) × (end : Option ℕ) × (key_of start ≡ Ok first) × IsEndOf end word × (end_of end ≤ first)

-- a word is wrong in this way where this is wanted of it
abbrev pub IsWrong : Wanted → LineKind → List ℕ → Type 0
IsWrong (Number low high) kinds.NotNumber word = IsNoNumber word
IsWrong (Number low high) kinds.OutOfRange word = IsOutside low high word
IsWrong (CommandNumber count) kinds.NotNumber word = IsNoNumber word
IsWrong (CommandNumber count) kinds.OutOfRange word = IsOutside 1 (2 ^ 64 - 1) word
IsWrong (CommandNumber count) kinds.NotSent word = IsUnsent count word
IsWrong KeyName kinds.BadKey word = IsErr (key_of word)
IsWrong ValueWord kinds.BadText word = IsBadText word
IsWrong ValueWord kinds.NotNumber word = IsPlain word × IsNoNumber word
IsWrong ValueWord kinds.OutOfRange word = IsPlain word × IsOutside 0 (2 ^ 64 - 1) word
IsWrong Expected kinds.BadText word = IsBadText word
IsWrong Expected kinds.NotNumber word = (word ≢ codes "none") × IsPlain word × IsNoNumber word
IsWrong Expected kinds.OutOfRange word = (word ≢ codes "none") × IsPlain word × IsOutside 0 (2 ^ 64 - 1) word
IsWrong (EndFrom start) kinds.BadKey word = (word ≢ codes "~") × IsErr (key_of word)
IsWrong (EndFrom start) kinds.BadSpan word = IsNotBelow start word
IsWrong RequestName kinds.UnknownWord word = request_word_of word ≡ requests.Unknown
IsWrong wanted kind word = ⊥

-- a word is right where it is wrong in no way
abbrev pub IsRight : Wanted → List ℕ → Type 0
IsRight wanted word = (kind : LineKind) → IsWrong wanted kind word → ⊥

-- the word behind the first n is refused so: it is wrong, missing or one too many, and all words in front of it are right
abbrev pub IsRefusedAt : List Wanted → List (List ℕ) → ℕ → LineKind → Type 0
IsRefusedAt [] [] n kind = ⊥
IsRefusedAt [] (word ∷ words) zero kind = kind ≡ kinds.ExtraWord
IsRefusedAt [] (word ∷ words) (suc n) kind = ⊥
IsRefusedAt (wanted ∷ more) [] zero kind = kind ≡ kinds.MissingWord
IsRefusedAt (wanted ∷ more) [] (suc n) kind = ⊥
IsRefusedAt (wanted ∷ more) (word ∷ words) zero kind = IsWrong wanted kind word
IsRefusedAt (wanted ∷ more) (word ∷ words) (suc n) kind = IsRight wanted word × IsRefusedAt more words n kind

-- the same of the words from word `at` on
abbrev pub Refuses : ℕ → List Wanted → List (List ℕ) → BadWord → Type 0
Refuses at wanted words e = (n : ℕ) × (e.word ≡ at + n) × IsRefusedAt wanted words n e.kind

-- what is so of the lines before and of the first word where a line is refused so at its first word
abbrev pub IsRule : Seen → Keyword → LineKind → Type 0
IsRule s k kinds.NoCluster = IsNone s.nodes × (k ≢ keywords.Cluster)
IsRule s k kinds.SecondCluster = IsSome s.nodes × (k ≡ keywords.Cluster)
IsRule s k kinds.AfterEnd = IsSome s.nodes × (k ≢ keywords.Cluster) × IsTrue s.ended
IsRule s k kinds.NotInRace = IsSome s.nodes × IsFalse s.ended × IsTrue s.race × IsTrue (is_barred_in_race k)
IsRule s k kinds.UnknownWord = IsSome s.nodes × IsFalse s.ended × (k ≡ keywords.Unknown)
IsRule s k kind = ⊥

-- no rule refuses the first word
abbrev pub IsTakenWord : Seen → Keyword → Type 0
IsTakenWord s k = (kind : LineKind) → IsRule s k kind → ⊥

-- what the words behind the first one must be; the first line has no cluster yet
abbrev pub wants_in : Option ℕ → List ℕ → Keyword → List (List ℕ) → List Wanted
wants_in None commands k words = wants k 0 commands words
wants_in (Some nodes) commands k words = wants k nodes commands words

-- a line that begins so is refused so: at its first word by a rule, or else at a later word that is wrong by its place
abbrev pub IsRefusal : Seen → Keyword → List (List ℕ) → BadWord → Type 0
IsRefusal s k words e = ((e.word ≡ 1) × IsRule s k e.kind) ⊎ (IsTakenWord s k × Refuses 2 (wants_in s.nodes s.commands k words) words e)

-- each refusal comes exactly there
abbrev pub RefusedExactly : Type 0
RefusedExactly = (s : Seen) (k : Keyword) (words : List (List ℕ)) (e : BadWord) → (placed s k words ≡ Err e) ↔ IsRefusal s k words e

-- the words of a request are refused just so too, from word 5 on
abbrev pub RequestsRefusedExactly : Type 0
RequestsRefusedExactly = (words : List (List ℕ)) (e : BadWord) → (request words ≡ Err e) ↔ Refuses 5 (wanted_request words) words e

-- a line is refused so: with a bad byte it is refused at the first word that has one, in a comment at word 0; else it is no comment, and refused by its words
abbrev pub IsLineRefusal : Seen → List (List ℕ) → BadWord → Type 0
IsLineRefusal s [] e = ⊥
IsLineRefusal s (first ∷ words) e =
    ((at : ℕ) × (bad_byte_of (first ∷ words) ≡ Some at) × (e ≡ bad_word (if begins_comment first then 0 else at) kinds.BadByte))
    ⊎ (IsNone (bad_byte_of (first ∷ words)) × IsFalse (begins_comment first) × IsRefusal s (keyword_of first) words e)

-- each line is refused exactly there
abbrev pub LinesRefusedExactly : Type 0
LinesRefusedExactly = (s : Seen) (words : List (List ℕ)) (e : BadWord) → (said s words ≡ Err e) ↔ IsLineRefusal s words e

-- in a line without a bad byte a text is refused exactly where more than 64 bytes follow the apostrophe
abbrev pub LongTextsAlone : Type 0
LongTextsAlone = (line : List ℕ) (n : ℕ) (text : List ℕ) → IsNone (bad_byte_of (words_of line)) → n < length (words_of line)
    → nth n (words_of line) ≡ 39 ∷ text → IsErr (text_of text) ↔ (64 < length text)

-- a kind of the rules of a script: `not-json` and `not-report` speak of no script
abbrev pub IsOfRules : LineKind → Type 0
IsOfRules kinds.NotJson = ⊥
IsOfRules kinds.NotReport = ⊥
IsOfRules kind = Unit {0}

abbrev pub IsFaultOfRules : ScriptFault → Type 0
IsFaultOfRules (Refused line word kind) = IsOfRules kind
IsFaultOfRules (Limit which count) = Unit {0}

-- the rules refuse by no other kind
abbrev pub KindsOfRules : Type 0
KindsOfRules = (s : Seen) (line : List ℕ) → IfErr (judged s line) IsFaultOfRules
