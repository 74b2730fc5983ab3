-- How the words of a text are read, one after another.
use Rattle.std.specs.Prelude.{◌≡◌, ℕ, ◌+◌, ◌-◌, ◌^◌, ◌==◌, ◌&&◌, Bool, true, false, nat_le, if◌then◌else◌, List, [], ◌∷◌, take, drop, position, Option, None, Some, option_map, option_and_then, Result, Ok, Err, codes, ⊤}
use Rattle.std.specs.Str.{bytes_eq}
use Rattle.rp_base.specs.Keys.{key_of}
use Rattle.rp_base.specs.Numbers.{u64_of}
use Rattle.rp_base.specs.ShortTexts.{text_of}
use Rattle.rp_base.specs.declared.BadKey.{BadKey}
use Rattle.rp_base.specs.declared.BadText.{BadText}
use Rattle.rp_base.specs.declared.CmdId.{CmdId}
use Rattle.rp_base.specs.declared.NumberFault.{NumberFault}
use Rattle.rp_base.specs.declared.Value.{Value}
use Rattle.rp_base.specs.declared.Value.TheVariants.{Number, Text}
use Rattle.rp_reread.specs.Pieces.{is_shortest}
use Rattle.rp_reread.specs.declared.faults.NotRead.{NotRead}

-- what the words in front say, and the words behind them; none where they are not of the form
abbrev pub Reader : Type 0 → Type 0
Reader A = List (List ℕ) → Option (A × List (List ℕ))

abbrev pub going_on : {A B : Type 0} → Option (A × List (List ℕ)) → (A → Reader B) → Option (B × List (List ℕ))
going_on (Some found) f = f found.0 found.1
going_on None f = None

-- one part, and then those behind it
infixl 10 ◌>>=◌
abbrev pub ◌>>=◌ : {A B : Type 0} → Reader A → (A → Reader B) → Reader B
p >>= f = λ words. going_on (p words) f

-- no word is read
abbrev pub given : {A : Type 0} → A → Reader A
given x = λ words. Some (x, words)

-- the words are not of the form
abbrev pub refused : {A : Type 0} → Reader A
refused = λ words. None

-- what was read so far, if anything
abbrev pub told : {A : Type 0} → Option A → Reader A
told (Some x) = given x
told None = refused

-- one word
unfoldable pub word_at : Reader (List ℕ)
word_at [] = None
word_at (word ∷ words) = Some (word, words)

-- just this word
unfoldable pub just : List ℕ → Reader ⊤
just want = do
  word ← word_at
  if bytes_eq word want then given tt else refused

-- a number up to this one
abbrev pub number_up_to : ℕ → Result ℕ NumberFault → Option ℕ
number_up_to high (Ok n) = if nat_le n high then Some n else None
number_up_to high (Err e) = None

-- its shortest decimal

unfoldable pub number_in : ℕ → List ℕ → Option ℕ
number_in high word = if is_shortest word then number_up_to high (u64_of word) else None

unfoldable pub number_at : ℕ → Reader ℕ
number_at high = do
  word ← word_at
  told (number_in high word)

-- any number of 64 bits
abbrev pub any_number_at : Reader ℕ
any_number_at = number_at (2 ^ 64 - 1)

-- a node
unfoldable pub node_at : Reader ℕ
node_at = do
  n ← number_at 5
  if nat_le 1 n then given n else refused

-- a key
abbrev pub key_told : Result ℕ BadKey → Option ℕ
key_told (Ok key) = Some key
key_told (Err e) = None

unfoldable pub key_in : List ℕ → Option ℕ
key_in word = key_told (key_of word)

unfoldable pub key_at : Reader ℕ
key_at = do
  word ← word_at
  told (key_in word)

-- a value: behind an apostrophe the bytes of a text, else a number
abbrev pub text_told : Result (List ℕ) BadText → Option Value
text_told (Ok text) = Some (Text text)
text_told (Err e) = None

abbrev pub as_number : Option ℕ → Option Value
as_number (Some n) = Some (Number n)
as_number None = None

unfoldable pub value_in : List ℕ → Option Value
value_in [] = as_number (number_in (2 ^ 64 - 1) [])
value_in (b ∷ bytes) = if b == 39 then text_told (text_of bytes) else as_number (number_in (2 ^ 64 - 1) (b ∷ bytes))

unfoldable pub value_at : Reader Value
value_at = do
  word ← word_at
  told (value_in word)

-- a value, or the word that there is none
unfoldable pub option_at : Reader (Option Value)
option_at = do
  word ← word_at
  if bytes_eq word (codes "none") then given None else (do
    value ← told (value_in word)
    given (Some value))

-- a bound: `^`, `~`, or a key
unfoldable pub bound_in : List ℕ → Option ℕ
bound_in word = if bytes_eq word (codes "^") then Some 0
    else (if bytes_eq word (codes "~") then Some (2 ^ 128 - 1) else key_in word)

unfoldable pub bound_at : Reader ℕ
bound_at = do
  word ← word_at
  told (bound_in word)

-- the client and the command's number, with a dot between
abbrev pub in_front : List ℕ → ℕ → Option ℕ
in_front word dot = number_in (2 ^ 16 - 1) (take dot word)

abbrev pub behind : List ℕ → ℕ → Option ℕ
behind word dot = number_in (2 ^ 32 - 1) (drop (dot + 1) word)

abbrev pub named : List ℕ → Option ℕ → Option (ℕ × ℕ)
named word (Some dot) = option_and_then (λ client. option_map (λ seq. (client, seq)) (behind word dot)) (in_front word dot)
named word None = None

unfoldable pub command_in : List ℕ → Option (ℕ × ℕ)
command_in word = named word (position (λ b. b == 46) word)

-- an attempt of a command
unfoldable pub attempt_at : Reader CmdId
attempt_at = do
  word ← word_at
  command ← told (command_in word)
  attempt ← number_at (2 ^ 16 - 1)
  given (record { client = command.0; seq = command.1; attempt = attempt })

-- what is read is what is meant
abbrev pub Reads : {A : Type 0} → Result A NotRead → List (List ℕ) → Option (A × List (List ℕ)) → Type 0
Reads (Ok x) left r = r ≡ Some (x, left)
Reads (Err e) left r = r ≡ None

abbrev pub Tells : {A : Type 0} → Result A NotRead → Option A → Type 0
Tells (Ok x) r = r ≡ Some x
Tells (Err e) r = r ≡ None

-- all words were read
abbrev pub all_read : {A : Type 0} → Option (A × List (List ℕ)) → Option A
all_read (Some (x, [])) = Some x
all_read (Some (x, word ∷ words)) = None
all_read None = None
