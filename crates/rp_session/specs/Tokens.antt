-- The token of a session add: a key of its own, by the key that rises, the client and the number of
-- the add among the client's.
use Rattle.std.specs.Prelude.{ℕ, ◌+◌, ◌/◌, ◌%◌, ◌≤◌, ◌≡◌, ◌==◌, Bool, false, List, [], ◌∷◌, ◌++◌, map, length, codes}
use Rattle.std.specs.List.{list_any}
use Rattle.rp_base.specs.Keys.{key_text, key_number}

-- the digit of a number at a unit: 1, 10, 100, ..
abbrev pub digit_at : (number unit : ℕ) → ℕ
digit_at number unit = 48 + number / unit % 10

abbrev pub two_digits : ℕ → List ℕ
two_digits number = map (digit_at number) (10 ∷ 1 ∷ [])

abbrev pub six_digits : ℕ → List ℕ
six_digits number = map (digit_at number) (100000 ∷ 10000 ∷ 1000 ∷ 100 ∷ 10 ∷ 1 ∷ [])

-- what stands behind the key: a dash, two digits of the client, six of the number
unfoldable pub suffix : (client number : ℕ) → List ℕ
suffix client number = codes "-" ++ two_digits client ++ six_digits number

-- how a token is spelled
abbrev pub token_text : (client number key : ℕ) → List ℕ
token_text client number key = key_text key ++ suffix client number

-- the token, as a key
abbrev pub token_of : (client number key : ℕ) → ℕ
token_of client number key = key_number (token_text client number key)

-- whether a dash stands in the key
abbrev pub has_dash : ℕ → Bool
has_dash key = list_any (λ byte. byte == 45) (key_text key)

-- what a session add may be of: a client from 1 to 32, a number from 1 to 999,999, a key of at most 7
-- bytes without a dash, and a rise by at least 1
pub record IsAdd (client number key by : ℕ) : Type 0 where
  pub from_client_1 : 1 ≤ client
  pub to_client_32 : client ≤ 32
  pub from_number_1 : 1 ≤ number
  pub to_number_999999 : number ≤ 999999
  pub short : length (key_text key) ≤ 7
  pub no_dash : has_dash key ≡ false
  pub some : 1 ≤ by
