-- The words of a generated script.
use Rattle.std.specs.Prelude.{ℕ, nat_lt, if◌then◌else◌, List, [], ◌∷◌, ◌++◌, codes}
use Rattle.std.specs.Fmt.{decimal}

-- the end of a line
abbrev pub newline : List ℕ
newline = 10 ∷ []

-- what makes a number below 1000 three digits
abbrev pub zeros_before : ℕ → List ℕ
zeros_before n = if nat_lt n 10 then codes "00" else (if nat_lt n 100 then codes "0" else [])

-- the key of a number below 1000: `k` and three digits
abbrev pub key_word : ℕ → List ℕ
key_word n = codes "k" ++ zeros_before n ++ decimal n

-- so many rounds in which all that waits is carried on
abbrev pub settle_line : ℕ → List ℕ
settle_line rounds = codes "settle " ++ decimal rounds ++ newline

-- a command at a node and a range, by a client, up to its request
abbrev pub send_words : (node range client : ℕ) → List ℕ
send_words node range client =
    codes "send " ++ decimal node ++ codes " " ++ decimal range ++ codes " " ++ decimal client ++ codes " "

-- a split at a key, and enough rounds before and after it
abbrev pub split_lines : (node range key : ℕ) → List ℕ
split_lines node range key =
    settle_line 30 ++ send_words node range 1 ++ codes "split " ++ key_word key ++ newline
    ++ settle_line 30

-- a lease that goes to another node, and enough rounds after it
abbrev pub transfer_lines : (node range to : ℕ) → List ℕ
transfer_lines node range to =
    codes "transfer " ++ decimal node ++ codes " " ++ decimal range ++ codes " " ++ decimal to
    ++ newline ++ settle_line 30

-- a request on a key with one number: the words before the key, between them and behind
abbrev pub keyed_words : (verb : List ℕ) (key : ℕ) (between : List ℕ) (number : ℕ) → List ℕ
keyed_words verb key between number = verb ++ key_word key ++ between ++ decimal number

-- an amount that moves from a key to another
abbrev pub move_words : (from to by : ℕ) → List ℕ
move_words from to by =
    codes "move " ++ key_word from ++ codes " " ++ key_word to ++ codes " " ++ decimal by
