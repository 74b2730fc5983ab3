-- What each word of a line must be.
use Rattle.std.specs.Prelude.{ℕ, ◌^◌, ◌-◌, List, [], ◌∷◌, get_or, drop}
use Rattle.rp_base.specs.Numbers.{number_of}
use Rattle.rp_base.specs.ClientCounts.{count_of}
use Rattle.rp_script.specs.Keywords.{request_word_of}
use Rattle.rp_script.specs.declared.keywords.Keyword.{Keyword}
use Rattle.rp_script.specs.declared.keywords.Keyword.TheVariants as keywords
use Rattle.rp_script.specs.declared.keywords.RequestWord.{RequestWord}
use Rattle.rp_script.specs.declared.keywords.RequestWord.TheVariants as requests

-- what a word must be: a number from one to another; the number of one of so many commands; a key; a value; `none` or a value; the end of a span
-- that begins with the key of a word; the first word of a request
pub data Wanted : Type 0 where
  Number : (low high : ℕ) → Wanted
  CommandNumber : (count : ℕ) → Wanted
  KeyName : Wanted
  ValueWord : Wanted
  Expected : Wanted
  EndFrom : (start : List ℕ) → Wanted
  RequestName : Wanted

-- a node of the cluster, a range, a client, a count of ticks or rounds, any number of 64 bits
abbrev pub node : ℕ → Wanted
node nodes = Number 1 nodes

abbrev pub range : Wanted
range = Number 0 7

abbrev pub client : Wanted
client = Number 1 64

abbrev pub turns : Wanted
turns = Number 1 10000

abbrev pub any_number : Wanted
any_number = Number 0 (2 ^ 64 - 1)

-- a command of the client that this word names, given how many commands each client has
abbrev pub command_of : List ℕ → List ℕ → Wanted
command_of commands word = CommandNumber (count_of commands (number_of word))

-- one of these words, counted from 0
abbrev pub nth : ℕ → List (List ℕ) → List ℕ
nth n words = get_or words n []

-- the words behind the first one of a request
abbrev pub request_wants : RequestWord → List (List ℕ) → List Wanted
request_wants requests.Put words = KeyName ∷ ValueWord ∷ []
request_wants requests.Add words = KeyName ∷ any_number ∷ []
request_wants requests.CPut words = KeyName ∷ Expected ∷ ValueWord ∷ []
request_wants requests.Del words = KeyName ∷ []
request_wants requests.Wipe words = KeyName ∷ EndFrom (nth 0 words) ∷ []
request_wants requests.Move words = KeyName ∷ KeyName ∷ any_number ∷ []
request_wants requests.Split words = KeyName ∷ []
request_wants requests.Unknown words = []

-- the words of a request
abbrev pub request : List (List ℕ) → List Wanted
request words = RequestName ∷ request_wants (request_word_of (nth 0 words)) (drop 1 words)

-- the words behind the first one of a line, in a cluster of so many nodes, where each client has so many commands
abbrev pub wants : Keyword → ℕ → List ℕ → List (List ℕ) → List Wanted
wants keywords.Cluster nodes commands words = Number 1 5 ∷ []
wants keywords.Send nodes commands words = node nodes ∷ range ∷ client ∷ request (drop 3 words)
wants keywords.Admit nodes commands words = node nodes ∷ range ∷ client ∷ request (drop 3 words)
wants keywords.Again nodes commands words = node nodes ∷ range ∷ client ∷ command_of commands (nth 2 words) ∷ []
wants keywords.Draw nodes commands words = client ∷ command_of commands (nth 0 words) ∷ []
wants keywords.Publish nodes commands words = client ∷ command_of commands (nth 0 words) ∷ []
wants keywords.Ask nodes commands words = node nodes ∷ range ∷ []
wants keywords.Transfer nodes commands words = node nodes ∷ range ∷ node nodes ∷ []
wants keywords.Flush nodes commands words = node nodes ∷ range ∷ []
wants keywords.Apply nodes commands words = node nodes ∷ range ∷ []
wants keywords.Cut nodes commands words = node nodes ∷ range ∷ []
wants keywords.Remove nodes commands words = node nodes ∷ range ∷ []
wants keywords.Restart nodes commands words = node nodes ∷ []
wants keywords.Tick nodes commands words = node nodes ∷ turns ∷ []
wants keywords.Deliver nodes commands words = node nodes ∷ Number 1 (2 ^ 64 - 1) ∷ []
wants keywords.Peek nodes commands words = node nodes ∷ range ∷ KeyName ∷ []
wants keywords.Loss nodes commands words = Number 0 50 ∷ any_number ∷ []
wants keywords.Settle nodes commands words = turns ∷ []
wants keywords.End nodes commands words = []
wants keywords.Unknown nodes commands words = []
