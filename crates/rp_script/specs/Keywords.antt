-- What the first word of a line, and of a request, says.
use Rattle.std.specs.Prelude.{ℕ, Bool, true, false, List, codes, if◌then◌else◌}
use Rattle.std.specs.Str.{bytes_eq}
use Rattle.rp_script.specs.declared.keywords.Keyword.{Keyword}
use Rattle.rp_script.specs.declared.keywords.Keyword.TheVariants as keywords
use Rattle.rp_script.specs.declared.keywords.RequestWord.{RequestWord}
use Rattle.rp_script.specs.declared.keywords.RequestWord.TheVariants as requests

-- the words that begin a line of a node or of the network
unfoldable pub world_keyword_of : List ℕ → Keyword
world_keyword_of word =
    if bytes_eq word (codes "flush") then keywords.Flush
    else (if bytes_eq word (codes "apply") then keywords.Apply
    else (if bytes_eq word (codes "cut") then keywords.Cut
    else (if bytes_eq word (codes "remove") then keywords.Remove
    else (if bytes_eq word (codes "restart") then keywords.Restart
    else (if bytes_eq word (codes "tick") then keywords.Tick
    else (if bytes_eq word (codes "deliver") then keywords.Deliver
    else (if bytes_eq word (codes "peek") then keywords.Peek
    else (if bytes_eq word (codes "loss") then keywords.Loss
    else (if bytes_eq word (codes "settle") then keywords.Settle
    else keywords.Unknown)))))))))

-- the words that begin a line
unfoldable pub keyword_of : List ℕ → Keyword
keyword_of word =
    if bytes_eq word (codes "cluster") then keywords.Cluster
    else (if bytes_eq word (codes "send") then keywords.Send
    else (if bytes_eq word (codes "admit") then keywords.Admit
    else (if bytes_eq word (codes "again") then keywords.Again
    else (if bytes_eq word (codes "draw") then keywords.Draw
    else (if bytes_eq word (codes "publish") then keywords.Publish
    else (if bytes_eq word (codes "ask") then keywords.Ask
    else (if bytes_eq word (codes "transfer") then keywords.Transfer
    else (if bytes_eq word (codes "end") then keywords.End
    else world_keyword_of word))))))))

-- a known word that begins no line of a race
abbrev pub is_barred_in_race : Keyword → Bool
is_barred_in_race keywords.Cluster = false
is_barred_in_race keywords.Send = false
is_barred_in_race keywords.Transfer = false
is_barred_in_race keywords.End = false
is_barred_in_race keywords.Unknown = false
is_barred_in_race _ = true

-- the words that begin a request
unfoldable pub request_word_of : List ℕ → RequestWord
request_word_of word =
    if bytes_eq word (codes "put") then requests.Put
    else (if bytes_eq word (codes "add") then requests.Add
    else (if bytes_eq word (codes "cput") then requests.CPut
    else (if bytes_eq word (codes "del") then requests.Del
    else (if bytes_eq word (codes "wipe") then requests.Wipe
    else (if bytes_eq word (codes "move") then requests.Move
    else (if bytes_eq word (codes "split") then requests.Split
    else requests.Unknown))))))
