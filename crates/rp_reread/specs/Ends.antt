-- How the end of an attempt is read from its text.
use Rattle.std.specs.Prelude.{◌≡◌, ℕ, ◌-◌, ◌^◌, if◌then◌else◌, List, Option, None, Some, codes, ⊤}
use Rattle.std.specs.Str.{bytes_eq}
use Rattle.rp_request.specs.Words.{pieces}
use Rattle.rp_reread.specs.Readers.{Reader, ◌>>=◌, given, refused, all_read, word_at, key_at, option_at, bound_at, number_at, any_number_at, node_at, attempt_at}
use Rattle.rp_reread.specs.Requests.{reply_at}
use Rattle.rp_reread.specs.declared.reports.Ended.{Ended}
use Rattle.rp_reread.specs.declared.reports.Ended.TheVariants as ended

-- another node holds the lease: which, and under which number
unfoldable pub holder : Reader ⊤
holder = do
  node ← node_at
  seq ← any_number_at
  given tt

-- a range that the request does not fit: its number, its bounds, its level
unfoldable pub mismatch : Reader ⊤
mismatch = do
  id ← number_at 7
  start ← bound_at
  end ← bound_at
  level ← number_at 3
  given tt

unfoldable pub latched : Reader ⊤
latched = do
  id ← attempt_at
  given tt

unfoldable pub failed : Reader ⊤
failed = do
  actual ← option_at
  given tt

unfoldable pub of_key : Reader ⊤
of_key = do
  key ← key_at
  given tt

unfoldable pub of_number : Reader ⊤
of_number = do
  n ← any_number_at
  given tt

unfoldable pub of_level : Reader ⊤
of_level = do
  level ← number_at 3
  given tt

unfoldable pub told_by_number : List ℕ → Reader ⊤
told_by_number word = if bytes_eq word (codes "overflow") then of_number
    else (if bytes_eq word (codes "short") then of_number
    else (if bytes_eq word (codes "too-wide") then of_number
    else (if bytes_eq word (codes "not-inside") then given tt
    else (if bytes_eq word (codes "split-limit") then of_level
    else refused))))

-- a refusal, by its first word
unfoldable pub refusal_by : List ℕ → Reader ⊤
refusal_by word = if bytes_eq word (codes "no-replica") then given tt
    else (if bytes_eq word (codes "not-lease-holder") then holder
    else (if bytes_eq word (codes "range-mismatch") then mismatch
    else (if bytes_eq word (codes "latched") then latched
    else (if bytes_eq word (codes "condition-failed") then failed
    else (if bytes_eq word (codes "is-text") then of_key
    else told_by_number word)))))

-- the last of many refusals, or the one
unfoldable pub refusal_at : List ℕ → Reader Ended
refusal_at word = if bytes_eq word (codes "tries")
    then (do
      first ← word_at
      is_refusal ← refusal_by first
      given ended.Refused)
    else (do
      is_refusal ← refusal_by word
      given ended.Refused)

unfoldable pub refused_at : Reader Ended
refused_at = do
  word ← word_at
  refusal_at word

unfoldable pub own_at : Reader Ended
own_at = do
  own ← any_number_at
  given ended.Other

-- why nobody can tell
unfoldable pub ambiguity_by : List ℕ → Reader Ended
ambiguity_by word = if bytes_eq word (codes "snapshot")
    then (do
      own ← any_number_at
      passed ← any_number_at
      given ended.Other)
    else (if bytes_eq word (codes "removed") then own_at
    else (if bytes_eq word (codes "restarted") then own_at
    else refused))

unfoldable pub ambiguous_at : Reader Ended
ambiguous_at = do
  word ← word_at
  ambiguity_by word

unfoldable pub success_at : Reader Ended
success_at = do
  reply ← reply_at
  given (ended.Success reply)

-- how an attempt ended, by its first word
unfoldable pub end_by : List ℕ → Reader Ended
end_by word = if bytes_eq word (codes "ok") then success_at
    else (if bytes_eq word (codes "refused") then refused_at
    else (if bytes_eq word (codes "ambiguous") then ambiguous_at
    else (if bytes_eq word (codes "pending") then given ended.Other
    else (if bytes_eq word (codes "unsent") then given ended.Other
    else refused))))

unfoldable pub end_at : Reader Ended
end_at = do
  word ← word_at
  end_by word

-- the end that a text spells, as far as it is looked at
unfoldable pub end_of : List ℕ → Option Ended
end_of text = all_read (end_at (pieces text))
