-- What is known of a script between two lines, and what a line says then.
use Rattle.std.specs.Prelude.{ℕ, ◌+◌, ◌-◌, ◌&&◌, ◌==◌, not, nat_lt, nat_le, Bool, true, false, List, [], ◌∷◌, length, replicate, Option, Some, None, Result, Ok, Err, slice_index, slice_set, codes, if◌then◌else◌}
use Rattle.std.specs.List.{list_any, position_from}
use Rattle.std.specs.Str.{bytes_eq}
use Rattle.rp_base.specs.ClientCounts.{no_counts, one_more_of}
use Rattle.rp_base.specs.declared.Which.{Which}
use Rattle.rp_base.specs.declared.Which.TheVariants.{Lines, LineBytes, Commands}
use Rattle.rp_request.specs.Words.{words_of}
use Rattle.rp_script.specs.Keywords.{keyword_of, is_barred_in_race}
use Rattle.rp_script.specs.Readers.{bad}
use Rattle.rp_script.specs.Forms.{cluster, form}
use Rattle.rp_script.specs.declared.faults.BadWord.{BadWord}
use Rattle.rp_script.specs.declared.faults.Excess.{Excess}
use Rattle.rp_script.specs.declared.faults.LineFault.{LineFault}
use Rattle.rp_script.specs.declared.faults.LineFault.TheVariants.{Refused, TooMany}
use Rattle.rp_script.specs.declared.faults.ScriptFault.{ScriptFault}
use Rattle.rp_script.specs.declared.faults.ScriptFault.TheVariants as faults
use Rattle.rp_script.specs.declared.faults.LineKind.{LineKind}
use Rattle.rp_script.specs.declared.faults.LineKind.TheVariants as kinds
use Rattle.rp_script.specs.declared.keywords.Keyword.{Keyword}
use Rattle.rp_script.specs.declared.keywords.Keyword.TheVariants as keywords
use Rattle.rp_script.specs.declared.lines.ScriptLine.{ScriptLine}
use Rattle.rp_script.specs.declared.lines.ScriptLine.TheVariants as lines

-- whether the script is a race's, how many lines were taken and how many of them send, the nodes that a line `cluster` named,
-- whether a line `end` came, and how many commands each client has
pub record Seen : Type 0 where
  pub race : Bool
  pub lines : ℕ
  pub sends : ℕ
  pub nodes : Option ℕ
  pub ended : Bool
  pub commands : List ℕ

-- before the first line
abbrev pub unseen : Bool → Seen
unseen race = record { race = race; lines = 0; sends = 0; nodes = None; ended = false; commands = no_counts }

-- the first word is `send`
abbrev pub begins_send : List (List ℕ) → Bool
begins_send [] = false
begins_send (first ∷ words) = bytes_eq first (codes "send")

-- a limit is passed by this count
abbrev pub excess : Which → ℕ → Option Excess
excess which count = Some (record { which = which; count = count })

-- the limit that the line passes: 65,536 lines, 256 bytes of a line, 4,096 lines of a race that send
unfoldable pub limit_of : Seen → List ℕ → Option Excess
limit_of s line =
    if s.lines == 65536 then excess Lines 65537
    else (if nat_lt 256 (length line) then excess LineBytes 257
    else (if s.race && s.sends == 4096 && begins_send (words_of line) then excess Commands 4097
    else None))

-- a byte outside 32 to 126
abbrev pub is_bad_byte : ℕ → Bool
is_bad_byte b = not (nat_le 32 b && nat_le b 126)

abbrev pub has_bad_byte : List ℕ → Bool
has_bad_byte word = list_any is_bad_byte word

-- the first word with such a byte, from 1
unfoldable pub bad_byte_of : List (List ℕ) → Option ℕ
bad_byte_of words = position_from has_bad_byte 1 words

-- `#` begins a comment
abbrev pub begins_comment : List ℕ → Bool
begins_comment [] = false
begins_comment (b ∷ bytes) = b == 35

-- the first line is `cluster`
abbrev pub first_line : Keyword → List (List ℕ) → Result ScriptLine BadWord
first_line keywords.Cluster words = cluster words
first_line _ words = bad 1 kinds.NoCluster

-- a later line is none, comes before `end`, and is one that a race may have
abbrev pub later_line : Seen → ℕ → Keyword → List (List ℕ) → Result ScriptLine BadWord
later_line s nodes keywords.Cluster words = bad 1 kinds.SecondCluster
later_line s nodes k words =
    if s.ended then bad 1 kinds.AfterEnd
    else (if s.race && is_barred_in_race k then bad 1 kinds.NotInRace
    else form k nodes s.commands words)

abbrev pub placed_by : Option ℕ → Seen → Keyword → List (List ℕ) → Result ScriptLine BadWord
placed_by None s k words = first_line k words
placed_by (Some nodes) s k words = later_line s nodes k words

-- a line that begins so, with these words behind: the rules on `cluster` and `end`, then the words
unfoldable pub placed : Seen → Keyword → List (List ℕ) → Result ScriptLine BadWord
placed s k words = placed_by s.nodes s k words

-- a skipped line says nothing, and a bad byte in it is at no word
abbrev pub skipped : Option ℕ → Result (Option ScriptLine) BadWord
skipped None = Ok None
skipped (Some at) = bad 0 kinds.BadByte

-- a bad byte comes before all else
abbrev pub unless_bad : Option ℕ → Result ScriptLine BadWord → Result (Option ScriptLine) BadWord
unless_bad (Some at) r = bad at kinds.BadByte
unless_bad None (Ok line) = Ok (Some line)
unless_bad None (Err e) = Err e

-- what the words of a line say; without words, or behind `#`, nothing
unfoldable pub said : Seen → List (List ℕ) → Result (Option ScriptLine) BadWord
said s [] = Ok None
said s (first ∷ words) =
    if begins_comment first then skipped (bad_byte_of (first ∷ words))
    else unless_bad (bad_byte_of (first ∷ words)) (placed s (keyword_of first) words)

-- a refusal of line k
abbrev pub at_line : ℕ → Result (Option ScriptLine) BadWord → Result (Option ScriptLine) ScriptFault
at_line k (Ok line) = Ok line
at_line k (Err e) = Err (faults.Refused k e.word e.kind)

abbrev pub unless_limited : Option Excess → Result (Option ScriptLine) ScriptFault → Result (Option ScriptLine) ScriptFault
unless_limited (Some x) r = Err (faults.Limit x.which x.count)
unless_limited None r = r

-- what the next line says: a limit comes before a refusal
unfoldable pub judged : Seen → List ℕ → Result (Option ScriptLine) ScriptFault
judged s line = unless_limited (limit_of s line) (at_line (s.lines + 1) (said s (words_of line)))

-- the same fault where the line is known
abbrev pub line_fault : ScriptFault → LineFault
line_fault (faults.Refused line word kind) = Refused word kind
line_fault (faults.Limit which count) = TooMany count

abbrev pub of_line : Result (Option ScriptLine) ScriptFault → Result (Option ScriptLine) LineFault
of_line (Ok line) = Ok line
of_line (Err fault) = Err (line_fault fault)

-- the answer to the next line
abbrev pub answer_of : Seen → List ℕ → Result (Option ScriptLine) LineFault
answer_of s line = of_line (judged s line)

abbrev pub one_more : Seen → Seen
one_more s = record s { lines = s.lines + 1 }

-- what is known behind a line
abbrev pub after : Seen → Option ScriptLine → Seen
after s None = one_more s
after s (Some (lines.Cluster nodes)) = record (one_more s) { nodes = Some nodes }
after s (Some (lines.Send node range client request)) =
    record s { lines = s.lines + 1; sends = s.sends + 1; commands = one_more_of s.commands client }
after s (Some (lines.Admit node range client request)) = record s { lines = s.lines + 1; commands = one_more_of s.commands client }
after s (Some lines.End) = record (one_more s) { ended = true }
after s (Some _) = one_more s

-- a refusal changes nothing
abbrev pub left : Seen → Result (Option ScriptLine) LineFault → Seen
left s (Ok line) = after s line
left s (Err e) = s

-- what is missing where the source ends
abbrev pub unended_by : Option ℕ → Bool → Option LineKind
unended_by None ended = Some kinds.NoCluster
unended_by (Some nodes) ended = if ended then None else Some kinds.NoEnd

abbrev pub unended : Seen → Option LineKind
unended s = unended_by s.nodes s.ended
