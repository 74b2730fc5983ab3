-- The summary: how many there are of what the report has a line for.
use Rattle.std.specs.Prelude.{ℕ, ◌==◌, ◌&&◌, Bool, true, false, List, ◌++◌, length, map, sum_by, count_by, codes}
use Rattle.std.specs.Set.{distinct_count}
use Rattle.rp_request.specs.declared.outcomes.Outcome.TheVariants.{Success, Refused, Ambiguous, Pending}
use Rattle.rp_request.specs.declared.outcomes.End.{End}
use Rattle.rp_request.specs.declared.outcomes.End.TheVariants as ends
use Rattle.rp_request.specs.declared.items.Record.{Record}
use Rattle.rp_request.specs.declared.items.Record.TheVariants.{Took, Passed}
use Rattle.rp_request.specs.declared.notes.ReplyLine.{ReplyLine}
use Rattle.rp_report.specs.declared.views.RangeView.{RangeView}
use Rattle.rp_report.specs.declared.views.View.{View}
use Rattle.rp_report.specs.Words.{newline, spaced}

-- the command that an answer names: its client, and its number among the client's commands
abbrev pub command_of : ReplyLine → ℕ × ℕ
command_of answer = (answer.client, answer.seq)

abbrev pub same_command : ℕ × ℕ → ℕ × ℕ → Bool
same_command a b = a.0 == b.0 && a.1 == b.1

-- how many different commands the answers name
abbrev pub commands_among : List ReplyLine → ℕ
commands_among answers = distinct_count same_command (map command_of answers)

-- the attempt took effect
abbrev pub is_success : End → Bool
is_success (ends.Outcome (Success reply)) = true
is_success _ = false

-- the attempt was refused, or the command's tries ended
abbrev pub is_refused : End → Bool
is_refused (ends.Outcome (Refused refusal)) = true
is_refused (ends.Tries last) = true
is_refused _ = false

-- nobody can tell
abbrev pub is_ambiguous : End → Bool
is_ambiguous (ends.Outcome (Ambiguous ambiguity)) = true
is_ambiguous _ = false

-- the attempt has not ended, or the command was never sent
abbrev pub is_pending : End → Bool
is_pending (ends.Outcome Pending) = true
is_pending ends.Unsent = true
is_pending _ = false

-- how many answers end so
abbrev pub ending : (End → Bool) → List ReplyLine → ℕ
ending p answers = count_by (λ a. p a.end) answers

-- an entry took effect
abbrev pub is_place : Record → Bool
is_place (Took item) = true
is_place (Passed why) = false

-- an entry was passed over
abbrev pub is_pass : Record → Bool
is_pass (Took item) = false
is_pass (Passed why) = true

-- how many records of all ranges are of this kind
abbrev pub records_in : (Record → Bool) → List RangeView → ℕ
records_in p ranges = sum_by (λ r. count_by p r.records) ranges

abbrev pub count_line : List ℕ → ℕ → List ℕ
count_line word n = word ++ spaced n ++ newline

-- how the attempts ended
abbrev pub ending_lines : List ReplyLine → List ℕ
ending_lines answers =
    count_line (codes "ok") (ending is_success answers)
    ++ count_line (codes "refused") (ending is_refused answers)
    ++ count_line (codes "ambiguous") (ending is_ambiguous answers)
    ++ count_line (codes "pending") (ending is_pending answers)

-- the commands and their attempts, each line of a reply being one attempt
abbrev pub answer_counts : List ReplyLine → List ℕ
answer_counts answers =
    count_line (codes "commands") (commands_among answers)
    ++ count_line (codes "attempts") (length answers) ++ ending_lines answers

-- the ranges and the records in them
abbrev pub range_counts : List RangeView → List ℕ
range_counts ranges =
    count_line (codes "ranges") (length ranges)
    ++ count_line (codes "places") (records_in is_place ranges)
    ++ count_line (codes "passed") (records_in is_pass ranges)

-- the ten lines
abbrev pub summary : View → List ℕ
summary view =
    answer_counts view.replies ++ range_counts view.ranges
    ++ count_line (codes "messages") view.messages
