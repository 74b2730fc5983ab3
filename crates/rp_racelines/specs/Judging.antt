-- How a race is judged, step by step (this project).
use Rattle.std.specs.Prelude.{ℕ, Bool, true, false, not, ◌||◌, nat_le, List, fold, map}
use Rattle.rp_request.specs.declared.notes.ReplyLine.{ReplyLine}
use Rattle.rp_request.specs.declared.outcomes.End.{End}
use Rattle.rp_request.specs.declared.outcomes.End.TheVariants.{Outcome, Tries, Unsent}
use Rattle.rp_events.specs.declared.journals.JournalEntry.{JournalEntry}
use Rattle.rp_events.specs.declared.journals.PastEvent.{PastEvent}
use Rattle.rp_events.specs.declared.journals.PastEvent.TheVariants.{Admit, Round}
use Rattle.rp_events.specs.Nodes.{Node}
use Rattle.rp_race.specs.Ends.{goes_on, has_live}

-- a command is open by its reply line
abbrev pub is_open_end : (attempt : ℕ) → End → Bool
is_open_end attempt (Outcome outcome) = goes_on attempt outcome
is_open_end attempt (Tries last) = false
is_open_end attempt Unsent = true

abbrev pub is_open_line : ReplyLine → Bool
is_open_line line = is_open_end line.attempt line.end

-- a node without a live replica, or with so many rounds
abbrev pub has_rounds : (rounds : ℕ) → Node → Bool
has_rounds rounds n = not (has_live n) || nat_le rounds n.rounds

-- a node is between two rounds behind an event, where this says whether it was before
abbrev pub whole_after : Bool → PastEvent → Bool
whole_after whole (Admit range id place) = whole
whole_after whole (Round sent) = true
whole_after whole _ = false

-- and it is between two rounds behind these events
abbrev pub whole_behind : List PastEvent → Bool
whole_behind events = fold whole_after true events

abbrev pub ends_whole : List JournalEntry → Bool
ends_whole journal = whole_behind (map (λ e. e.event) journal)
