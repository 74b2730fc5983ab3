-- How a node keeps its journal: the events, and the answers that are not `Done` by the places of their events.
use Rattle.std.specs.Prelude.{ℕ, ◌+◌, ◌≤◌, Bool, true, false, nat_eq, is_some, if◌then◌else◌, List, [], ◌∷◌, ◌++◌, IsFalse}
use Rattle.std.specs.Map.{lookup}
use Rattle.std.specs.Option.{option_map_or}
use Rattle.rp_events.specs.declared.answers.EventAnswer.{EventAnswer}
use Rattle.rp_events.specs.declared.answers.EventAnswer.TheVariants as answers
use Rattle.rp_events.specs.declared.journals.JournalEntry.{JournalEntry}
use Rattle.rp_events.specs.declared.journals.PastEvent.{PastEvent}
use Rattle.rp_node.specs.declared.journals.Noted.{Noted}
use Rattle.rp_node.specs.declared.journals.Noted.TheVariants.{Answer}

-- answers by the places of their events
abbrev pub Told : Type 0
Told = List (ℕ × Noted)

-- the answer that is kept
abbrev pub answer_in : Noted → EventAnswer
answer_in (Answer answer) = answer

-- the answer of the event at a place; it is `Done` where none is kept
abbrev pub answer_at : Told → (place : ℕ) → EventAnswer
answer_at told place = option_map_or answer_in (lookup (nat_eq place) told) answers.Done

-- events with their answers, from this place on
abbrev pub entries_from : Told → (place : ℕ) → List PastEvent → List JournalEntry
entries_from told place [] = []
entries_from told place (e ∷ es) =
    record { event = e; answer = answer_at told place } ∷ entries_from told (place + 1) es

-- answers are kept for so many events alone
abbrev pub AreOf : (count : ℕ) → Told → Type 0
AreOf count told = (place : ℕ) → count ≤ place → IsFalse (is_some (lookup (nat_eq place) told))

-- an event was done, and no more is told
abbrev pub is_done : EventAnswer → Bool
is_done answers.Done = true
is_done _ = false

-- an answer is kept for a place, unless it is `Done`
abbrev pub told_more : Told → (place : ℕ) → EventAnswer → Told
told_more told place answer = if is_done answer then told else told ++ (place, Answer answer) ∷ []
