-- The latest attempt of each command, and its outcome (this project).
use Rattle.std.specs.Prelude.{◌≡◌, ℕ, ◌<◌, Bool, true, ◌&&◌, ◌==◌, nat_lt, if◌then◌else◌, List, Option, None, Some}
use Rattle.std.specs.Map.{lookup}
use Rattle.std.specs.Option.{option_map, option_map_or}
use Rattle.rp_base.specs.Ids.{same_id}
use Rattle.rp_base.specs.declared.ids.CmdId.{CmdId}
use Rattle.rp_request.specs.declared.outcomes.Outcome.{Outcome}
use Rattle.rp_request.specs.declared.outcomes.Outcome.TheVariants as outcomes
use Rattle.rp_events.specs.declared.answers.EventAnswer.{EventAnswer}
use Rattle.rp_events.specs.declared.answers.EventAnswer.TheVariants as answers
use Rattle.rp_events.specs.declared.journals.JournalEntry.{JournalEntry}
use Rattle.rp_events.specs.declared.journals.PastEvent.{PastEvent}
use Rattle.rp_events.specs.declared.journals.PastEvent.TheVariants.{Admit}
use Rattle.rp_events.specs.Worlds.{World, outcome_of}
use Rattle.rp_clients.specs.Tries.{id_of}
use Rattle.rp_race.specs.Ends.{latest_attempt}
use Rattle.rp_racelines.specs.declared.attempts.Command.{Command}
use Rattle.rp_racelines.specs.declared.attempts.Latest.{Latest}
use Rattle.rp_racelines.specs.declared.attempts.Latest.TheVariants.{Attempt}
use Rattle.rp_racelines.specs.declared.attempts.Told.{Told}
use Rattle.rp_racelines.specs.declared.attempts.Told.TheVariants.{End}

-- the command with this number of this client
abbrev pub is_command : (client seq : ℕ) → Command → Bool
is_command client seq c = client == c.client && seq == c.seq

-- no journal names an attempt of the command
abbrev pub IsUntried : World → (client seq : ℕ) → Type 0
IsUntried w client seq = (attempt : ℕ) → outcome_of w (id_of client seq attempt) ≡ None

-- this attempt of the command is its latest one, and ended so
pub record IsLast (w : World) (client seq attempt : ℕ) (outcome : Outcome) : Type 0 where
  pub latest : latest_attempt w client seq ≡ attempt
  pub ended : outcome_of w (id_of client seq attempt) ≡ Some outcome
  pub none_behind : (later : ℕ) → attempt < later → outcome_of w (id_of client seq later) ≡ None

-- what is known of a command's latest attempt is so; where nothing is known there was none
abbrev pub IsLatest : World → (client seq : ℕ) → Option Latest → Type 0
IsLatest w client seq None = (latest_attempt w client seq ≡ 0) × IsUntried w client seq
IsLatest w client seq (Some (Attempt attempt outcome)) = IsLast w client seq attempt outcome

-- and so it is of each command
abbrev pub AreLatest : World → List (Command × Latest) → Type 0
AreLatest w known = (client seq : ℕ) → IsLatest w client seq (lookup (is_command client seq) known)

-- an attempt is later than what is known of its command
abbrev pub is_later : (attempt : ℕ) → Option Latest → Bool
is_later attempt None = true
is_later attempt (Some (Attempt known outcome)) = nat_lt known attempt

-- an attempt is noted in what is known of a command
abbrev pub noted : CmdId → Outcome → (client seq : ℕ) → Option Latest → Option Latest
noted id outcome client seq known =
    if (id.client == client && id.seq == seq) && is_later id.attempt known
    then Some (Attempt id.attempt outcome)
    else known

-- what is told of an attempt
abbrev pub outcome_in : Told → Outcome
outcome_in (End outcome) = outcome

abbrev pub told_in : List (CmdId × Told) → CmdId → Option Outcome
told_in ends id = option_map outcome_in (lookup (same_id id) ends)

-- how an attempt ended: by its admission's answer, or as its node tells
abbrev pub ended_by : EventAnswer → Option Outcome → Outcome
ended_by (answers.Refused refusal) told = outcomes.Refused refusal
ended_by _ told = option_map_or (λ outcome. outcome) told outcomes.Pending

-- what was told first stays
abbrev pub told_first : Option Outcome → (is : Bool) → Outcome → Option Outcome
told_first None is outcome = if is then Some outcome else None
told_first (Some first) is outcome = Some first

-- the attempt that an entry names is noted, by what is told of how attempts ended
abbrev pub noted_event : EventAnswer → (CmdId → Option Outcome) → (client seq : ℕ) → Option Latest → PastEvent → Option Latest
noted_event answer told client seq known (Admit range id place) =
    noted id (ended_by answer (told id)) client seq known
noted_event answer told client seq known _ = known

abbrev pub noted_entry : JournalEntry → (CmdId → Option Outcome) → (client seq : ℕ) → Option Latest → Option Latest
noted_entry e told client seq known = noted_event e.answer told client seq known e.event
