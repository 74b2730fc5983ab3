-- The reply lines of a race (this project's report).
use Rattle.std.specs.Prelude.{ℕ, List, map, Option, None, Some}
use Rattle.rp_request.specs.declared.notes.ReplyLine.{ReplyLine}
use Rattle.rp_request.specs.declared.outcomes.Outcome.{Outcome}
use Rattle.rp_request.specs.declared.outcomes.End.TheVariants as ends
use Rattle.rp_events.specs.Worlds.{World, outcome_of}
use Rattle.rp_clients.specs.Finals.{end_by}
use Rattle.rp_clients.specs.Tries.{id_of}
use Rattle.rp_race.specs.declared.rules.RaceRules.{RaceRules}
use Rattle.rp_race.specs.Ends.{Command, commands_of, latest_attempt}
use Rattle.rp_racelines.specs.declared.attempts.Latest.{Latest}
use Rattle.rp_racelines.specs.declared.attempts.Latest.TheVariants.{Attempt}

-- the line of a command by its latest attempt and the outcome of that: unsent where no journal names an attempt, and
-- where the last try that a command may have was refused, the tries have ended so
abbrev pub line_by : (client seq attempt : ℕ) → Option Outcome → ReplyLine
line_by client seq attempt None =
    record { client = client; seq = seq; attempt = 0; end = ends.Unsent }
line_by client seq attempt (Some outcome) =
    record { client = client; seq = seq; attempt = attempt; end = end_by attempt (Some outcome) }

abbrev pub reply_line : World → (client seq : ℕ) → ReplyLine
reply_line w client seq =
    line_by client seq (latest_attempt w client seq)
    (outcome_of w (id_of client seq (latest_attempt w client seq)))

-- one line for each command of the script, by client and number
abbrev pub race_replies : RaceRules → World → List ReplyLine
race_replies rules w = map (λ (c : Command). reply_line w c.client c.seq) (commands_of rules)

-- the same line by what is known of the latest attempt
abbrev pub line_of : (client seq : ℕ) → Option Latest → ReplyLine
line_of client seq None = line_by client seq 0 None
line_of client seq (Some (Attempt attempt outcome)) = line_by client seq attempt (Some outcome)
