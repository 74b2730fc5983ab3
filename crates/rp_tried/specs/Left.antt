-- How a client leaves a command, beside what the world tells of it (this project).
use Rattle.std.specs.Prelude.{◌≡◌, ℕ, ◌<◌, Option, None, Some}
use Rattle.rp_request.specs.declared.outcomes.Outcome.{Outcome}
use Rattle.rp_request.specs.declared.outcomes.Outcome.TheVariants.{Success, Refused, Ambiguous, Pending}
use Rattle.rp_request.specs.declared.outcomes.End.{End}
use Rattle.rp_request.specs.declared.outcomes.End.TheVariants as ends
use Rattle.rp_clients.specs.declared.finals.CommandEnd.{CommandEnd}
use Rattle.rp_clients.specs.Tries.{most_tries, id_of}
use Rattle.rp_events.specs.Worlds.{World, outcome_of}
use Rattle.rp_race.specs.Ends.{latest_attempt}

-- What the world tells of the attempt with this number, by how the client left its command. An end that the
-- client learnt is the one that is told; as many refusals as there may be tries are those of the last try. Where
-- it learnt none the attempt was made, and may have ended since. A command that was never sent was not asked.
abbrev pub IsTold : (attempt : ℕ) → Option Outcome → End → Type 0
IsTold attempt told ends.Unsent = told ≡ None
IsTold attempt told (ends.Tries refusal) = (attempt ≡ most_tries) × (told ≡ Some (Refused refusal))
IsTold attempt told (ends.Outcome Pending) = (outcome : Outcome) × (told ≡ Some outcome)
IsTold attempt told (ends.Outcome (Refused refusal)) = (attempt < most_tries) × (told ≡ Some (Refused refusal))
IsTold attempt told (ends.Outcome (Success reply)) = told ≡ Some (Success reply)
IsTold attempt told (ends.Outcome (Ambiguous why)) = told ≡ Some (Ambiguous why)

-- it left the command with its latest attempt in the journals, 0 where they have none, and with what is told of that
pub record IsLeftSo (w : World) (client seq : ℕ) (left : CommandEnd) : Type 0 where
  pub latest : left.attempt ≡ latest_attempt w client seq
  pub told : IsTold left.attempt (outcome_of w (id_of client seq left.attempt)) left.end
