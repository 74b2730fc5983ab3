-- How a client leaves its commands (this project).
use Rattle.std.specs.Prelude.{◌≡◌, ℕ, ◌+◌, Bool, true, false, ◌&&◌, ◌==◌, if◌then◌else◌, List, map, length, count_by, Option, None, Some}
use Rattle.std.specs.List.{find, range_with_len}
use Rattle.rp_request.specs.declared.requests.Request.{Request}
use Rattle.rp_request.specs.declared.outcomes.Refusal.{Refusal}
use Rattle.rp_request.specs.declared.outcomes.Outcome.{Outcome}
use Rattle.rp_request.specs.declared.outcomes.Outcome.TheVariants.{Success, Refused, Ambiguous, Pending}
use Rattle.rp_request.specs.declared.outcomes.End.{End}
use Rattle.rp_request.specs.declared.outcomes.End.TheVariants as ends
use Rattle.rp_clients.specs.declared.finals.CommandEnd.{CommandEnd}
use Rattle.rp_clients.specs.Tries.{Try, most_tries, next_id, id_of}

-- the try is one of this command
abbrev pub is_of : (seq : ℕ) → Try → Bool
is_of seq t = t.id.seq == seq

abbrev pub is_refused : Option Outcome → Bool
is_refused None = false
is_refused (Some (Success reply)) = false
is_refused (Some (Refused refusal)) = true
is_refused (Some (Ambiguous why)) = false
is_refused (Some Pending) = false

-- how many tries of a command were refused
abbrev pub refusals : (seq : ℕ) → List Try → ℕ
refusals seq tries = count_by (λ (t : Try). is_of seq t && is_refused t.end) tries

-- after as many refusals as there may be tries the command has ended by them
abbrev pub end_by_refusal : ℕ → Refusal → End
end_by_refusal refused refusal =
    if refused == most_tries then ends.Tries refusal else ends.Outcome (Refused refusal)

-- what the client knows of a command at the end, by the number of refused tries and the end of its
-- latest one: where that is not known, the command is pending
abbrev pub end_by : ℕ → Option Outcome → End
end_by refused None = ends.Outcome Pending
end_by refused (Some (Success reply)) = ends.Outcome (Success reply)
end_by refused (Some (Refused refusal)) = end_by_refusal refused refusal
end_by refused (Some (Ambiguous why)) = ends.Outcome (Ambiguous why)
end_by refused (Some Pending) = ends.Outcome Pending

-- a command that was never tried is unsent
abbrev pub unsent : CommandEnd
unsent = record { attempt = 0; end = ends.Unsent }

abbrev pub left_by : ℕ → Option Try → CommandEnd
left_by refused None = unsent
left_by refused (Some t) = record { attempt = t.id.attempt; end = end_by refused t.end }

-- how a client leaves a command after these tries, of which the latest stands first
abbrev pub left : (seq : ℕ) → List Try → CommandEnd
left seq tries = left_by (refusals seq tries) (find (is_of seq) tries)

-- how it leaves its commands, numbered from 1, in their order
abbrev pub finals_of : List Request → List Try → List CommandEnd
finals_of requests tries = map (λ seq. left seq tries) (range_with_len 1 (length requests))

-- each command has ended: the next one would be one more than there are
abbrev pub HasDoneAll : (client : ℕ) → List Request → List Try → Type 0
HasDoneAll client requests tries =
    next_id client tries ≡ Some (id_of client (length requests + 1) 1)
