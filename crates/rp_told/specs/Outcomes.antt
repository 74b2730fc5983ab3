-- What is told of attempts along events (this project).
use Rattle.std.specs.Prelude.{◌≡◌, Bool, true, false, not, if◌then◌else◌, List, [], ◌∷◌, Option, Some}
use Rattle.std.specs.Option.{option_map_or}
use Rattle.rp_base.specs.Ids.{same_id}
use Rattle.rp_base.specs.declared.ids.CmdId.{CmdId}
use Rattle.rp_request.specs.declared.outcomes.Outcome.{Outcome}
use Rattle.rp_request.specs.declared.outcomes.Outcome.TheVariants as outcomes
use Rattle.rp_request.specs.declared.requests.Request.{Request}
use Rattle.rp_events.specs.declared.answers.Ended.{Ended}
use Rattle.rp_events.specs.declared.answers.EventAnswer.{EventAnswer}
use Rattle.rp_events.specs.declared.answers.EventAnswer.TheVariants as answers
use Rattle.rp_events.specs.Worlds.{World, Happening, Admit, outcome_of}

-- the attempt asks to be admitted
abbrev pub asks : CmdId → Happening → Bool
asks id (Admit range other request) = same_id other id
asks id _ = false

-- what the answer to its admission tells of an attempt
abbrev pub first_outcome : EventAnswer → Outcome
first_outcome (answers.Refused why) = outcomes.Refused why
first_outcome _ = outcomes.Pending

-- an attempt that asks is told by the answer; of each other it stays what was told
abbrev pub begun : CmdId → Happening → EventAnswer → Option Outcome → Option Outcome
begun id what answer before = if asks id what then Some (first_outcome answer) else before

-- the request of an attempt that asks; of each other it stays what it was
abbrev pub begun_request : CmdId → Happening → Option Request → Option Request
begun_request id (Admit range other request) before = if same_id other id then Some request else before
begun_request id _ before = before

-- the outcome of an attempt after further ends
abbrev pub retold : CmdId → List Ended → Option Outcome → Option Outcome
retold id [] before = before
retold id (e ∷ es) before = retold id es (if same_id e.id id then Some e.outcome else before)

-- nothing is told yet of how the attempt ended
abbrev pub is_pending : Outcome → Bool
is_pending (outcomes.Success reply) = false
is_pending (outcomes.Refused why) = false
is_pending (outcomes.Ambiguous why) = false
is_pending outcomes.Pending = true

-- the attempt was asked, and has not ended; or it was asked, and has
abbrev pub is_open : World → CmdId → Bool
is_open w id = option_map_or is_pending (outcome_of w id) false

abbrev pub has_ended : World → CmdId → Bool
has_ended w id = option_map_or (λ o. not (is_pending o)) (outcome_of w id) false

-- an end that is told of an attempt which was pending before
pub record EndsPending (w : World) (e : Ended) : Type 0 where
  pub before : outcome_of w e.id ≡ Some outcomes.Pending
  pub ends : is_pending e.outcome ≡ false
