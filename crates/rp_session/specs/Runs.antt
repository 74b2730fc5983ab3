-- A session add along a list of outcomes.
use Rattle.std.specs.Prelude.{◌≡◌, Bool, true, false, ◌&&◌, ◌⊎◌, List, [], ◌∷◌, Option, Some, option_and_then}
use Rattle.std.specs.List.{list_any}
use Rattle.std.specs.Option.{option_map_or}
use Rattle.rp_request.specs.declared.outcomes.Outcome.{Outcome}
use Rattle.rp_request.specs.declared.outcomes.Outcome.TheVariants.{Success, Refused, Ambiguous}
use Rattle.rp_request.specs.declared.outcomes.Refusal.{Refusal}
use Rattle.rp_request.specs.declared.outcomes.Reply.{Reply}
use Rattle.rp_request.specs.declared.requests.Request.{Request}
use Rattle.rp_request.specs.declared.requests.Request.TheVariants.{Move}
use Rattle.rp_session.specs.Machine.{Adding, answer_of, command, mint, move, confirm}
use Rattle.rp_session.specs.declared.turns.Turn.{Turn}
use Rattle.rp_session.specs.declared.turns.Turn.TheVariants.{Wait, Again, Send, Done, Failed}

-- the add after these outcomes, each one of the command that it had then; none where the table has no
-- cell for one of them
abbrev pub after_all : Adding → List Outcome → Option Adding
after_all s [] = Some s
after_all s (outcome ∷ outcomes) =
    option_and_then (λ a. after_all a.state outcomes) (answer_of s outcome)

-- a command and an outcome of it
pub record Ended : Type 0 where
  pub request : Request
  pub outcome : Outcome

-- the commands of the add along these outcomes, each with its own
abbrev pub ended : Adding → List Outcome → List Ended
ended s [] = []
ended s (outcome ∷ outcomes) =
    record { request = command s; outcome = outcome }
    ∷ option_map_or (λ a. ended a.state outcomes) (answer_of s outcome) []

abbrev pub is_move : Request → Bool
is_move (Move from to by) = true
is_move _ = false

abbrev pub is_ambiguous : Outcome → Bool
is_ambiguous (Ambiguous why) = true
is_ambiguous _ = false

-- a move that ended ambiguous
abbrev pub is_doubtful : Ended → Bool
is_doubtful e = is_ambiguous e.outcome && is_move e.request

-- the request is one of the add's three
abbrev pub IsOfAdd : Adding → Request → Type 0
IsOfAdd s request = (request ≡ mint s) ⊎ ((request ≡ move s) ⊎ (request ≡ confirm s))

-- the turn is the add's last
abbrev pub is_end : Turn → Bool
is_end Wait = false
is_end Again = false
is_end Send = false
is_end Done = true
is_end (Failed refusal) = true

-- the request can be sent yet: after some outcomes it is the command of the add, which is open then
pub record CanSend (s : Adding) (request : Request) : Type 0 where
  pub outcomes : List Outcome
  pub state : Adding
  pub reached : after_all s outcomes ≡ Some state
  pub open_yet : state.has_ended ≡ false
  pub sent : command state ≡ request

-- along these outcomes none of the add's moves ended ambiguous, and the refusal is one of its move
pub record FailsUndoubted (s : Adding) (outcomes : List Outcome) (t : Adding) (outcome : Outcome) (why : Refusal) : Type 0 where
  pub none_doubtful : list_any is_doubtful (ended s outcomes) ≡ false
  pub by_its_move : command t ≡ move t
  pub is_refused : outcome ≡ Refused why

-- the outcome is that the add's move, or its confirming command, took effect
pub record DoneBy (t : Adding) (outcome : Outcome) : Type 0 where
  pub reply : Reply
  pub took_effect : outcome ≡ Success reply
  pub of_move_or_confirm : (command t ≡ move t) ⊎ (command t ≡ confirm t)
