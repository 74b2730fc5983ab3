-- The machine of a session add: it raises a key's number once, by three kinds of command over a token,
-- and may ask again after an ambiguous end.
use Rattle.std.specs.Prelude.{ℕ, Bool, true, false, ◌==◌, if◌then◌else◌, Option, Some, None}
use Rattle.rp_base.specs.declared.values.Value.TheVariants.{Number}
use Rattle.rp_request.specs.declared.outcomes.Outcome.{Outcome}
use Rattle.rp_request.specs.declared.outcomes.Outcome.TheVariants.{Success, Refused, Ambiguous, Pending}
use Rattle.rp_request.specs.declared.outcomes.Refusal.{Refusal}
use Rattle.rp_request.specs.declared.outcomes.Refusal.TheVariants.{NoReplica, NotLeaseHolder, RangeMismatch, Latched, ConditionFailed, IsText, Overflow, Short}
use Rattle.rp_request.specs.declared.requests.Request.{Request}
use Rattle.rp_request.specs.declared.requests.Request.TheVariants.{CPut, Move}
use Rattle.rp_session.specs.Tokens.{token_of}
use Rattle.rp_session.specs.declared.turns.Stage.{Stage}
use Rattle.rp_session.specs.declared.turns.Stage.TheVariants.{Minting, Moving, Confirming}
use Rattle.rp_session.specs.declared.turns.Turn.{Turn}
use Rattle.rp_session.specs.declared.turns.Turn.TheVariants.{Wait, Again, Send, Done, Failed}

-- a session add: its token, the key that is to rise and by how much; the state that it is in; whether
-- one of its moves ended ambiguous; whether it has ended, in the state of its last command
pub record Adding : Type 0 where
  pub token : ℕ
  pub key : ℕ
  pub by : ℕ
  pub stage : Stage
  pub is_doubted : Bool
  pub has_ended : Bool

-- at first the token is to be minted
abbrev pub begun : (client number key by : ℕ) → Adding
begun client number key by = record {
  token = token_of client number key;
  key = key;
  by = by;
  stage = Minting;
  is_doubted = false;
  has_ended = false;
}

-- the token gets what the key is to rise by, where it has no value
abbrev pub mint : Adding → Request
mint s = CPut s.token None (Number s.by)

-- the token's number goes to the key
abbrev pub move : Adding → Request
move s = Move s.token s.key s.by

-- whether the token is spent: it is written as it then stands
abbrev pub confirm : Adding → Request
confirm s = CPut s.token (Some (Number 0)) (Number 0)

-- the command of a state
abbrev pub command_at : Adding → Stage → Request
command_at s Minting = mint s
command_at s Moving = move s
command_at s Confirming = confirm s

abbrev pub command : Adding → Request
command s = command_at s s.stage

-- what an outcome leads to: the session, and what is to be done
pub record Answer : Type 0 where
  pub state : Adding
  pub turn : Turn

-- nothing changes
abbrev pub stays : Adding → Turn → Answer
stays s turn = record { state = s; turn = turn }

-- the command of a state is to be sent
abbrev pub sends : Adding → Stage → Answer
sends s stage = record { state = record s { stage = stage }; turn = Send }

-- the add is over
abbrev pub ends : Adding → Turn → Answer
ends s turn = record { state = record s { has_ended = true }; turn = turn }

-- a command took effect
abbrev pub succeeds : Adding → Stage → Answer
succeeds s Minting = sends s Moving
succeeds s Moving = ends s Done
succeeds s Confirming = ends s Done

-- a move ended ambiguous
abbrev pub doubted : Adding → Adding
doubted s = record s { is_doubted = true }

-- a command ended ambiguous: it is sent again
abbrev pub repeats : Adding → Stage → Answer
repeats s Minting = stays s Send
repeats s Moving = stays (doubted s) Send
repeats s Confirming = stays s Send

-- the key cannot take the token's number. After an ambiguous move it may have taken it before
abbrev pub declines : Adding → Refusal → Answer
declines s refusal = if s.is_doubted then sends s Confirming else ends s (Failed refusal)

-- the token to be minted has a value
abbrev pub refuses_mint : Adding → Refusal → Option Answer
refuses_mint s (ConditionFailed actual) = Some (sends s Moving)
refuses_mint s _ = None

-- the token to be moved is spent, or the key cannot take its number
abbrev pub refuses_move : Adding → Refusal → Option Answer
refuses_move s (Short actual) = Some (sends s Confirming)
refuses_move s (Overflow actual) = Some (declines s (Overflow actual))
refuses_move s (IsText key) = if key == s.key then Some (declines s (IsText key)) else None
refuses_move s _ = None

-- the token is not spent: it has no value, or another one
abbrev pub refuses_confirm : Adding → Refusal → Option Answer
refuses_confirm s (ConditionFailed None) = Some (sends s Minting)
refuses_confirm s (ConditionFailed (Some value)) = Some (sends s Moving)
refuses_confirm s _ = None

-- the command was refused by what the table holds
abbrev pub refuses : Adding → Stage → Refusal → Option Answer
refuses s Minting refusal = refuses_mint s refusal
refuses s Moving refusal = refuses_move s refusal
refuses s Confirming refusal = refuses_confirm s refusal

-- the command was refused. Where the node could not take it, a further attempt of it is due
abbrev pub refused : Adding → Refusal → Option Answer
refused s NoReplica = Some (stays s Again)
refused s (NotLeaseHolder lease) = Some (stays s Again)
refused s (RangeMismatch desc) = Some (stays s Again)
refused s (Latched by held) = Some (stays s Again)
refused s refusal = refuses s s.stage refusal

-- what an outcome of the command leads to
abbrev pub met : Adding → Outcome → Option Answer
met s Pending = Some (stays s Wait)
met s (Success reply) = Some (succeeds s s.stage)
met s (Ambiguous why) = Some (repeats s s.stage)
met s (Refused refusal) = refused s refusal

-- the table: what an outcome leads to while the add is open; where it has no cell for it, nothing
abbrev pub answer_of : Adding → Outcome → Option Answer
answer_of s outcome = if s.has_ended then None else met s outcome
