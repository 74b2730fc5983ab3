-- An attempt of a command, as one range knows it (after CockroachDB's proposals).
use Rattle.std.specs.Prelude.{◌≡◌, ℕ, ◌==◌, if◌then◌else◌, ◌⊎◌, List, [], ◌∷◌}
use Rattle.rp_base.specs.Ids.{same_id}
use Rattle.rp_base.specs.declared.ids.CmdId.{CmdId}
use Rattle.rp_request.specs.declared.commands.Op.{Op}
use Rattle.rp_request.specs.declared.commands.Command.{Command}
use Rattle.rp_request.specs.declared.requests.Request.{Request}
use Rattle.rp_request.specs.declared.outcomes.Reply.{Reply}

-- what was evaluated: the request, its writes and its reply
pub record Body : Type 0 where
  pub request : Request
  pub batch : List Op
  pub reply : Reply

-- how far an attempt has come in the range
pub data Stage : Type 0 where
  -- it was not admitted here
  Unborn : Stage
  -- it waits for a maximum
  Waiting : Stage
  -- it was handed out with this maximum
  Proposed : (own : ℕ) → Stage
  -- its entry was taken and answered so
  Success : Reply → Stage
  -- it was refused
  Refused : Stage
  -- a snapshot whose lease applied index is `passed` overtook it
  Overtaken : (own passed : ℕ) → Stage
  -- its replica was removed while it was proposed
  Removed : (own : ℕ) → Stage
  -- its node restarted while it was proposed
  Restarted : (own : ℕ) → Stage

-- an attempt: the node that admitted it, at which index of the list it was evaluated there, under
-- which lease sequence, what was evaluated, and each maximum that it was given so far, the last one
-- first
pub record Attempt : Type 0 where
  pub stage : Stage
  pub node : ℕ
  pub from : ℕ
  pub seq : ℕ
  pub body : Body
  pub maxima : List ℕ

-- it was admitted
abbrev pub IsBorn : Stage → Type 0
IsBorn Unborn = ⊥
IsBorn _ = Unit {0}

-- the attempt was admitted at this node
abbrev pub IsBornAt : Attempt → ℕ → Type 0
IsBornAt a node = IsBorn a.stage × (a.node ≡ node)

-- it has not ended, and holds its latches
abbrev pub IsPending : Stage → Type 0
IsPending Waiting = Unit {0}
IsPending (Proposed own) = Unit {0}
IsPending _ = ⊥

-- it has ended
abbrev pub IsEnded : Stage → Type 0
IsEnded Unborn = ⊥
IsEnded Waiting = ⊥
IsEnded (Proposed own) = ⊥
IsEnded _ = Unit {0}

-- it has ended, and nothing of it can be taken any more
abbrev pub IsClosed : Stage → Type 0
IsClosed (Success reply) = Unit {0}
IsClosed Refused = Unit {0}
IsClosed (Overtaken own passed) = Unit {0}
IsClosed _ = ⊥

-- the one maximum under which it can still be taken
abbrev pub IsOpen : Stage → ℕ → Type 0
IsOpen (Proposed own) max = max ≡ own
IsOpen (Removed own) max = max ≡ own
IsOpen (Restarted own) max = max ≡ own
IsOpen _ max = ⊥

-- no place of it is known at its node
abbrev pub IsUntaken : Stage → Type 0
IsUntaken (Success reply) = ⊥
IsUntaken (Overtaken own passed) = ⊥
IsUntaken (Restarted own) = ⊥
IsUntaken _ = Unit {0}

-- the number is one of these
abbrev pub IsAmong : List ℕ → ℕ → Type 0
IsAmong [] m = ⊥
IsAmong (x ∷ xs) m = (m ≡ x) ⊎ IsAmong xs m

-- the number is the last that was given
abbrev pub IsLast : List ℕ → ℕ → Type 0
IsLast [] m = ⊥
IsLast (x ∷ xs) m = m ≡ x

-- the command was made of the attempt
pub record IsOf (a : Attempt) (c : Command) : Type 0 where
  pub seq : c.seq ≡ a.seq
  pub request : c.request ≡ a.body.request
  pub batch : c.batch ≡ a.body.batch
  pub reply : c.reply ≡ a.body.reply
  pub max : IsAmong a.maxima c.max

-- the attempt in another stage
abbrev pub staged : Attempt → Stage → Attempt
staged a stage = record a { stage = stage }

-- the attempt with one more maximum, handed out
abbrev pub handed_out : Attempt → ℕ → Attempt
handed_out a max = record a { stage = Proposed max; maxima = max ∷ a.maxima }

-- all attempts, of which most are unborn
abbrev pub Attempts : Type 0
Attempts = CmdId → Attempt

-- one attempt becomes this
unfoldable pub with_attempt : Attempts → CmdId → Attempt → Attempts
with_attempt attempts id a q = if same_id q id then a else attempts q

-- each attempt of a node changes its stage so
unfoldable pub at_node : ℕ → (Stage → Stage) → Attempts → Attempts
at_node node change attempts q = if (attempts q).node == node
    then staged (attempts q) (change (attempts q).stage)
    else attempts q
