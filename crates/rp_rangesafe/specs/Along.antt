-- A range along its list of entries. The list is a function of the index, so that it may be one
-- that is still to come.
use Rattle.std.specs.Prelude.{◌≡◌, ℕ, zero, suc, List, slice_index_or}
use Rattle.rp_request.specs.declared.commands.Payload.{Payload}
use Rattle.rp_request.specs.declared.commands.Payload.TheVariants.{Nothing, Write}
use Rattle.rp_request.specs.declared.commands.Command.{Command}
use Rattle.rp_request.specs.Applied.{AppliedState, verdict, after}
use Rattle.rp_request.specs.declared.verdicts.Verdict.TheVariants.{Took}

-- the list's entry with this index, from 0
abbrev pub entry : List Payload → ℕ → Payload
entry log i = slice_index_or log i Nothing

-- the state after so many entries
abbrev pub state : AppliedState → (ℕ → Payload) → ℕ → AppliedState
state b f zero = b
state b f (suc i) = after (state b f i) (f i)

-- the entry with this index is this command, and is taken: it is a place of the command
pub record Takes (b : AppliedState) (f : ℕ → Payload) (k : ℕ) (c : Command) : Type 0 where
  pub here : f k ≡ Write c
  pub taken : verdict (state b f k) (Write c) ≡ Took
