-- What an applied state shows, the state that range 0 starts from, and that of the right range which a
-- taken split opens.
use Rattle.std.specs.Prelude.{ℕ, Option, None, Some, Result, Ok, Err}
use Rattle.rp_base.specs.Splits.{split_of}
use Rattle.rp_base.specs.Tables.{from_on}
use Rattle.rp_base.specs.declared.ranges.Desc.{Desc}
use Rattle.rp_base.specs.declared.ranges.SplitFault.{SplitFault}
use Rattle.rp_request.specs.Applied.{AppliedState, command_verdict}
use Rattle.rp_request.specs.Items.{State}
use Rattle.rp_request.specs.Starts.{first_state}
use Rattle.rp_request.specs.declared.commands.Command.{Command}
use Rattle.rp_request.specs.declared.commands.Payload.{Payload}
use Rattle.rp_request.specs.declared.commands.Payload.TheVariants.{Nothing, Write, Lease}
use Rattle.rp_request.specs.declared.requests.Request.{Request}
use Rattle.rp_request.specs.declared.requests.Request.TheVariants.{Put, Add, CPut, Del, Wipe, Move, Split}
use Rattle.rp_request.specs.declared.verdicts.Verdict.{Verdict}
use Rattle.rp_request.specs.declared.verdicts.Verdict.TheVariants.{Took, OldLease, OldIndex, LeaseMoved}
use Rattle.rp_request.specs.declared.verdicts.Verdict.TheVariants as verdicts

-- table, description and lease of an applied state
abbrev pub shown : AppliedState → State
shown s = record { table = s.table; desc = s.desc; lease = s.lease }

-- the state that range 0 starts from
abbrev pub first_applied : AppliedState
first_applied = record {
  desc = first_state.desc;
  lease = first_state.lease;
  lai = 0;
  table = first_state.table;
}

-- the right range of a split, as it starts in this state
abbrev pub right_with : AppliedState → ℕ → Result (Desc × Desc) SplitFault → Option AppliedState
right_with s key (Ok parts) = Some (record {
  desc = parts.1;
  lease = s.lease;
  lai = 0;
  table = from_on s.table key;
})
right_with s key (Err fault) = None

-- the right range of a request: only a split has one
abbrev pub right_by_request : AppliedState → Request → Option AppliedState
right_by_request s (Split key) = right_with s key (split_of s.desc key)
right_by_request s _ = None

-- the right range of a command by its verdict: only one that is taken opens it
abbrev pub right_by : AppliedState → Command → Verdict → Option AppliedState
right_by s c Took = right_by_request s c.request
right_by s c _ = None

-- what an entry opens in a state
abbrev pub right_of : AppliedState → Payload → Option AppliedState
right_of s Nothing = None
right_of s (Write c) = right_by s c (command_verdict s c)
right_of s (Lease ask) = None
