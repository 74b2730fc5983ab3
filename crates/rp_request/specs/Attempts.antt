-- The attempts of a command.
use Rattle.std.specs.Prelude.{◌-◌}
use Rattle.rp_base.specs.declared.ids.CmdId.{CmdId}

-- the attempt before this one
abbrev pub previous : CmdId → CmdId
previous id = record { client = id.client; seq = id.seq; attempt = id.attempt - 1 }
