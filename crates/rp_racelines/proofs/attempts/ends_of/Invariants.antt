use Rattle.std.proofs.Common.{◌≡◌, take}
use Rattle.rp_base.specs.declared.ids.CmdId.{CmdId}
use Rattle.rp_events.specs.Worlds.{ended_of}
use Rattle.rp_racelines.specs.Latest.{told_in}
use Rattle.rp_racelines.proofs.attempts.ends_of.Given as goal

-- the ends so far are noted
abbrev pub invariant-loop-ended : goal.invariant-loop-ended
invariant-loop-ended l = (id : CmdId) → told_in l.ends.entries id ≡ ended_of id (take l.ended-index l.outcomes)
