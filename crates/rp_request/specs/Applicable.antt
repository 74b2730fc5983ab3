-- Which payloads may be applied.
use Rattle.std.specs.Prelude.{◌≡◌, IsOk}
use Rattle.rp_base.specs.Splits.{split_of}
use Rattle.rp_base.specs.declared.ranges.Desc.{Desc}
use Rattle.rp_request.specs.declared.commands.Payload.{Payload}
use Rattle.rp_request.specs.declared.commands.Payload.TheVariants.{Nothing, Write, Lease}
use Rattle.rp_request.specs.declared.requests.Request.{Request}
use Rattle.rp_request.specs.declared.requests.Request.TheVariants.{Put, Add, CPut, Del, Wipe, Move, Split}
use Rattle.rp_request.specs.declared.verdicts.Verdict.TheVariants.{Took}
use Rattle.rp_request.specs.Applied.{AppliedState, command_verdict}

-- where the request is a split, the range may be split at its key
abbrev pub MaySplit : Desc → Request → Type 0
MaySplit d (Put key value) = Unit {0}
MaySplit d (Add key by) = Unit {0}
MaySplit d (CPut key expect value) = Unit {0}
MaySplit d (Del key) = Unit {0}
MaySplit d (Wipe span) = Unit {0}
MaySplit d (Move from to by) = Unit {0}
MaySplit d (Split key) = IsOk (split_of d key)

-- where the payload is a split that is taken, the range may be split at its key
abbrev pub Fits : AppliedState → Payload → Type 0
Fits s Nothing = Unit {0}
Fits s (Write c) = command_verdict s c ≡ Took → MaySplit s.desc c.request
Fits s (Lease ask) = Unit {0}
