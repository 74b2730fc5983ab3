-- Where commands took effect, as far as a report was read.
use Rattle.std.specs.Prelude.{ℕ, Bool, true, false, not, ◌==◌, ◌&&◌, List, [], ◌∷◌, ◌++◌, is_some, Option, Some, None}
use Rattle.std.specs.Map.{lookup}
use Rattle.rp_base.specs.declared.ids.CmdId.{CmdId}
use Rattle.rp_request.specs.declared.items.Place.{Place}
use Rattle.rp_request.specs.declared.items.Place.TheVariants.{Write, Split, Lease}
use Rattle.rp_request.specs.declared.items.Record.{Record}
use Rattle.rp_request.specs.declared.items.Record.TheVariants.{Took, Passed}
use Rattle.rp_request.specs.declared.outcomes.Reply.{Reply}
use Rattle.rp_request.specs.declared.outcomes.Reply.TheVariants.{Range}
use Rattle.rp_reread.specs.declared.reports.Answer.{Answer}
use Rattle.rp_reread.specs.declared.reports.Ended.{Ended}
use Rattle.rp_reread.specs.declared.reports.Ended.TheVariants.{Success, Refused, Other}
use Rattle.rp_reread.specs.declared.reports.Entry.{Entry}
use Rattle.rp_auditor.specs.Playing.{is_told}
use Rattle.rp_auditor.specs.declared.seen.Command.{Command}
use Rattle.rp_auditor.specs.declared.seen.Placed.{Placed}
use Rattle.rp_auditor.specs.declared.seen.Placed.TheVariants.{Once}

-- the commands of the items so far, in their order, each with the attempt and the reply
abbrev pub Seen : Type 0
Seen = List (Command × Placed)

-- this command
abbrev pub is_command : (client seq : ℕ) → Command → Bool
is_command client seq c = client == c.client && seq == c.seq

-- the place of a command
abbrev pub place_of : Seen → (client seq : ℕ) → Option Placed
place_of seen client seq = lookup (is_command client seq) seen

-- how many places a command may have yet
abbrev pub room : Option Placed → ℕ
room None = 1
room (Some p) = 0

abbrev pub placed : CmdId → Reply → Seen
placed id reply = (record { client = id.client; seq = id.seq }, Once id.attempt reply) ∷ []

-- the command that an item names
abbrev pub named : Place → Seen
named (Write id request seq reply) = placed id reply
named (Split id key right seq) = placed id (Range right)
named (Lease lease) = []

abbrev pub named_by : Record → Seen
named_by (Took item) = named item
named_by (Passed why) = []

abbrev pub named_in : List Entry → Seen
named_in [] = []
named_in (e ∷ es) = named_by e.kept ++ named_in es

-- no item so far names the command of this one
abbrev pub is_new : Seen → CmdId → Bool
is_new seen id = not (is_some (place_of seen id.client id.seq))

abbrev pub is_first : Seen → Place → Bool
is_first seen (Write id request seq reply) = is_new seen id
is_first seen (Split id key right seq) = is_new seen id
is_first seen (Lease lease) = true

abbrev pub first_by : Seen → Record → Bool
first_by seen (Took item) = is_first seen item
first_by seen (Passed why) = true

-- the command's place is that of this attempt, with this reply
abbrev pub took_so : ℕ → Reply → Option Placed → Bool
took_so attempt reply (Some (Once other told)) = attempt == other && is_told reply told
took_so attempt reply None = false

-- the command's place is that of this attempt
abbrev pub took : ℕ → Option Placed → Bool
took attempt (Some (Once other told)) = attempt == other
took attempt None = false

-- an attempt that took effect has its place, and one that was refused has none
abbrev pub is_honest_by : Option Placed → ℕ → Ended → Bool
is_honest_by place attempt (Success reply) = took_so attempt reply place
is_honest_by place attempt Refused = not (took attempt place)
is_honest_by place attempt Other = true

abbrev pub is_honest : Seen → Answer → Bool
is_honest seen a = is_honest_by (place_of seen a.client a.seq) a.attempt a.end
