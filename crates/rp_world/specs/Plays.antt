-- What a call of a world that plays lines answers.
use Rattle.std.specs.Prelude.{ℕ, ◌+◌, ◌==◌, if◌then◌else◌, Option, None, Some, Result, Ok, Err}
use Rattle.rp_base.specs.Gives.{Gives}
use Rattle.rp_base.specs.declared.ids.CmdId.{CmdId}
use Rattle.rp_base.specs.declared.limits.Which.TheVariants.{Events}
use Rattle.rp_book.specs.declared.bookings.Booked.{Booked}
use Rattle.rp_bufcore.specs.Buffers.{Buffer, can_draw}
use Rattle.rp_events.specs.declared.world_events.WorldEvent.{WorldEvent}
use Rattle.rp_events.specs.declared.world_events.WorldEvent.TheVariants as events
use Rattle.rp_events.specs.Buffered.{buffered_step}
use Rattle.rp_lines.specs.Players.{Limit, Player, Played, most_events}
use Rattle.rp_world.specs.declared.faults.PlayFault.{PlayFault}
use Rattle.rp_world.specs.declared.faults.PlayFault.TheVariants as faults

-- the limit that a fault tells; want of memory tells none
abbrev pub limit_of : PlayFault → Option Limit
limit_of (faults.Limit which count) = Some (record { which = which; count = count })
limit_of faults.NoMemory = None

-- a call leaves the player that is meant, or tells the limit that is meant
abbrev pub Does : {A : Type 0} → Result A PlayFault → Player → Played → Type 0
Does result new meant = Gives (λ _. new) limit_of result meant

-- an event may be counted
abbrev pub unspent : Player → Played
unspent p =
    if p.events == most_events
    then Err (record { which = Events; count = most_events })
    else Ok p

-- an event has happened; and one more is counted
abbrev pub happened : WorldEvent → Player → Player
happened e p = record p { world = buffered_step p.world e }

abbrev pub one_event_more : Player → Player
one_event_more p = record p { events = p.events + 1 }

-- an attempt's admission as an event
abbrev pub admission : CmdId → Booked → WorldEvent
admission id b = events.Admit b.node b.range id b.request

-- the place that a draw gives
abbrev pub place_in : Buffer → Option ℕ
place_in b = if can_draw b then Some b.drawn else None
