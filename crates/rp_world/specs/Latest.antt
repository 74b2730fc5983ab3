-- The latest attempt of a command, where it stands so.
use Rattle.std.specs.Prelude.{ℕ, Bool, ◌&&◌, if◌then◌else◌, Option, None, Some, option_and_then}
use Rattle.rp_base.specs.declared.ids.CmdId.{CmdId}
use Rattle.rp_book.specs.declared.bookings.Booked.{Booked}
use Rattle.rp_book.specs.declared.bookings.Draw.{Draw}
use Rattle.rp_book.specs.declared.bookings.Draw.TheVariants.{Undrawn, Drawn, Published}
use Rattle.rp_book.specs.Books.{latest_of}
use Rattle.rp_events.specs.Lawful.{was_refused}
use Rattle.rp_lines.specs.Players.{Player}
use Rattle.rp_lines.specs.Commands.{is_undrawn, is_waiting}

-- an entry of the book
abbrev pub Entry : Type 0
Entry = CmdId × Booked

-- it was refused
abbrev pub refused_latest : Player → (client seq : ℕ) → Option Entry
refused_latest p client seq =
    option_and_then (λ e. if was_refused p.world.nodes e.0 then Some e else None)
    (latest_of client seq p.book)

-- it waits, and had no place
abbrev pub undrawn_latest : Player → (client seq : ℕ) → Option Entry
undrawn_latest p client seq =
    option_and_then
    (λ e. if is_waiting p.world.nodes e.0 e.1 && is_undrawn e.1.draw then Some e else None)
    (latest_of client seq p.book)

-- it has drawn a place, and nothing is published there
abbrev pub place_of : Draw → Option ℕ
place_of Undrawn = None
place_of (Drawn place) = Some place
place_of Published = None
