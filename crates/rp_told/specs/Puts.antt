-- Which attempts of a book a round of a settling may put into a buffer (this project).
use Rattle.std.specs.Prelude.{Bool, true, false}
use Rattle.rp_base.specs.declared.ids.CmdId.{CmdId}
use Rattle.rp_book.specs.declared.bookings.Booked.{Booked}
use Rattle.rp_book.specs.declared.bookings.Draw.{Draw}
use Rattle.rp_book.specs.declared.bookings.Draw.TheVariants.{Undrawn, Drawn, Published}
use Rattle.rp_events.specs.Worlds.{World}
use Rattle.rp_lines.specs.Players.{Player, Played}
use Rattle.rp_lines.specs.Settling.{puts}
use Rattle.rp_told.specs.Outcomes.{is_open}

-- one that had no place may go there until it ends; a drawn place is to be published; what was published
-- stays
abbrev pub may_put : World → CmdId → Draw → Bool
may_put w id Undrawn = is_open w id
may_put w id (Drawn place) = true
may_put w id Published = false

-- an entry of the book in its turn
abbrev pub puts_entry : CmdId × Booked → Player → Played
puts_entry e = puts e.0 e.1 e.1.draw

-- the entry may go there
abbrev pub may_put_entry : World → CmdId × Booked → Bool
may_put_entry w e = may_put w e.0 e.1.draw
