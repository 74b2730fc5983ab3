use Rattle.std.proofs.Common.{ap, ◌∙◌}
use Rattle.rp_book.specs.declared.bookings.Draw.TheVariants as draw_states
use Rattle.rp_book.specs.Books.{booking_of}
use Rattle.rp_lines.specs.Players.{Player}
use Rattle.rp_world.proofs.Below.{booked_here}
use Rattle.rp_world.proofs.worlds.World.draws.Goals as goal

pub set_draw-requires : goal.set_draw-requires
set_draw-requires c = record { draw = c.args.booked.now.draw; is = ap (booking_of c.args.id) c.draw.ensures.book ∙ c.requires.has }

pub returns-in_ok-set_draw-in-Some-clause-booked : goal.returns-in_ok-set_draw-in-Some-clause-booked
returns-in_ok-set_draw-in-Some-clause-booked c =
    ap (λ (p : Player). booking_of c.args.id p.book) c.in_ok-set_draw-in-Some.ensures
    ∙ booked_here c.args.id (record c.args.booked.now { draw = draw_states.Drawn c.in-Some.place }) c.draw.new.self.book
