use Rattle.std.proofs.Common.{ap, ◌∙◌}
use Rattle.rp_book.specs.Books.{booking_of}
use Rattle.rp_lines.specs.Players.{Player}
use Rattle.rp_world.specs.Plays.{one_event_more}
use Rattle.rp_world.proofs.Below.{booked_here}
use Rattle.rp_world.proofs.worlds.World.ask.Goals as goal

pub returns-clause-booked : goal.returns-clause-booked
returns-clause-booked c =
    ap (λ (p : Player). booking_of c.args.id p.book) (c.count.ensures ∙ ap one_event_more c.in_ok-answer.ensures.ok) ∙ booked_here c.args.id c.args.booked.now c.args.self.now.book
