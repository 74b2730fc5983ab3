use Rattle.std.proofs.Common.{sym, ◌∙◌}
use Rattle.rp_lines.specs.Commands.{buffer_at}
use Rattle.rp_world.proofs.Merging.{went_through}
use Rattle.rp_world.proofs.Putting.{no_room, put_there}
use Rattle.rp_world.proofs.worlds.World.puts_if_room.Goals as goal

pub returns-in-Some-clause-does : goal.returns-in-Some-clause-does
returns-in-Some-clause-does c =
    put_there c.is_put.result c.args.id c.args.booked.now c.args.self.now c.draws_if_room.new.self c.is_put.new.self c.in-Some.place
    (sym c.in_ok-place.ensures.place ∙ c.in-Some.is) c.in_ok-place.ensures.does c.is_put.ensures.does

pub returns-in-Some-clause-went : goal.returns-in-Some-clause-went
returns-in-Some-clause-went c =
    went_through c.is_put.result c.args.id c.args.booked.now c.args.self.now c.draws_if_room.new.self c.is_put.new.self c.is_put.ensures.went c.is_put.ensures.put c.in_ok-place.ensures.book c.in_ok-place.ensures.nodes

pub returns-in-None-clause-went : goal.returns-in-None-clause-went
returns-in-None-clause-went c =
    (c.requires.undrawn, no_room (buffer_at c.args.self.now c.args.booked.now.node c.args.booked.now.range) (sym c.in_ok-place.ensures.place ∙ c.in-None.is))
