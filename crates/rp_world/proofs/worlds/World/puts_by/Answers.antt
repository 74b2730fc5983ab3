use Rattle.std.proofs.Common.{refl}
use Rattle.rp_world.proofs.Merging.{went_before, went_through}
use Rattle.rp_world.proofs.worlds.World.puts_by.Goals as goal

pub is_put-requires-clause-has : goal.is_put-requires-clause-has
is_put-requires-clause-has c = record { draw = c.args.booked.now.draw; is = c.requires.has }

pub returns-in-Drawn-clause-went : goal.returns-in-Drawn-clause-went
returns-in-Drawn-clause-went c =
    went_through c.is_put.result c.args.id c.args.booked.now c.args.self.now c.args.self.now c.is_put.new.self c.is_put.ensures.went c.is_put.ensures.put refl refl

pub returns-in-Published-clause-went : goal.returns-in-Published-clause-went
returns-in-Published-clause-went c = went_before c.args.id c.args.booked.now c.args.self.now c.requires.has c.in-Published.is
