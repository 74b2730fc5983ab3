use Rattle.rp_world.proofs.Putting.{booked_node, put_goes}
use Rattle.rp_world.proofs.worlds.World.puts.Goals as goal

pub puts_by-requires-clause-node : goal.puts_by-requires-clause-node
puts_by-requires-clause-node c = booked_node c.args.self.now c.requires.going c.args.id c.args.booked.now (record { draw = c.args.booked.now.draw; is = c.requires.has })

pub returns-clause-going : goal.returns-clause-going
returns-clause-going c = put_goes c.puts_by.result c.args.self.now c.puts_by.new.self c.args.id c.args.booked.now c.args.booked.now.draw c.requires.going (record { draw = c.args.booked.now.draw; is = c.requires.has }) c.puts_by.ensures.does
