use Rattle.rp_world.proofs.Counting.{counted_ok}
use Rattle.rp_world.proofs.Onwards.{going_did}
use Rattle.rp_world.proofs.worlds.World.event.Goals as goal

pub returns-clause-going : goal.returns-clause-going
returns-clause-going c = λ plain. going_did c.args.self.now c.count.new.self c.args.event.now c.requires.going plain
    (counted_ok c.args.event.now c.args.self.now c.happen.new.self c.count.new.self c.in_ok-unspent.ensures c.in_ok-answer.ensures.ok c.count.ensures c.in_ok-weighed.ensures)
