use Rattle.std.proofs.Common.{refl}
use Rattle.rp_world.proofs.Merging.{begins, ends}
use Rattle.rp_world.proofs.worlds.World.puts_queued.Goals as goal

pub loop-queue-init : goal.loop-queue-init
loop-queue-init c = record {
  way = begins c.args.self.now c.args.queues.now _ refl c.requires.going c.requires.all;
  going = c.requires.going;
  stands = λ whole. c.requires.all;
}

pub returns-clause-does : goal.returns-clause-does
returns-clause-does c = ends c.args.self.now c.loop-queue.self c.loop-queue.queues c.loop-queue.passed c.first.ensures.many c.in_default.ensures.first c.loop-queue.invariant.way
