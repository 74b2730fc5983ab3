use Rattle.std.proofs.Common.{◌≡◌, take, length, ap, sym, subst, ◌∙◌}
use Rattle.rp_events.specs.Lawful.{IsReached}
use Rattle.rp_lines.specs.Players.{Player}
use Rattle.rp_world.proofs.Running.{all_ran_world, ran_reached, run_on}
use Rattle.rp_world.proofs.worlds.World.run.Goals as goal

pub loop-event-preserved : goal.loop-event-preserved
loop-event-preserved c = (
  c.in_ok-run_one.ensures.ok
      ∙ run_on c.args.self.now c.loop-event.self c.args.events.now c.loop-event.event-index c.event-item.result c.loop-event-test.true c.event-item.is c.loop-event.invariant.0,
  subst (λ (p : Player). IsReached (length p.world.nodes) p.world.nodes) (sym c.in_ok-run_one.ensures.ok) (ran_reached c.loop-event.self c.event-item.result c.event_fits.ensures c.loop-event.invariant.1),
)

pub returns-clause-world : goal.returns-clause-world
returns-clause-world c = all_ran_world c.args.self.now c.loop-event.self c.args.events.now c.loop-event.event-index c.loop-event-test.false c.loop-event.invariant.0
