use Rattle.std.proofs.Common.{◌≡◌, sym, subst, ◌∙◌}
use Rattle.std.proofs.lemmas.Result.{err_from_is_err_and}
use Rattle.rp_base.specs.Gives.{Fails}
use Rattle.rp_events.specs.declared.world_events.WorldEvent.TheVariants as events
use Rattle.rp_lines.specs.Players.{did}
use Rattle.rp_world.specs.Plays.{limit_of}
use Rattle.rp_world.proofs.Rounds.{times_more, times_end, times_done}
use Rattle.rp_world.proofs.worlds.World.applies_range.Goals as goal

pub loop-turn-preserved : goal.loop-turn-preserved
loop-turn-preserved c = record {
  leads = sym (times_more (did (events.Apply c.args.node c.args.range)) c.left_to_apply-left.result c.loop-turn._turn c.loop-turn.self c.quietly.new.self c.loop-turn-test.true c.in_ok-quietly.ensures.does) ∙ c.loop-turn.invariant.leads;
  going = c.in_ok-quietly.ensures.going;
  many = c.in_ok-quietly.ensures.nodes ∙ c.loop-turn.invariant.many;
}

pub returns-in_err-quietly-clause-does : goal.returns-in_err-quietly-clause-does
returns-in_err-quietly-clause-does c = let p = err_from_is_err_and c.from_residual.result c.from_residual.ensures.1 in
    rw (p.1, p.2) (subst (Fails (limit_of c.in_err-quietly.field-0.0)) c.loop-turn.invariant.leads
    (times_end (limit_of c.in_err-quietly.field-0.0) (did (events.Apply c.args.node c.args.range)) c.left_to_apply-left.result c.loop-turn._turn c.loop-turn.self c.loop-turn-test.true c.in_err-quietly.ensures.does))

pub returns-clause-does : goal.returns-clause-does
returns-clause-does c = sym c.loop-turn.invariant.leads ∙ times_done (did (events.Apply c.args.node c.args.range)) c.left_to_apply-left.result c.loop-turn._turn c.loop-turn.self c.loop-turn-test.false
