use Rattle.std.proofs.Common.{◌≡◌, sym, subst, ◌∙◌}
use Rattle.std.proofs.lemmas.Result.{err_from_is_err_and}
use Rattle.rp_base.specs.Gives.{Fails}
use Rattle.rp_world.specs.Plays.{limit_of}
use Rattle.rp_world.specs.Settled.{rounded}
use Rattle.rp_world.proofs.Rounds.{times_more, times_end, times_done}
use Rattle.rp_world.proofs.worlds.World.settles.Goals as goal

pub loop-round-preserved : goal.loop-round-preserved
loop-round-preserved c = record {
  leads = sym (times_more rounded c.args.rounds c.loop-round._round c.loop-round.self c.round.new.self c.loop-round-test.true c.in_ok-round.ensures.does) ∙ c.loop-round.invariant.leads;
  going = c.in_ok-round.ensures.going;
  many = c.in_ok-round.ensures.nodes ∙ c.loop-round.invariant.many;
}

pub returns-in_err-round-clause-does : goal.returns-in_err-round-clause-does
unfolding rounded
returns-in_err-round-clause-does c = let p = err_from_is_err_and c.from_residual.result c.from_residual.ensures.1 in
    rw (p.1, p.2) (subst (Fails (limit_of c.in_err-round.field-0.0)) c.loop-round.invariant.leads
    (times_end (limit_of c.in_err-round.field-0.0) rounded c.args.rounds c.loop-round._round c.loop-round.self c.loop-round-test.true c.in_err-round.ensures.does))

pub returns-clause-does : goal.returns-clause-does
unfolding rounded
returns-clause-does c = sym c.loop-round.invariant.leads ∙ times_done rounded c.args.rounds c.loop-round._round c.loop-round.self c.loop-round-test.false
