use Rattle.std.proofs.Common.{◌≡◌, ◌+◌, length, sym, subst, ◌∙◌}
use Rattle.std.proofs.lemmas.Result.{err_from_is_err_and}
use Rattle.rp_base.specs.Gives.{Fails}
use Rattle.rp_lines.specs.Settling.{passes_numbered}
use Rattle.rp_world.specs.Plays.{limit_of}
use Rattle.rp_world.specs.Settled.{passed}
use Rattle.rp_world.proofs.Rounds.{numbers_more, numbers_end, numbers_done}
use Rattle.rp_world.proofs.worlds.World.passes_all.Goals as goal

pub loop-number-preserved : goal.loop-number-preserved
loop-number-preserved c = record {
  leads = sym (numbers_more (passes_numbered c.args.sender) (length c.sent_by.result.now + 1) c.loop-number.number c.loop-number.self c.passes.new.self c.loop-number-test.true c.in_ok-passes.ensures.does) ∙ c.loop-number.invariant.leads;
  going = c.in_ok-passes.ensures.going;
  many = c.in_ok-passes.ensures.nodes ∙ c.loop-number.invariant.many;
}

pub returns-in_err-passes-clause-does : goal.returns-in_err-passes-clause-does
unfolding passed
returns-in_err-passes-clause-does c = let p = err_from_is_err_and c.from_residual.result c.from_residual.ensures.1 in
    rw (p.1, p.2) (subst (Fails (limit_of c.in_err-passes.field-0.0)) c.loop-number.invariant.leads
    (numbers_end (limit_of c.in_err-passes.field-0.0) (passes_numbered c.args.sender) (length c.sent_by.result.now + 1) c.loop-number.number c.loop-number.self c.loop-number-test.true c.in_err-passes.ensures.does))
