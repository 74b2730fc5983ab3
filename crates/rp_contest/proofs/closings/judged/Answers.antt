use Rattle.std.proofs.Common.{length, subst}
use Rattle.rp_racelines.specs.Verdicts.{EndsBy}
use Rattle.rp_switch.specs.Openings.{bare}
use Rattle.rp_contest.proofs.Judging.{goes_on_full}
use Rattle.rp_contest.proofs.closings.judged.Goals as goal

pub returns-clause-goes_on : goal.returns-clause-goes_on
returns-clause-goes_on c = λ is.
    let rules = c.args.rules.now in
    let w = bare c.args.nodes in
    goes_on_full (length c.args.nodes) rules w c.requires.run (subst (EndsBy rules w) is c.judge-verdict.ensures)
