use Rattle.std.proofs.Common.{◌∙◌}
use Rattle.rp_auditor.proofs.PlayLaws.{start_none}
use Rattle.rp_auditor.proofs.ranges.start_step.Goals as goal

pub returns-in_default : goal.returns-in_default
returns-in_default c =
    start_none c.args.ranges.now c.args.range c.args.left (λ zero_range. c.if-get-eq0.false (c.get.ensures.value ∙ zero_range)) c.in_default.is
