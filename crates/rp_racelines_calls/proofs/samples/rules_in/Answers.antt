use Rattle.rp_racelines_calls.proofs.Counting.{few}
use Rattle.rp_racelines_calls.proofs.samples.rules_in.Goals as goal

pub returns-in-Ok-clause-commands : goal.returns-in-Ok-clause-commands
returns-in-Ok-clause-commands c = few 5 9 c.args.lines.now c.in-Ok.rules c.in-Ok.ensures.rules c.requires
