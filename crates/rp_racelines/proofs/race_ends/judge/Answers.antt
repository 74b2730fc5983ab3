use Rattle.std.proofs.Common.{map, subst}
use Rattle.rp_racelines.specs.Verdicts.{EndsBy}
use Rattle.rp_racelines.proofs.race_ends.judge.Goals as goal

pub returns : goal.returns
returns g c = subst (λ xs. EndsBy c.args.rules.now (map (λ h. h.node) xs) c.verdict_of.result) c.as_slice.ensures c.verdict_of.ensures
