use Rattle.std.proofs.Common.{◌∙◌, map}
use Rattle.rp_racelines.proofs.Judged.{any_mapped, is_out, not_out}
use Rattle.rp_racelines.proofs.race_ends.is_waited_out.Goals as goal

pub returns-then-have_rounds : goal.returns-then-have_rounds
returns-then-have_rounds g c = is_out c.args.rounds (map (λ h. h.node) c.args.nodes.now) c.have_rounds.result c.some_waited.result
    c.if-have_rounds.true c.have_rounds.ensures (c.some_waited.ensures ∙ any_mapped _ c.args.nodes.now)

pub returns-else-have_rounds : goal.returns-else-have_rounds
returns-else-have_rounds g c = not_out c.args.rounds (map (λ h. h.node) c.args.nodes.now) c.have_rounds.result c.if-have_rounds.false c.have_rounds.ensures
