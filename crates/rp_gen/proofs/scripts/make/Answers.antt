use Rattle.std.proofs.Common.{◌∙◌}
use Rattle.rp_gen.specs.Scripts.{begun}
use Rattle.rp_gen.proofs.Commands.{no_commands, one_more}
use Rattle.rp_gen.proofs.scripts.make.Goals as goal

pub loop-before-init : goal.loop-before-init
loop-before-init c = c.in_ok-draft.ensures ∙ no_commands c.args.size (begun c.args.number)

pub loop-before-preserved : goal.loop-before-preserved
loop-before-preserved c =
    c.in_ok-next.ensures
    ∙ one_more c.args.size c.loop-before.before c.loop-before.draft (begun c.args.number) c.loop-before.invariant
