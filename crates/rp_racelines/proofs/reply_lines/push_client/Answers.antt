use Rattle.std.proofs.Common.{◌∙◌, ◌+◌}
use Rattle.std.specs.Map.{lookup}
use Rattle.rp_racelines.specs.Latest.{is_command}
use Rattle.rp_racelines.proofs.Telling.{lines_more, pushes}
use Rattle.rp_racelines.proofs.reply_lines.push_client.Goals as goal

pub loop-before-preserved : goal.loop-before-preserved
loop-before-preserved c w h = lines_more w c.args.client c.loop-before.before c.args.lines.now.items _ _
    (c.loop-before.invariant w h)
    (c.in_ok-push_line.ensures
    ∙ pushes w c.args.client (c.loop-before.before + 1) (lookup (is_command c.args.client (c.loop-before.before + 1)) c.args.attempts.now.entries)
    c.loop-before.lines.items (h c.args.client (c.loop-before.before + 1)))
