use Rattle.std.proofs.Common.{rules}
use Rattle.rp_node.proofs.Silence.{counts_more}
use Rattle.rp_node.proofs.cores.Core.count_all.Goals as goal

pub loop-range-preserved : goal.loop-range-preserved
loop-range-preserved c =
    counts_more c.args.self.now c.loop-range.range c.loop-range.self c.count_at.new.self c.loop-range.invariant (search rules) c.count_at.ensures.turn c.count_at.ensures.others c.count_at.ensures.ticks c.count_at.ensures.logs
