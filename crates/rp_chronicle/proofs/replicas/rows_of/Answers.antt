use Rattle.std.proofs.Common.{◌∙◌, arith}
use Rattle.rp_chronicle.proofs.Rows.{rows_more, rows_all}
use Rattle.rp_chronicle.proofs.replicas.rows_of.Goals as goal

pub loop-at-preserved : goal.loop-at-preserved
loop-at-preserved c = c.in_ok-push.ensures.items ∙ rows_more _ _ _ _ c.loop-at.invariant (omega arith) c.row-key.ensures

pub returns : goal.returns
returns c = c.from_vec.ensures ∙ rows_all _ _ _ c.loop-at.invariant (omega arith)
