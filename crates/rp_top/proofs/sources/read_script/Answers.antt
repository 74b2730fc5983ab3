use Rattle.std.proofs.Common.{arith, length-take, ◌∙◌}
use Rattle.rp_top.proofs.ReadsSource.{any_script, came_further, came_so_far, came_no_further, came_stopped, came_whole}
use Rattle.rp_top.proofs.sources.read_script.Goals as goal

pub returns-in_default-clause-script : goal.returns-in_default-clause-script
returns-in_default-clause-script g c = any_script _

pub returns-then-n-eq0-clause-script : goal.returns-then-n-eq0-clause-script
returns-then-n-eq0-clause-script g c =
    came_whole _ _ _ _ _ _ c.loop-n.invariant.came (rw c.if-n-eq0.true at c.in-Ok.ensures.comes) (c.in-Ok.ensures.end c.if-n-eq0.true (omega arith)) c.finish.ensures.gives

pub returns-in-Err-clause-script : goal.returns-in-Err-clause-script
returns-in-Err-clause-script g c = came_stopped _ _ _ _ _ _ c.in-Err.stop c.loop-n.invariant.came c.in-Ok.ensures.comes c.in-Err.ensures.gives

pub returns-in-Err-clause-stops : goal.returns-in-Err-clause-stops
returns-in-Err-clause-stops g c =
    came_no_further _ _ _ _ _ _ c.in-Err.stop c.loop-n.invariant.came c.in-Ok.ensures.comes (grind (arith, length-take, c.if-n-eq0.array_long, c.in-Ok.ensures.within))
    c.in-Err.ensures.gives

pub loop-n-preserved : goal.loop-n-preserved
loop-n-preserved g c = record {
  came = came_further _ _ _ _ _ _ _ c.loop-n.invariant.came c.in-Ok.ensures.comes c.in-Ok-feed.ensures.gives;
  calm = c.in-Ok.ensures.calm ∙ c.loop-n.invariant.calm;
}

pub returns-in_default-clause-fails : goal.returns-in_default-clause-fails
returns-in_default-clause-fails g c = λ failed. came_so_far _ _ _ _ _ c.loop-n.invariant.came c.in_default.ensures.failed
