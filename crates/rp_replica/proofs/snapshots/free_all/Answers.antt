use Rattle.std.proofs.Common.{sym, ap, ◌∙◌}
use Rattle.std.proofs.lemmas.List.{drop_all}
use Rattle.rp_events.specs.Ends.{held_by_others}
use Rattle.rp_replica.proofs.Ending.{all_held, one_more_freed}
use Rattle.rp_replica.proofs.snapshots.free_all.Goals as goal

pub loop-end-preserved : goal.loop-end-preserved
loop-end-preserved c =
    one_more_freed c.args.ended.now c.loop-end.end-index c.end-item.result c.loop-end.latches.list c.free.new.self.list _
    c.loop-end-test.true c.end-item.is c.free.ensures.list c.loop-end.invariant

pub returns : goal.returns
returns c =
    sym (all_held c.loop-end.latches.list)
    ∙ ap (λ es. held_by_others es c.loop-end.latches.list) (sym (drop_all c.loop-end.end-index c.args.ended.now c.loop-end-test.false))
    ∙ c.loop-end.invariant
