use Rattle.rp_serving.proofs.Stages.{may_deliver_next}
use Rattle.rp_serving.proofs.Stepping.{delivers_ok, still_ok}
use Rattle.rp_serving.proofs.turns.Turn.deliver.Goals as goal

pub happen-requires-clause-may : goal.happen-requires-clause-may
happen-requires-clause-may g c =
    may_deliver_next _ _ _ _ _ _ c.args.letter _ _ c.requires.next.left.saw c.requires.next.left.apart c.requires.next.left.left c.requires.stage

pub returns-clause-ok : goal.returns-clause-ok
returns-clause-ok g c = delivers_ok _ _ _ _ c.happen.result c.args.from c.args.letter _ _ c.happen.ensures.ok

pub returns-clause-under_way : goal.returns-clause-under_way
returns-clause-under_way g c = still_ok _ _ _ _ c.happen.result _ _ _ c.requires.under_way c.happen.ensures.ok c.happen.ensures.err
