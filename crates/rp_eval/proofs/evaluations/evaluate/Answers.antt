use Rattle.rp_eval.proofs.Does.{gives_does, gives_at, gives_wipe}
use Rattle.rp_eval.proofs.evaluations.evaluate.Goals as goal

pub returns-in-Put-clause-gives : goal.returns-in-Put-clause-gives
returns-in-Put-clause-gives c = gives_at _ _ _ _ _ c.in-Put.is (c.put.ensures c.args.desc)

pub returns-in-Put-clause-does : goal.returns-in-Put-clause-does
returns-in-Put-clause-does c = gives_does _ _ _ _ _ c.in-Put.is (c.put.ensures c.args.desc)

pub returns-in-Add-clause-does : goal.returns-in-Add-clause-does
returns-in-Add-clause-does c = gives_does _ _ _ _ _ c.in-Add.is (c.add.ensures c.args.desc)

pub returns-in-CPut-clause-does : goal.returns-in-CPut-clause-does
returns-in-CPut-clause-does c = gives_does _ _ _ _ _ c.in-CPut.is (c.put_if.ensures c.args.desc)

pub returns-in-Del-clause-gives : goal.returns-in-Del-clause-gives
returns-in-Del-clause-gives c = gives_at _ _ _ _ _ c.in-Del.is (c.del.ensures c.args.desc)

pub returns-in-Del-clause-does : goal.returns-in-Del-clause-does
returns-in-Del-clause-does c = gives_does _ _ _ _ _ c.in-Del.is (c.del.ensures c.args.desc)

pub returns-in-Wipe-clause-does : goal.returns-in-Wipe-clause-does
returns-in-Wipe-clause-does c =
    gives_does _ _ _ _ _ c.in-Wipe.is (gives_wipe _ _ c.in-Wipe.span c.span.result _ c.span.ensures (c.wipe.ensures c.args.desc))

pub returns-in-Move-clause-does : goal.returns-in-Move-clause-does
returns-in-Move-clause-does c = gives_does _ _ _ _ _ c.in-Move.is (c.pass_on.ensures c.args.desc)

pub returns-in-Split-clause-does : goal.returns-in-Split-clause-does
returns-in-Split-clause-does c = gives_does _ _ _ _ _ c.in-Split.is c.split.ensures
