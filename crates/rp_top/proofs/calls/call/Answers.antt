use Rattle.rp_top.proofs.RunProof.{answered, ended_in_play, shown_run}
use Rattle.rp_top.proofs.calls.call.Goals as goal

pub returns-in-Ok-clause-answers : goal.returns-in-Ok-clause-answers
returns-in-Ok-clause-answers g c = answered _ _ _ _ _ c.in-Ok.lines _ c.in-Ok.ensures.script c.as_slice.ensures c.put_run.ensures.answers

pub returns-in-Ok-clause-headline : goal.returns-in-Ok-clause-headline
returns-in-Ok-clause-headline g c = shown_run _ _ _ _ _ c.in-Ok.lines _ c.in-Ok.ensures.script c.as_slice.ensures c.put_run.ensures.answers c.put_run.ensures.reached

pub returns-in-Ok-clause-early : goal.returns-in-Ok-clause-early
returns-in-Ok-clause-early g c =
    ended_in_play _ _ _ _ _ _ c.in-Ok.lines _ c.in-Ok.ensures.script c.as_slice.ensures c.in-Ok.ensures.end c.put_run.ensures.answers
