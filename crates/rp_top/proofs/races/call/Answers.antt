use Rattle.rp_top.proofs.RaceProof.{never_early, raced_answers, unread_race}
use Rattle.rp_top.proofs.races.call.Goals as goal

pub returns-in-Ok-clause-answers : goal.returns-in-Ok-clause-answers
returns-in-Ok-clause-answers g c = raced_answers _ _ _ _ _ c.in-Ok.lines _ c.in-Ok.ensures.script c.as_slice.ensures c.put_race.ensures.answers

pub returns-in-Ok-clause-early : goal.returns-in-Ok-clause-early
returns-in-Ok-clause-early g c = λ fault. never_early _ _ _ _ _ fault _ c.put_race.ensures.answers

pub returns-in-Err-ReadFault-clause-answers : goal.returns-in-Err-ReadFault-clause-answers
returns-in-Err-ReadFault-clause-answers g c = unread_race _ _

pub returns-in-Err-NoMemory-clause-answers : goal.returns-in-Err-NoMemory-clause-answers
returns-in-Err-NoMemory-clause-answers g c = unread_race _ _
