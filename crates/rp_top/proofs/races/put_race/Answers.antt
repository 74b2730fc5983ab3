use Rattle.rp_top.proofs.RaceProof.{no_memory_race, written_race}
use Rattle.rp_top.proofs.races.put_race.Goals as goal

pub returns-in_default-clause-answers : goal.returns-in_default-clause-answers
returns-in_default-clause-answers g c = no_memory_race _

pub returns-in-Ok-put_all-clause-answers : goal.returns-in-Ok-put_all-clause-answers
returns-in-Ok-put_all-clause-answers g c =
    written_race c.args.plan c.args.lines.now c.in-Ok.end.status c.in-Ok.end.text _ _ c.in-Ok.ensures (rw c.as_bytes.ensures at c.in-Ok-put_all.ensures.ok)
