use Rattle.clap.specs.Matches.{found_of}
use Rattle.rp_words.proofs.Judged.{entered_asks}
use Rattle.rp_words.proofs.readings.found.Goals as goal

pub returns-in-Some-clause-asked : goal.returns-in-Some-clause-asked
returns-in-Some-clause-asked c =
    entered_asks c.args.matches.now c.in-Some.name.now (found_of c.in-Some.inner.now) c.asked.result c.asked.ensures.asked c.in-Some.ensures.name c.in-Some.ensures.rows
