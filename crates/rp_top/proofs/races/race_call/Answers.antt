use Rattle.rp_top.proofs.RaceProof.{complete_race, no_usage_race, open_race, shown_race}
use Rattle.rp_top.proofs.races.race_call.Goals as goal

pub returns-clause-headline : goal.returns-clause-headline
returns-clause-headline g c = shown_race _ _ _ _ _ c.call.ensures.answers

pub returns-clause-unfinished : goal.returns-clause-unfinished
returns-clause-unfinished g c = open_race _ _ _ _ _ c.call.ensures.answers

pub returns-clause-usage : goal.returns-clause-usage
returns-clause-usage g c = no_usage_race _ _ _ _ _ c.call.ensures.answers

pub returns-clause-complete : goal.returns-clause-complete
returns-clause-complete g c = complete_race _ _ _ _ _ _ _ c.call.ensures.answers c.call.ensures.read_fault c.call.ensures.write_fault
