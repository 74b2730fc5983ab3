use Rattle.rp_journals.proofs.laws.each_journal_replays_its_node.Goals as goal
use Rattle.rp_journals.proofs.Reading.{replays, reads_back, stands_now}

pub returns : goal.returns
returns c = record { replays = replays; reads = reads_back; now = λ nodes w reached node n has. stands_now w n (reads_back nodes w reached node n has) }
