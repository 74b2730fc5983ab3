use Rattle.rp_journals.proofs.laws.each_entry_was_written.Goals as goal
use Rattle.rp_journals.proofs.Writing.{written}

pub returns : goal.returns
returns c = written
