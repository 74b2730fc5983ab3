use Rattle.rp_told.proofs.laws.replies_are_those_of_what_was_asked.Goals as goal
use Rattle.rp_told.proofs.Replying.{replies_of_ids, replies_of_book}

pub returns : goal.returns
returns c = record { ids = replies_of_ids; book = replies_of_book }
