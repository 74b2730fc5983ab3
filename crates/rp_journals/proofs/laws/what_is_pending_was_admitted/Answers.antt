use Rattle.rp_journals.proofs.laws.what_is_pending_was_admitted.Goals as goal
use Rattle.rp_journals.proofs.Coming.{all_from}
use Rattle.rp_journals.proofs.Waiting.{pending_once, pending_is_told, pending_there}

pub returns : goal.returns
returns c = record { from = all_from; distinct = pending_once; held = pending_is_told; there = pending_there }
