use Rattle.rp_journals.proofs.laws.a_world_is_told_by_its_lists.Goals as goal
use Rattle.rp_journals.proofs.Alike.{told_by_lists}

pub returns : goal.returns
returns c = told_by_lists
