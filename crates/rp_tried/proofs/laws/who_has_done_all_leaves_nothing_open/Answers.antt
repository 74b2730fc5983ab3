use Rattle.rp_tried.proofs.laws.who_has_done_all_leaves_nothing_open.Goals as goal
use Rattle.rp_tried.proofs.Ended.{not_open, none_open}

pub returns-clause-command : goal.returns-clause-command
returns-clause-command c = not_open

pub returns-clause-all : goal.returns-clause-all
returns-clause-all c = none_open
