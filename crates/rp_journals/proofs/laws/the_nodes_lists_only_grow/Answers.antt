use Rattle.rp_journals.proofs.laws.the_nodes_lists_only_grow.Goals as goal
use Rattle.rp_journals.proofs.Growing.{scene_grows, run_grows, later_grows, reached_later, later_trans}

pub returns : goal.returns
returns c = record { scene = scene_grows; schedule = λ w xs. run_grows xs w; later = later_grows; reached = reached_later; further = later_trans }
