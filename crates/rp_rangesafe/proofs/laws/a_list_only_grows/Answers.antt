use Rattle.rp_rangesafe.proofs.Runs.{later_longer, later_entry, later_state}
use Rattle.rp_rangesafe.proofs.laws.a_list_only_grows.Goals as goal

pub returns : goal.returns
returns c = record { length = later_longer; entries = later_entry; states = later_state }
