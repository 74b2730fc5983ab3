use Rattle.rp_store.proofs.Settled.{empty_gives}
use Rattle.rp_store.proofs.laws.the_empty_file_is_whole.Goals as goal

pub returns : goal.returns
returns c = empty_gives
