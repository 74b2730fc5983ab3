use Rattle.rp_store.proofs.Fronts.{gives_some}
use Rattle.rp_store.proofs.laws.each_file_gives_an_answer.Goals as goal

pub returns : goal.returns
returns c = gives_some
