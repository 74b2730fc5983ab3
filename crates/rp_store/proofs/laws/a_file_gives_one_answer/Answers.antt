use Rattle.rp_store.proofs.Files.{gives_one}
use Rattle.rp_store.proofs.laws.a_file_gives_one_answer.Goals as goal

pub returns : goal.returns
returns c = gives_one
