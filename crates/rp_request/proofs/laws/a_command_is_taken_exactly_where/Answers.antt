use Rattle.rp_request.proofs.Opened.{taken_where}
use Rattle.rp_request.proofs.laws.a_command_is_taken_exactly_where.Goals as goal

pub returns : goal.returns
returns c = taken_where
