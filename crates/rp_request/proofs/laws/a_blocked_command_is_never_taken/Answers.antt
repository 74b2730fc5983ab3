use Rattle.rp_request.proofs.Numbers.{blocked_never}
use Rattle.rp_request.proofs.laws.a_blocked_command_is_never_taken.Goals as goal

pub returns : goal.returns
returns c = blocked_never
