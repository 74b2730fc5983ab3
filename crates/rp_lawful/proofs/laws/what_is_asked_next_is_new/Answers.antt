use Rattle.rp_lawful.proofs.laws.what_is_asked_next_is_new.Goals as goal
use Rattle.rp_lines.specs.Players.{next_command}
use Rattle.rp_lines.specs.Commands.{following}
use Rattle.rp_lawful.proofs.Nexts.{unbooked_unasked, next_new, further_new, fits_both}

pub returns : goal.returns
returns c = record {
  next = λ k p s client is. (unbooked_unasked k p s (next_command p client) (next_new k p s client), next_new k p s client);
  further = λ k p s client seq id b is. (unbooked_unasked k p s (following id) (further_new k p s client seq id b is), further_new k p s client seq id b is);
  fits = λ k p s short id b is. fits_both k p s id b is short;
}
