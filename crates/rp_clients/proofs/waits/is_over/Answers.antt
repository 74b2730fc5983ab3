use Rattle.std.proofs.Common.{◌∙◌}
use Rattle.rp_clients.proofs.Learning.{learnt_nothing}
use Rattle.rp_clients.proofs.waits.is_over.Goals as goal

pub returns-in-Ok-Ended : goal.returns-in-Ok-Ended
returns-in-Ok-Ended g c = (rw c.in-Ok-Ended.field-0-is at c.in-Ok-Ended.ensures.after) ∙ learnt_nothing _ _ _ c.requires
