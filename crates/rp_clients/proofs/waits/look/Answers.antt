use Rattle.std.proofs.Common.{◌∙◌, sym}
use Rattle.rp_base.proofs.IdLaws.{same_is}
use Rattle.rp_clients.proofs.Learning.{hears_it, hears_nothing}
use Rattle.rp_clients.proofs.waits.look.Goals as goal

pub returns-then-is_same-clause-after : goal.returns-then-is_same-clause-after
returns-then-is_same-clause-after g c =
    (rw c.in-Ok-Ended.field-0-is at c.in-Ok-Ended.ensures.after)
    ∙ hears_it c.args.id c.in-Ok-Ended.ended _ _ c.requires (same_is c.in-Ok-Ended.ended c.args.id (sym c.is_same.ensures ∙ c.if-is_same.true))

pub returns-else-is_same-clause-after : goal.returns-else-is_same-clause-after
returns-else-is_same-clause-after g c =
    (rw c.in-Ok-Ended.field-0-is at c.in-Ok-Ended.ensures.after)
    ∙ hears_nothing c.args.id c.in-Ok-Ended.ended _ _ c.requires (sym c.is_same.ensures ∙ c.if-is_same.false)
