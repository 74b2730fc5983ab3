use Rattle.std.proofs.Common.{List, Some, subst}
use Rattle.rp_base.specs.declared.ids.CmdId.{CmdId}
use Rattle.rp_book.specs.Queueing.{IsHead}
use Rattle.rp_book.proofs.Firsts.{head_is}
use Rattle.rp_book.proofs.queues.Queue.head.Goals as goal

pub returns-in-Some : goal.returns-in-Some
returns-in-Some c =
    subst (λ (ids : List CmdId). IsHead ids (Some c.in-Some.id.now)) c.self.view_is
    (head_is c.in-Some.id.now c.self.inside.ids.keys c.in-Some.ensures.member c.in-Some.ensures.least)
