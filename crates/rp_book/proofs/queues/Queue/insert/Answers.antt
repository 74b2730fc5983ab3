use Rattle.std.proofs.Common.{◌≡◌, ◌||◌, List, subst}
use Rattle.rp_base.specs.Ids.{same_id}
use Rattle.rp_base.specs.declared.ids.CmdId.{CmdId}
use Rattle.rp_book.specs.Queueing.{has}
use Rattle.rp_book.proofs.Firsts.{has_inserted}
use Rattle.rp_book.proofs.queues.Queue.insert.Goals as goal

pub returns-clause-ok : goal.returns-clause-ok
returns-clause-ok c =
    subst (λ (ids : List CmdId). (other : CmdId) → has other c.insert.new.self.keys ≡ (same_id other c.args.id || has other ids)) c.self.view_is
    (has_inserted c.args.id c.self.inside.ids.keys c.insert.new.self.keys c.in_ok-insert.ensures.updates.0)
