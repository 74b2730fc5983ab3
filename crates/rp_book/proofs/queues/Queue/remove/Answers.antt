use Rattle.std.proofs.Common.{◌≡◌, ◌&&◌, not, List, length, ap, sym, subst, ◌∙◌}
use Rattle.rp_base.specs.Ids.{same_id}
use Rattle.rp_base.specs.declared.ids.CmdId.{CmdId}
use Rattle.rp_book.specs.Queueing.{has}
use Rattle.rp_book.proofs.Firsts.{any_at, fewer_by, has_removed}
use Rattle.rp_book.proofs.queues.Queue.remove.Goals as goal

pub returns-clause-has : goal.returns-clause-has
returns-clause-has c =
    subst (λ (ids : List CmdId). (other : CmdId) → has other c.remove.new.self.keys ≡ (not (same_id other c.args.id) && has other ids)) c.self.view_is
    (has_removed c.args.id c.self.inside.ids.keys c.remove.new.self.keys c.remove.ensures.updates.0)

pub returns-clause-fewer : goal.returns-clause-fewer
returns-clause-fewer c h =
    fewer_by c.remove.result (length c.remove.new.self.keys) (length c.self.inside.ids.keys) (c.remove.ensures.test ∙ any_at c.args.id c.self.inside.ids.keys ∙ ap (has c.args.id) c.self.view_is ∙ h) c.remove.ensures.len
    ∙ ap (λ (ids : List CmdId). length ids) c.self.view_is
