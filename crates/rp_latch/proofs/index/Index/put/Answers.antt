use Rattle.std.proofs.Common.{ap, ◌∙◌, subst, sym}
use Rattle.std.specs.List.{insert}
use Rattle.rp_latch.specs.Indexes.{InOrder}
use Rattle.rp_latch.proofs.Places.{put_in_order}
use Rattle.rp_latch.proofs.index.Index.put.Goals as goal

pub invariant_of-self : goal.invariant_of-self
invariant_of-self c =
    subst InOrder (sym (c.insert.ensures.list ∙ ap (λ v. insert v.list c.starts_below-at.result c.args.latch) c.self.view_is))
    (put_in_order c.args.self.now.list _ _ (subst InOrder (ap (λ v. v.list) c.self.view_is) c.self.invariant)
    c.starts_below-at.ensures.within c.starts_below-at.ensures.before c.starts_below-at.ensures.after c.requires.clear)
