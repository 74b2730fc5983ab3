use Rattle.std.proofs.Common.{ap, sym, subst, ◌∙◌}
use Rattle.rp_pending.specs.Slots.{AreSound}
use Rattle.rp_pending.specs.Turns.{dropped_back}
use Rattle.rp_pending.proofs.Keeping.{kept_staying}
use Rattle.rp_pending.proofs.lists.Pending.drop_back.Goals as goal

pub invariant_of-self : goal.invariant_of-self
invariant_of-self c =
    let k = c.keep_staying.ensures in
    subst (λ n. AreSound c.keep_staying.new.self.entries n) (sym c.len-self-inside.ensures.len) (kept_staying c.args.lai _ _ _ c.self.invariant k.entries k.distinct).0

pub returns-clause-list : goal.returns-clause-list
returns-clause-list c =
    let k = c.keep_staying.ensures in
    (kept_staying c.args.lai _ _ _ c.self.invariant k.entries k.distinct).1 ∙ ap (λ v. dropped_back c.args.lai v.list) c.self.view_is
