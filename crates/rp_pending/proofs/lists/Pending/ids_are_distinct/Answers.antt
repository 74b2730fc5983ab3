use Rattle.std.proofs.Common.{map, subst}
use Rattle.std.specs.List.{IsDistinct}
use Rattle.rp_base.specs.Ids.{same_id}
use Rattle.rp_pending.proofs.Finding.{ids_apart}
use Rattle.rp_pending.proofs.lists.Pending.ids_are_distinct.Goals as goal

pub returns : goal.returns
returns c = subst (λ v. IsDistinct same_id (map (λ p. p.id) v.list)) c.self.view_is (ids_apart c.self.inside.slots.entries c.self.invariant.distinct c.self.invariant.named)
