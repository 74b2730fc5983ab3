use Rattle.std.proofs.Common.{IsTrue, IsFalse, ap, rules}
use Rattle.std.proofs.lemmas.List.Sorted.{IsPartitionPoint-from_clause}
use Rattle.rp_latch.specs.Indexes.{is_before}
use Rattle.rp_latch.proofs.Elements.{point_before, point_after}
use Rattle.rp_latch.proofs.Ids.{parted}
use Rattle.rp_latch.proofs.tags.Tags.place_of.Goals as goal

pub returns-clause-before : goal.returns-clause-before
returns-clause-before c =
    let ts = c.self.inside.tags.items in let id = c.args.id in
    point_before (is_before id) (λ t. IsTrue (is_before id t)) ts _ c.partition_point.result (ap (λ v. v.list) c.self.view_is) (λ x e. e)
    (IsPartitionPoint-from_clause (is_before id) ts c.partition_point.result c.partition_point.ensures.partitioned
    (parted ts id c.self.invariant) (λ a r q k. search rules))

pub returns-clause-after : goal.returns-clause-after
returns-clause-after c =
    let ts = c.self.inside.tags.items in let id = c.args.id in
    point_after (is_before id) (λ t. IsFalse (is_before id t)) ts _ c.partition_point.result (ap (λ v. v.list) c.self.view_is) (λ x e. e)
    (IsPartitionPoint-from_clause (is_before id) ts c.partition_point.result c.partition_point.ensures.partitioned
    (parted ts id c.self.invariant) (λ a r q k. search rules))
