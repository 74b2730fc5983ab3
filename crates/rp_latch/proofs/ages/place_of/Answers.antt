use Rattle.std.proofs.Common.{◌<◌, ◌≤◌, ltb, ltb-true, ltb-false, rules, refl}
use Rattle.std.proofs.lemmas.List.Sorted.{IsPartitionPoint-from_clause, IsPartitionedBy-ltb}
use Rattle.rp_latch.proofs.Elements.{point_before, point_after}
use Rattle.rp_latch.proofs.Order.{numbers_rise}
use Rattle.rp_latch.proofs.ages.place_of.Goals as goal

pub returns-clause-before : goal.returns-clause-before
returns-clause-before c =
    let hs = c.args.holds.now.items in let n = c.args.number in
    point_before (λ h. ltb h.number n) (λ h. h.number < n) hs hs c.partition_point.result refl (λ x e. ltb-true _ _ e)
    (IsPartitionPoint-from_clause (λ h. ltb h.number n) hs c.partition_point.result c.partition_point.ensures.partitioned
    (IsPartitionedBy-ltb (λ h. h.number) hs n (numbers_rise hs c.requires)) (λ a r q k. search rules))

pub returns-clause-after : goal.returns-clause-after
returns-clause-after c =
    let hs = c.args.holds.now.items in let n = c.args.number in
    point_after (λ h. ltb h.number n) (λ h. n ≤ h.number) hs hs c.partition_point.result refl (λ x e. ltb-false _ _ e)
    (IsPartitionPoint-from_clause (λ h. ltb h.number n) hs c.partition_point.result c.partition_point.ensures.partitioned
    (IsPartitionedBy-ltb (λ h. h.number) hs n (numbers_rise hs c.requires)) (λ a r q k. search rules))
