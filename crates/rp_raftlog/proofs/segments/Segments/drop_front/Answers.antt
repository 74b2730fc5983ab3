use Rattle.std.proofs.Common.{ap}
use Rattle.rp_raftlog.proofs.InSegments.{without_first, within}
use Rattle.rp_raftlog.proofs.segments.Segments.drop_front.Goals as goal

pub invariant_of-self : goal.invariant_of-self
invariant_of-self c =
    let e = ap (λ v. v.entries) c.self.view_is in
    (without_first _ _ _ _ _ _ c.self.invariant e (within _ _ _ _ _ c.self.invariant e c.requires) c.drop_segments.ensures.items).are

pub returns-clause-entries : goal.returns-clause-entries
returns-clause-entries c =
    let e = ap (λ v. v.entries) c.self.view_is in
    (without_first _ _ _ _ _ _ c.self.invariant e (within _ _ _ _ _ c.self.invariant e c.requires) c.drop_segments.ensures.items).shows
