use Rattle.std.proofs.Common.{ap}
use Rattle.rp_raftlog.proofs.InSegments.{without_last, within_one}
use Rattle.rp_raftlog.proofs.segments.Segments.pop.Goals as goal

pub invariant_of-self : goal.invariant_of-self
invariant_of-self c =
    let e = ap (λ v. v.entries) c.self.view_is in
    (without_last _ _ _ _ _ _ c.self.invariant e (within_one _ _ _ _ c.self.invariant e c.requires) c.index_mut.ensures.value c.truncate.ensures).are

pub returns-clause-entries : goal.returns-clause-entries
returns-clause-entries c =
    let e = ap (λ v. v.entries) c.self.view_is in
    (without_last _ _ _ _ _ _ c.self.invariant e (within_one _ _ _ _ c.self.invariant e c.requires) c.index_mut.ensures.value c.truncate.ensures).shows
