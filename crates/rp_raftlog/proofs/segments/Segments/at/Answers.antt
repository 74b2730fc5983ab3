use Rattle.std.proofs.Common.{ap, arith}
use Rattle.rp_raftlog.proofs.InSegments.{below, in_segment, entry_at_index}
use Rattle.rp_raftlog.proofs.segments.Segments.at.Goals as goal

pub overflow_add-place : goal.overflow_add-place
overflow_add-place c =
    let less = below _ _ _ _ _ c.self.invariant (ap (λ v. v.entries) c.self.view_is) c.requires in
    let room = c.self.invariant.room in
    let fits = c.self.invariant.fits in
    omega arith

pub at-requires : goal.at-requires
at-requires c =
    in_segment _ _ _ _ _ c.self.invariant (below _ _ _ _ _ c.self.invariant (ap (λ v. v.entries) c.self.view_is) c.requires) c.index.ensures

pub returns : goal.returns
returns c =
    let e = ap (λ v. v.entries) c.self.view_is in
    entry_at_index _ _ _ _ _ _ _ c.self.invariant e (below _ _ _ _ _ c.self.invariant e c.requires) c.index.ensures c.at.ensures
