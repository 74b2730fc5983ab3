use Rattle.std.proofs.Common.{ap, arith}
use Rattle.rp_raftlog.proofs.InSegments.{has_room, with_entry}
use Rattle.rp_raftlog.proofs.segments.Segments.push.Goals as goal

pub push-requires : goal.push-requires
push-requires c =
    let spare = ap (λ v. v.spare) c.self.view_is in
    has_room _ _ _ _ c.self.invariant (omega arith) c.index_mut.ensures.value

pub overflow_add-self : goal.overflow_add-self
overflow_add-self c =
    let spare = ap (λ v. v.spare) c.self.view_is in
    let fits = c.self.invariant.fits in
    omega arith

pub invariant_of-self : goal.invariant_of-self
invariant_of-self c =
    let spare = ap (λ v. v.spare) c.self.view_is in
    (with_entry _ _ _ _ _ _ _ c.self.invariant (ap (λ v. v.entries) c.self.view_is) (omega arith) c.index_mut.ensures.value c.push.ensures).are

pub returns-clause-entries : goal.returns-clause-entries
returns-clause-entries c =
    let spare = ap (λ v. v.spare) c.self.view_is in
    (with_entry _ _ _ _ _ _ _ c.self.invariant (ap (λ v. v.entries) c.self.view_is) (omega arith) c.index_mut.ensures.value c.push.ensures).shows
