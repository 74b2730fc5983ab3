use Rattle.std.proofs.Common.{◌≡◌, [], ◌∷◌, ◌++◌, ap, arith, rules}
use Rattle.rp_raftlog.proofs.InSegments.{with_one_more}
use Rattle.rp_raftlog.proofs.segments.Segments.add_segment.Goals as goal

pub invariant_of-self-2 : goal.invariant_of-self-2
invariant_of-self-2 c =
    let e : c.push_back.new.self.items ≡ c.self.inside.segments.items ++ [] ∷ [] = search rules in
    (with_one_more _ _ _ _ _ c.self.invariant (ap (λ v. v.entries) c.self.view_is) e (omega arith)).are
