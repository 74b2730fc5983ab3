use Rattle.std.proofs.Common.{length, ap, arith, ◌∙◌}
use Rattle.rp_pending.specs.Bounds.{seen, wanted_of}
use Rattle.rp_pending.proofs.Passing.{seen_all, whole}
use Rattle.rp_pending.proofs.shelf.Shelf.dues.Goals as goal

pub returns : goal.returns
returns c =
    let es = c.args.self.now.entries in
    c.loop-at.invariant ∙ ap (seen c.args.wanted) (whole es c.loop-at.at (omega (arith, c.loop-at-test.false, c.len.ensures.len, ap (λ v. length v.entries) c.self.view_is))) ∙ seen_all (wanted_of c.args.wanted) es
