use Rattle.std.proofs.Common.{sym, subst, ◌∙◌}
use Rattle.rp_pending.specs.Bounds.{Covers, Shelved}
use Rattle.rp_pending.proofs.Passing.{over}
use Rattle.rp_pending.proofs.shelf.Shelf.step.Goals as goal

pub returns-then-over-gt0-clause-dues : goal.returns-then-over-gt0-clause-dues
returns-then-over-gt0-clause-dues c so_far =
    let covers = subst (λ (v : Shelved). Covers c.self.inside.bounds.narrow.items v.entries) c.self.view_is c.self.invariant.0 in
    so_far ∙ sym (over c.args.wanted.now c.args.self.now.entries c.args.at c.passed-over.result (c.passed-over.ensures.passed c.args.self.now.entries covers c.self.invariant.1))
