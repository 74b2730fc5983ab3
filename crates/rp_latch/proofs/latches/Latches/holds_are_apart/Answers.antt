use Rattle.std.proofs.Common.{ap, ◌∙◌}
use Rattle.std.specs.Prelude.{slice_get}
use Rattle.rp_latch.proofs.Apart.{apart_at, ids_apart}
use Rattle.rp_latch.proofs.latches.Latches.holds_are_apart.Goals as goal

pub returns-clause-places : goal.returns-clause-places
returns-clause-places c = λ i j x y n e f.
    apart_at c.self.inside.holds.items c.self.invariant.apart i j x y n (ap (λ v. slice_get v.list i) c.self.view_is ∙ e) (ap (λ v. slice_get v.list j) c.self.view_is ∙ f)

pub returns-clause-ids : goal.returns-clause-ids
returns-clause-ids c = λ i j x y n e f.
    ids_apart c.self.inside.holds.items c.self.invariant.apart i j x y n (ap (λ v. slice_get v.list i) c.self.view_is ∙ e) (ap (λ v. slice_get v.list j) c.self.view_is ∙ f)
