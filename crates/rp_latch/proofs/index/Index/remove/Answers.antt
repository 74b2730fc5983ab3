use Rattle.std.proofs.Common.{◌+◌, cond, length, ap, ◌∙◌, subst, sym, arith}
use Rattle.std.proofs.lemmas.List.Sums.{sum_by-remove}
use Rattle.std.proofs.lemmas.List.Quantifiers.{all_pairs_remove}
use Rattle.std.specs.List.{remove, count_by}
use Rattle.rp_latch.specs.declared.index.Latch.{Latch}
use Rattle.rp_latch.specs.Indexes.{InOrder, EndsBefore}
use Rattle.rp_latch.proofs.Places.{stands}
use Rattle.rp_latch.proofs.index.Index.remove.Goals as goal

pub remove-requires : goal.remove-requires
remove-requires c =
    let there = stands c.args.self.now.list (subst InOrder (ap (λ v. v.list) c.self.view_is) c.self.invariant) c.args.latch c.starts_below-at.result
    c.starts_below-at.ensures.before c.starts_below-at.ensures.after c.requires in
    let within = there.0 in
    let long = ap (λ v. length v.list) c.self.view_is in
    omega arith

pub invariant_of-self : goal.invariant_of-self
invariant_of-self c =
    let there = stands c.args.self.now.list (subst InOrder (ap (λ v. v.list) c.self.view_is) c.self.invariant) c.args.latch c.starts_below-at.result
    c.starts_below-at.ensures.before c.starts_below-at.ensures.after c.requires in
    let within = there.0 in
    let long = ap (λ v. length v.list) c.self.view_is in
    subst InOrder (sym c.remove.ensures.list) (all_pairs_remove EndsBefore c.self.inside.latches.list c.starts_below-at.result (omega arith) c.self.invariant)

pub returns-clause-list : goal.returns-clause-list
returns-clause-list c =
    let at = c.starts_below-at.result in
    let ls = c.args.self.now.list in
    let there = stands ls (subst InOrder (ap (λ v. v.list) c.self.view_is) c.self.invariant) c.args.latch at c.starts_below-at.ensures.before c.starts_below-at.ensures.after c.requires in
    λ p. ap (λ xs. count_by p xs + cond (p c.args.latch) 1 0) (c.remove.ensures.list ∙ ap (λ v. remove v.list at) c.self.view_is)
    ∙ ap (λ (x : Latch). count_by p (remove ls at) + cond (p x) 1 0) (sym (there.1 c.args.latch))
    ∙ sum_by-remove (λ x. cond (p x) 1 0) ls at c.args.latch there.0
