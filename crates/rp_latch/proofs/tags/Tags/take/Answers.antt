use Rattle.std.proofs.Common.{◌≡◌, false, length, get_or, ap, ◌∙◌, subst, sym, rules, arith}
use Rattle.std.proofs.lemmas.List.Quantifiers.{all_pairs_remove}
use Rattle.std.specs.List.{remove}
use Rattle.rp_latch.specs.Indexes.{ById, IsNotAfter, has_id}
use Rattle.rp_latch.proofs.Elements.{same_read}
use Rattle.rp_latch.proofs.Ids.{none_has}
use Rattle.rp_latch.proofs.tags.Tags.take.Goals as goal

pub returns-then-at-len-clause-none : goal.returns-then-at-len-clause-none
returns-then-at-len-clause-none c =
    let long = ap (λ v. length v.list) c.self.view_is in
    none_has c.args.self.now.list (subst ById (ap (λ v. v.list) c.self.view_is) c.self.invariant) c.args.id c.place_of-at.result
    c.place_of-at.ensures.before c.place_of-at.ensures.after (λ d l. absurd (omega arith))

pub returns-then-not-has_id-clause-none : goal.returns-then-not-has_id-clause-none
returns-then-not-has_id-clause-none c =
    let ts = c.args.self.now.list in
    let n = c.place_of-at.result in
    let t = c.index.result.now in
    let other : has_id c.args.id t ≡ false = search rules in
    none_has ts (subst ById (ap (λ v. v.list) c.self.view_is) c.self.invariant) c.args.id n
    c.place_of-at.ensures.before c.place_of-at.ensures.after
    (λ d l. ap (has_id c.args.id) (same_read ts n d t l ∙ sym (c.index.ensures ∙ ap (λ v. get_or v.list n t) c.self.view_is)) ∙ other)

pub invariant_of-self : goal.invariant_of-self
invariant_of-self c =
    let at = c.place_of-at.result in
    let e : c.remove.new.self.items ≡ remove c.self.inside.tags.items at = search rules in
    let long = ap (λ v. length v.list) c.self.view_is in
    subst ById (sym e) (all_pairs_remove IsNotAfter c.self.inside.tags.items at (omega arith) c.self.invariant)
