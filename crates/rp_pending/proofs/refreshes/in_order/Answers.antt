use Rattle.std.proofs.Common.{map, ap, rules, ◌∙◌}
use Rattle.std.proofs.lemmas.List.Sorted.{answers_always}
use Rattle.rp_pending.specs.declared.refreshes.Due.{Due}
use Rattle.rp_pending.proofs.Ascending.{sorted_by_key}
use Rattle.rp_pending.proofs.refreshes.in_order.Goals as goal

pub returns : goal.returns
returns c =
    let key = λ (d : Due). d.max in
    let sort = c.in_ok-sort_by_key.ensures in
    let sorted = sort.sorted key (answers_always _ _ _ (λ f a r g called. search rules)) in
    let stable = sort.stable key (answers_always _ _ _ (λ f a r g called. search rules)) in
    c.from_vec.ensures ∙ c.in_ok-ids.ensures ∙ ap (map (λ d. d.id)) (c.deref.ensures.value ∙ sorted_by_key key _ _ sorted stable)
