use Rattle.std.proofs.Common.{List, map, ap, ◌∙◌}
use Rattle.rp_pending.specs.declared.refreshes.Due.{Due}
use Rattle.rp_pending.specs.Refreshes.{by_key, goes_again, goes_back}
use Rattle.rp_pending.specs.Slots.{proposals_in}
use Rattle.rp_pending.proofs.Reading.{ids_in_order}
use Rattle.rp_pending.proofs.refreshes.to_refresh.Goals as goal

pub returns : goal.returns
returns c =
    let ps = proposals_in c.args.shelf.now.entries in
    let ids = λ (ds : List Due). map (λ d. d.id) (by_key (λ d. d.max) ds) in
    let again = c.in_ok-in_order.ensures ∙ ap ids c.in_ok-again.ensures ∙ ids_in_order (goes_again c.args.lai c.args.now c.args.all) ps in
    let back = c.in_ok-in_order-2.ensures ∙ ap ids c.in_ok-back.ensures ∙ ids_in_order (goes_back c.args.lai) ps in
    λ i. record { again = again i; back = back i }
