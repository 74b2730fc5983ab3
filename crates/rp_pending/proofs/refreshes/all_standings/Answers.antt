use Rattle.std.proofs.Common.{◌≡◌, IfOk, rules, subst, tests}
use Rattle.std.specs.Option.{option_and_then}
use Rattle.std.proofs.lemmas.Iterator.{items_from_collect}
use Rattle.std.proofs.lemmas.Iterator.Consumers.{YieldsList-from_filter_map, YieldsList-from_rest, YieldsList-at}
use Rattle.rp_pending.specs.Dues.{standing_of}
use Rattle.rp_pending.proofs.Reading.{read_slots}
use Rattle.rp_pending.proofs.refreshes.all_standings.Goals as goal

pub returns : goal.returns
returns c =
    subst (λ xs. IfOk c.collect.result (λ v. v.items ≡ xs)) (read_slots standing_of c.args.slots.now.entries)
    (items_from_collect _ c.collect.ensures.ran
    (YieldsList-from_filter_map _ (option_and_then standing_of) (YieldsList-at c.filter_map.ensures.source (YieldsList-from_rest _ c.values.ensures.rest)) c.filter_map.ensures.closure (λ x r q k. search (rules, tests))))
