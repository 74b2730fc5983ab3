use Rattle.std.proofs.Common.{rules, tests, sym, ap, ◌∙◌, min}
use Rattle.std.specs.List.{reduce}
use Rattle.std.specs.Option.{option_and_then}
use Rattle.std.proofs.lemmas.Iterator.Adapters.{option_map_id}
use Rattle.std.proofs.lemmas.Iterator.Consumers.{YieldsList-from_filter_map, YieldsList-from_rest, YieldsList-at, min_from_yields_List}
use Rattle.rp_pending.specs.declared.proposals.Proposal.{Proposal}
use Rattle.rp_pending.proofs.Reading.{read_slots}
use Rattle.rp_pending.proofs.refreshes.first_round.Goals as goal

pub returns : goal.returns
returns c =
    sym (option_map_id _)
    ∙ min_from_yields_List c.filter_map.result _ c.min.ensures.ran
    (YieldsList-from_filter_map _ (option_and_then (λ (p : Proposal). p.round)) (YieldsList-at c.filter_map.ensures.source (YieldsList-from_rest _ c.values.ensures.rest)) c.filter_map.ensures.closure (λ x r q k. search (rules, tests)))
    ∙ ap (reduce min) (read_slots (λ p. p.round) c.args.slots.now.entries)
