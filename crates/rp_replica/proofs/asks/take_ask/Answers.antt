use Rattle.std.proofs.Common.{ap, ◌∙◌}
use Rattle.std.specs.List.{position}
use Rattle.rp_events.specs.LeaseAsks.{same_ask}
use Rattle.rp_replica.proofs.Asking.{no_place, a_place}
use Rattle.rp_replica.proofs.asks.take_ask.Goals as goal

pub returns-in-None-clause-there : goal.returns-in-None-clause-there
returns-in-None-clause-there c =
    (no_place c.args.ask.now c.args.asks.now.items _ (c.place_of.ensures ∙ ap (position (λ x. same_ask x c.args.ask.now)) c.deref.ensures.value) c.in-None.is).0

pub returns-in-None-clause-rest : goal.returns-in-None-clause-rest
returns-in-None-clause-rest c =
    (no_place c.args.ask.now c.args.asks.now.items _ (c.place_of.ensures ∙ ap (position (λ x. same_ask x c.args.ask.now)) c.deref.ensures.value) c.in-None.is).1

pub returns-in-Some-clause-there : goal.returns-in-Some-clause-there
returns-in-Some-clause-there c =
    (a_place c.args.ask.now c.args.asks.now.items _ c.in-Some.at (c.place_of.ensures ∙ ap (position (λ x. same_ask x c.args.ask.now)) c.deref.ensures.value) c.in-Some.is).0

pub returns-in-Some-clause-rest : goal.returns-in-Some-clause-rest
returns-in-Some-clause-rest c =
    c.remove.ensures.items
    ∙ (a_place c.args.ask.now c.args.asks.now.items _ c.in-Some.at (c.place_of.ensures ∙ ap (position (λ x. same_ask x c.args.ask.now)) c.deref.ensures.value) c.in-Some.is).1
