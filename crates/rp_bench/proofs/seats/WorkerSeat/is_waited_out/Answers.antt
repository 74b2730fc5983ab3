use Rattle.std.proofs.Common.{◌≡◌, ℕ, sym, ap, subst, ◌∙◌}
use Rattle.rp_race.specs.Ends.{IsWaitedOutForGood}
use Rattle.rp_switch.specs.declared.terms.Terms.{Terms}
use Rattle.rp_switch.specs.Seats.{known_by}
use Rattle.rp_bench.proofs.Waiting.{waited_out}
use Rattle.rp_bench.proofs.seats.WorkerSeat.is_waited_out.Goals as goal

pub returns-then-all_had : goal.returns-then-all_had
returns-then-all_had g c =
    let s = c.args.self.now in
    let same : c.nodes-nodes.result ≡ (known_by s.seat).terms.nodes =
    c.nodes-nodes.ensures ∙ ap (λ (t : Terms). t.nodes) (s.seated.terms_are ∙ sym s.seated.onward.terms) in
    λ waited. subst (λ (k : ℕ). IsWaitedOutForGood k (known_by s.seat).seen) (s.most_is c.in-Some.rounds c.in-Some.is)
    (waited_out (known_by s.seat).seen s.stations c.nodes-nodes.result c.in-Some.rounds s.at_work.seen (s.at_work.size ∙ sym same)
    (c.all_had.ensures c.if-all_had.true) (c.some_waited.ensures waited))
