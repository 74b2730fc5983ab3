use Rattle.std.proofs.Common.{subst, sym}
use Rattle.rp_clients.specs.declared.answers.Answer.TheVariants as answers
use Rattle.rp_events.specs.declared.answers.Ended.{Ended}
use Rattle.rp_events.specs.Worlds.{World}
use Rattle.rp_switch.specs.Rules.{IsTrueOf}
use Rattle.rp_switch.specs.Seats.{known_by}
use Rattle.rp_bench.proofs.seats.WorkerSeat.tell_all.Goals as goal

pub tell-requires : goal.tell-requires
tell-requires g c =
    let terms = g.K.Origin.from.known.terms in
    let e = c.ended-item.result in
    subst (λ (w : World). IsTrueOf terms w e.id.client (answers.Ended e.id e.outcome)) (sym c.loop-ended.invariant)
    (subst (λ (x : Ended). IsTrueOf terms (known_by c.args.self.now.seat).seen x.id.client (answers.Ended x.id x.outcome)) (sym c.ended-item.is)
    (c.requires c.loop-ended.ended-index e c.loop-ended-test.true))
