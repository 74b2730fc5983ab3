use Rattle.std.proofs.Common.{◌+◌, subst, sym}
use Rattle.rp_events.specs.Worlds.{World}
use Rattle.rp_switch.specs.Rules.{IsTrueOf}
use Rattle.rp_bench.proofs.seats.WorkerSeat.offer.Goals as goal

pub is_settled-requires : goal.is_settled-requires
is_settled-requires g c =
    subst (λ (w : World). IsTrueOf g.K.Origin.from.known.terms w (c.loop-place.place + 1) c.args.answer.now) (sym c.loop-place.invariant) (c.requires (c.loop-place.place + 1))
