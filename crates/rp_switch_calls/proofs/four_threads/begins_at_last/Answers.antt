use Rattle.rp_switch.specs.Seats.{known_by}
use Rattle.rp_switch_calls.proofs.Visiting.{again}
use Rattle.rp_switch_calls.proofs.four_threads.begins_at_last.Goals as goal

pub begins-requires-clause-may : goal.begins-requires-clause-may
begins-requires-clause-may c =
    again (known_by c.args.seat.now) (known_by c.loop.seat) c.args.client c.args.aim.now.0 c.args.aim.now.1 c.args.aim.now.2 c.loop.invariant.same.1 c.loop.invariant.first c.requires.may
