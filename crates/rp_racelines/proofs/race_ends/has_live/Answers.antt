use Rattle.std.proofs.Common.{arith, sym}
use Rattle.rp_racelines.proofs.Judged.{none_live}
use Rattle.rp_racelines.proofs.race_ends.has_live.Goals as goal

pub returns : goal.returns
returns g c =
    let eight = c.requires in
    let past_end = c.loop-number-test.false in
    sym (none_live c.args.node.now.node.seats (λ range within. c.loop-number.invariant range (omega (arith, within, eight, past_end))))
