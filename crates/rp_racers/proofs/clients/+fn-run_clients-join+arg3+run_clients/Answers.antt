use Rattle.std.proofs.Common.{arith}
use Rattle.rp_switch.specs.Seats.{known_by}
use Rattle.rp_racers.proofs.Joining.{all_ran, all_ended}
use Rattle.rp_racers.proofs.clients.+fn-run_clients-join+arg3+run_clients.Goals as goal

pub returns : goal.returns
returns g t c =
    let v = known_by c.args.rights.seat in
    let out = c.hand_out-its in
    let one = c.join-pair.ensures.first in
    let rest = c.join-pair.ensures.second in
    let all = c.put_together in
    let pass = all.ensures.pass in
    let share = all.ensures.share in
    let units = all.ensures.units in (
      all.ensures.at,
      all_ran c.args.from v (known_by out.new.rights.seat) (known_by out.result.seat) (known_by c.join-pair.result.1.rights.seat) (known_by c.join-pair.result.0.rights.seat)
          (known_by all.result.rights.seat) c.requires.2 out.ensures.known out.ensures.its_known all.ensures.known out.ensures.parts rest.1 one.1,
      all_ended c.args.from v (known_by out.new.rights.seat) (known_by out.result.seat) (known_by c.join-pair.result.1.rights.seat) (known_by c.join-pair.result.0.rights.seat)
          (known_by all.result.rights.seat) all.result.is_short c.join-pair.result.1.is_short c.join-pair.result.0.is_short
          c.requires.2 out.ensures.known out.ensures.its_known all.ensures.known all.ensures.short all.ensures.heard rest.1 one.1 rest.2 one.2,
      (
        omega (arith, pass, rest.3.0, one.3.0, out.ensures.pass, out.ensures.its_pass),
        omega (arith, share, rest.3.1, one.3.1, out.ensures.share, out.ensures.its_share),
        omega (arith, units, rest.3.2, one.3.2, out.ensures.units, out.ensures.its_units),
      ),
    )
