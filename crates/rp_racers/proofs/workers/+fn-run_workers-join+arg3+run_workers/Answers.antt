use Rattle.std.proofs.Common.{arith, ap, ◌∙◌}
use Rattle.rp_quota.specs.Shares as shares
use Rattle.rp_switch.specs.Seats.{known_by}
use Rattle.rp_racers.proofs.Joining.{all_served, all_ended_beside}
use Rattle.rp_racers.proofs.workers.+fn-run_workers-join+arg3+run_workers.Goals as goal

pub returns : goal.returns
returns g t c =
    let v = known_by c.args.rights.seat in
    let out = c.hand_out-its in
    let one = c.join-pair.ensures.first in
    let rest = c.join-pair.ensures.second in
    let all = c.put_together in
    let pass = all.ensures.pass in (
      all.ensures.at,
      all_served c.args.from c.args.workers v (known_by out.new.rights.seat) (known_by out.result.seat) (known_by c.join-pair.result.1.rights.seat)
          (known_by c.join-pair.result.0.rights.seat) (known_by all.result.rights.seat)
          out.ensures.known out.ensures.its_known all.ensures.known out.ensures.parts rest.1 one.1,
      all_ended_beside c.args.from c.args.workers v (known_by out.new.rights.seat) (known_by out.result.seat) (known_by c.join-pair.result.1.rights.seat)
          (known_by c.join-pair.result.0.rights.seat) (known_by all.result.rights.seat) all.result.is_short c.join-pair.result.1.is_short c.join-pair.result.0.is_short
          out.ensures.known out.ensures.its_known all.ensures.known all.ensures.short all.ensures.heard rest.1 one.1 rest.2,
      (
        omega (arith, pass, rest.3.0, one.3, out.ensures.pass, out.ensures.its_parts),
        ap (λ s. (shares.known_by s).parts) all.ensures.share ∙ (rest.3.1 ∙ ap (λ s. (shares.known_by s).parts) out.ensures.share),
        ap (λ s. (shares.known_by s).units) all.ensures.share ∙ (rest.3.2 ∙ ap (λ s. (shares.known_by s).units) out.ensures.share),
      ),
    )
