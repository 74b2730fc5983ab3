use Rattle.std.proofs.Common.{false, subst}
use Rattle.std.proofs.lemmas.Result.{IfOk-weaker}
use Rattle.rp_switch.specs.Openings.{bare}
use Rattle.rp_switch.specs.Seats.{known_by}
use Rattle.rp_racers.specs.Raced.{EndWell}
use Rattle.rp_contest.specs.Runs.{IsRun}
use Rattle.rp_contest.proofs.Running.{run_of}
use Rattle.rp_contest.proofs.races.closed.Goals as goal

pub returns : goal.returns
returns g c =
    let back = c.run-rights.result in
    let v = known_by back.rights.seat in
    let well : EndWell 1 false v = subst (λ b. EndWell 1 b v) c.if-is_short.false c.run-rights.ensures.done in
    IfOk-weaker c.close-2.result _ _
    (λ nodes closes. subst (λ t. IsRun t.nodes t.rules (bare nodes)) c.run-rights.ensures.seat.1 (run_of v (bare nodes) closes c.what_was_heard_is_so.ensures well))
    c.close-2.ensures
