use Rattle.std.proofs.Common.{◌≡◌, ℕ, ◌+◌, arith, subst, ◌∙◌}
use Rattle.rp_clients.specs.Courses.{KeepsEarlier, AtPlace}
use Rattle.rp_clients.specs.Finals.{left}
use Rattle.rp_clients.proofs.Commands.{one_more, same_onward}
use Rattle.rp_clients.proofs.clients.drive.Goals as goal

pub loop-request-preserved : goal.loop-request-preserved
loop-request-preserved g c =
    let old = g.D.Desk.stands c.loop-request.desk in
    let new = g.D.Desk.stands c.send.new.desk in
    let at = c.loop-request.invariant.seq in
    record {
      seq = omega (arith, at);
      room = omega (arith, c.loop-request.invariant.room, c.push.ensures.spare);
      finals = c.push.ensures.list
          ∙ one_more c.loop-request.request-index c.loop-request.finals.list old new c.so_far.result c.loop-request.invariant.finals
          (subst (λ (n : ℕ). KeepsEarlier (n + 1) old new) at c.in_ok-is_over.ensures.earlier)
          (c.so_far.ensures ∙ subst (λ (n : ℕ). c.send.new.course.so_far ≡ left (n + 1) new.tries) at c.in_ok-is_over.ensures.so_far);
      place = subst (λ (n : ℕ). AtPlace c.in_ok-is_over.is_over (n + 1 + 1) c.send.new.course.hints new) at c.in_ok-is_over.ensures.place;
      same = same_onward (g.D.Desk.stands c.args.desk.now) old new c.loop-request.invariant.same c.in_ok-is_over.ensures.same;
    }
