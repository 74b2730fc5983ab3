use Rattle.std.proofs.Common.{ap}
use Rattle.rp_clients.specs.Desks.{Standing}
use Rattle.rp_clients.proofs.Steps.{course_nodes}
use Rattle.rp_clients.proofs.tries.try_next.Goals as goal

pub wait_for_round-requires-clause-node : goal.wait_for_round-requires-clause-node
wait_for_round-requires-clause-node g c = rw (← course_nodes c.requires.ready) c.aim-node.ensures.one

pub try_aimed-requires-clause-one : goal.try_aimed-requires-clause-one
try_aimed-requires-clause-one g c =
    rw (ap (λ (s : Standing). s.nodes) (rw c.if-branch.false at c.in_ok-wait_for_round.ensures.rest), ← course_nodes c.requires.ready)
    c.aim-node.ensures.one
