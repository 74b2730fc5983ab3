use Rattle.std.proofs.Common.{◌≡◌, map, take}
use Rattle.rp_raftstep.specs.RaftState.{nodes_to}
use Rattle.rp_racelines.specs.Rules.{clients_in, sent_by}
use Rattle.rp_racelines.proofs.lines.take_lines.Given as goal

-- what each client sends by the lines so far
abbrev pub invariant-loop-line : goal.invariant-loop-line
invariant-loop-line l =
    l.sent ≡ map (λ client. sent_by client (take l.line-index l.lines)) (nodes_to (clients_in l.lines))
