use Rattle.std.proofs.Common.{◌≡◌, length, take}
use Rattle.std.specs.List.{sum_by}
use Rattle.rp_race.specs.declared.rules.ClientRequests.{ClientRequests}
use Rattle.rp_bench.proofs.patience.patience.Given as goal

-- the commands of the clients before this place
abbrev pub invariant-loop-sent : goal.invariant-loop-sent
invariant-loop-sent l = l.commands ≡ sum_by (λ (sent : ClientRequests). length sent.requests) (take l.sent-index l.sent-items)
