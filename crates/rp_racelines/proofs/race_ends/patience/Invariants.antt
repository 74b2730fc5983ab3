use Rattle.std.proofs.Common.{◌≡◌, ◌+◌, length, drop}
use Rattle.std.specs.Prelude.{sum_by}
use Rattle.rp_racelines.specs.Verdicts.{command_count}
use Rattle.rp_racelines.proofs.race_ends.patience.Given as goal

-- the commands so far and those that are left are all
abbrev pub invariant-loop-sent : goal.invariant-loop-sent
invariant-loop-sent l =
    l.commands + sum_by (λ sent. length sent.requests) (drop l.sent-index l.rules.requests) ≡ command_count l.rules
