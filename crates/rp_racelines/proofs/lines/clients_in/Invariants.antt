use Rattle.std.proofs.Common.{◌≡◌, ◌<◌, ◌^◌, take}
use Rattle.rp_racelines.specs.Rules.{clients_in}
use Rattle.rp_racelines.proofs.lines.clients_in.Given as goal

abbrev pub invariant-loop-line : goal.invariant-loop-line
invariant-loop-line l = record {
  greatest : l.greatest ≡ clients_in (take l.line-index l.lines);
  few : l.greatest < 2 ^ 16;
}
