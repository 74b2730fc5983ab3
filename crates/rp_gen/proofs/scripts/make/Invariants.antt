use Rattle.std.proofs.Common.{◌≡◌}
use Rattle.rp_gen.specs.Scripts.{begun, with_commands}
use Rattle.rp_gen.proofs.scripts.make.Given as goal

-- what is written are the commands so far
abbrev pub invariant-loop-before : goal.invariant-loop-before
invariant-loop-before l = l.draft ≡ with_commands l.size l.before (begun l.number)
