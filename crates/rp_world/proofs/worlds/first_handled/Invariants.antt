use Rattle.std.proofs.Common.{◌≡◌, [], replicate}
use Rattle.rp_world.proofs.worlds.first_handled.Given as goal

-- so many lists so far
abbrev pub invariant-loop-turn : goal.invariant-loop-turn
invariant-loop-turn l = l.list.items ≡ replicate l._turn []
