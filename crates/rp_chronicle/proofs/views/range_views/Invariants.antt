use Rattle.rp_chronicle.specs.Worlds.{world_of}
use Rattle.rp_chronicle.proofs.Shown.{ShowsBelow}
use Rattle.rp_chronicle.proofs.views.range_views.Given as goal

-- the ranges so far
abbrev pub invariant-loop-number : goal.invariant-loop-number
invariant-loop-number g l = ShowsBelow (world_of l.nodes) l.number l.views.items
