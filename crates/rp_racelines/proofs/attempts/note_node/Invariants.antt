use Rattle.std.proofs.Common.{[], ◌∷◌, ◌++◌, take}
use Rattle.rp_events.specs.Worlds.{World}
use Rattle.rp_racelines.specs.Latest.{AreLatest}
use Rattle.rp_racelines.proofs.Noting.{with_journal}
use Rattle.rp_racelines.proofs.attempts.note_node.Given as goal

-- the latest attempts by the entries so far
abbrev pub invariant-loop-place : goal.invariant-loop-place
invariant-loop-place g l = (w : World) → AreLatest w l.fn.attempts.entries
    → AreLatest (w ++ with_journal l.node.node (take l.place l.node.node.journal) ∷ []) l.attempts.entries
