use Rattle.std.proofs.Common.{◌≡◌, ◌+◌, drop}
use Rattle.rp_raftlog.specs.LogState.{same_terms}
use Rattle.rp_raftlog.proofs.overlay.same_terms.Given as goal

-- what is the same so far, and what follows
abbrev pub invariant-loop-same : goal.invariant-loop-same
invariant-loop-same l = same_terms l.news (drop l.place l.held.entries) ≡ l.same + same_terms (drop l.same l.news) (drop (l.place + l.same) l.held.entries)
