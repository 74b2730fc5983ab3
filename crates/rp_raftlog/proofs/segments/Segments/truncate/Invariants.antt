use Rattle.std.proofs.Common.{◌≡◌, ◌+◌, take, length}
use Rattle.rp_raftlog.proofs.segments.Segments.truncate.Given as goal

-- the first entries stay
abbrev pub invariant-loop-self : goal.invariant-loop-self
invariant-loop-self l = (take l.n l.self.entries ≡ take l.n l.initial.self.entries) × (l.self.spare + length l.self.entries ≡ l.initial.self.spare + length l.initial.self.entries)

abbrev pub decreases-loop-self : goal.decreases-loop-self
decreases-loop-self l = length l.self.entries
