use Rattle.std.proofs.Common.{◌≡◌, ◌+◌, ◌*◌}
use Rattle.rp_raftlog.proofs.segments.Segments.make_room.Given as goal

-- a segment each time, and the same entries
abbrev pub invariant-loop : goal.invariant-loop
invariant-loop l = (l.self.entries ≡ l.initial.self.entries) × (l.self.spare ≡ l.initial.self.spare + 64 * l.counter)
