use Rattle.std.proofs.Common.{◌≡◌, ◌+◌, ◌++◌, length}
use Rattle.rp_raftlog.proofs.overlay.append_all.Given as goal

-- what was yielded stands behind the entries
abbrev pub invariant-loop-new : goal.invariant-loop-new
invariant-loop-new l = record {
  behind : l.held.entries ≡ l.initial.held.entries ++ l.yielded;
  room : l.held.spare + length l.yielded ≡ l.initial.held.spare;
}
