use Rattle.std.proofs.Common.{◌≡◌, ◌+◌, ◌-◌, ◌<◌, ◌≤◌, IsTrue, IfSome}
use Rattle.rp_store.specs.Walks.{IsCalm, HasWalked}
use Rattle.rp_store.proofs.walks.walk.Given as goal

abbrev pub invariant-loop-size : goal.invariant-loop-size
invariant-loop-size g l = record {
  length : l.len ≡ l.fn.len;
  range : l.end < l.len;
  room : IfSome l.last (λ size. size + 9 ≤ l.end);
  walked : IsTrue (g.D.Disk.file l.disk).tells → HasWalked l.end l.last (g.D.Disk.file l.fn.disk).seen;
  calm : IsCalm (g.D.Disk.file l.fn.disk) (g.D.Disk.file l.disk);
  still : g.D.Disk.faults l.disk ≡ g.D.Disk.faults l.fn.disk;
}

abbrev pub decreases-loop-size : goal.decreases-loop-size
decreases-loop-size g l = l.len - l.end
