use Rattle.std.proofs.Common.{length, ◌-◌, ◌≡◌, ◌+◌, ◌^◌, ◌<◌, ◌≤◌, take, drop, IsTrue}
use Rattle.rp_store.specs.Walks.{IsCalm}
use Rattle.rp_store.proofs.reads.fill.Given as goal

abbrev pub invariant-loop-done : goal.invariant-loop-done
invariant-loop-done g l = record {
  fits : l.done ≤ length l.buf;
  size : length l.buf ≡ length l.fn.buf;
  place : l.at ≡ l.fn.at;
  range : l.at + length l.buf < 2 ^ 64;
  front : IsTrue (g.D.Disk.file l.disk).tells → l.at + length l.buf ≤ length (g.D.Disk.file l.fn.disk).seen
      → take l.done l.buf ≡ take l.done (drop l.at (g.D.Disk.file l.fn.disk).seen);
  calm : IsCalm (g.D.Disk.file l.fn.disk) (g.D.Disk.file l.disk);
  still : g.D.Disk.faults l.disk ≡ g.D.Disk.faults l.fn.disk;
}

abbrev pub decreases-loop-done : goal.decreases-loop-done
decreases-loop-done g l = length l.initial.buf - l.done
