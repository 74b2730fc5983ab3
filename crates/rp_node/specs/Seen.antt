-- What a node shows of a range.
use Rattle.std.specs.Prelude.{◌≡◌}
use Rattle.rp_events.specs.Nodes.{Status, Absent, Live, Removed}
use Rattle.rp_node.specs.declared.seats.Seen.{Seen}
use Rattle.rp_node.specs.declared.seats.Seen.TheVariants as seen

-- a replica is shown as live, what a tombstone keeps as removed, and else nothing
abbrev pub Shows : Status → Seen → Type 0
Shows Absent seen.Absent = Unit {0}
Shows Absent (seen.Live replica) = ⊥
Shows Absent (seen.Removed kept) = ⊥
Shows (Live r) seen.Absent = ⊥
Shows (Live r) (seen.Live replica) = replica.now.replica ≡ r
Shows (Live r) (seen.Removed kept) = ⊥
Shows (Removed applied) seen.Absent = ⊥
Shows (Removed applied) (seen.Live replica) = ⊥
Shows (Removed applied) (seen.Removed kept) = kept.now.history ≡ applied
