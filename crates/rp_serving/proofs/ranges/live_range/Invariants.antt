use Rattle.std.proofs.Common.{◌≡◌, drop}
use Rattle.std.specs.Prelude.{slice_get}
use Rattle.std.specs.List.{filter}
use Rattle.rp_events.specs.Buffered.{is_live}
use Rattle.rp_events.specs.Nodes.{range_numbers, seat}
use Rattle.rp_race.specs.Rounds.{live_ranges}
use Rattle.rp_serving.proofs.ranges.live_range.Given as goal

-- so many of the live ranges behind this number stand before it
abbrev pub invariant-loop-number : goal.invariant-loop-number
invariant-loop-number g l = slice_get (live_ranges l.node.node) l.fn.place ≡ slice_get (filter (λ range. is_live (seat l.node.node range)) (drop l.number range_numbers)) l.left
