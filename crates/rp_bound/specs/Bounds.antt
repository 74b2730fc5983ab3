-- All that stands beside the nodes of a world: now, after a scene and after a schedule.
use Rattle.std.specs.Prelude.{◌≡◌, ℕ, zero, suc, List, [], ◌++◌}
use Rattle.rp_request.specs.Applied.{AppliedState}
use Rattle.rp_raftsafe.specs.World as raft
use Rattle.rp_raftsafe.specs.Safety.{OneList}
use Rattle.rp_rangesafe.specs.Ranges.{Ranges, AreLater}
use Rattle.rp_events.specs.Worlds.{World, Scene, happens}
use Rattle.rp_seats.specs.Scenes.{raft_events}
use Rattle.rp_seats.specs.Standing.{Bound}
use Rattle.rp_seats.specs.Turned.{begins_at_all}
use Rattle.rp_turns.specs.Keeping.{AreWide}
use Rattle.rp_bound.specs.Numbers.{AreSmall}

-- the nodes stand beside the ranges of the machine and beside what Raft has seen of each; all that
-- they hold has its widths, and the numbers that grow are small
pub record Stands (lists : OneList AppliedState) (w : World) (m : Ranges)
    (seen : ℕ → List raft.Event) : Type 0 where
  pub bound : Bound lists w m seen
  pub wide : AreWide w seen
  pub small : AreSmall w seen

-- with some ranges and some events of Raft
pub record IsStanding (lists : OneList AppliedState) (w : World) : Type 0 where
  pub ranges : Ranges
  pub seen : ℕ → List raft.Event
  pub stands : Stands lists w ranges seen

-- after a scene the ranges have gone on lawfully, and stand beside the nodes with what the scene
-- was to Raft in each range
pub record BoundNext (lists : OneList AppliedState) (w : World) (m : Ranges)
    (seen : ℕ → List raft.Event) (x : Scene) : Type 0 where
  pub ranges : Ranges
  pub onward : AreLater m ranges
  pub bound : Bound lists (happens w x) ranges (λ range. seen range ++ raft_events range w x)

pub record StandsNext (lists : OneList AppliedState) (w : World) (m : Ranges)
    (seen : ℕ → List raft.Event) (x : Scene) : Type 0 where
  pub ranges : Ranges
  pub onward : AreLater m ranges
  pub stands : Stands lists (happens w x) ranges (λ range. seen range ++ raft_events range w x)

-- beside a later world the ranges have gone on lawfully, and Raft has seen more of each
pub record StandsLater (lists : OneList AppliedState) (m : Ranges) (seen : ℕ → List raft.Event)
    (later : World) : Type 0 where
  pub ranges : Ranges
  pub onward : AreLater m ranges
  pub now_seen : ℕ → List raft.Event
  pub grown : (range : ℕ) → (more : List raft.Event) × (now_seen range ≡ seen range ++ more)
  pub stands : Stands lists later ranges now_seen

-- what Raft has seen of each range in the first world: the first range begins at each node
abbrev pub first_seen : (nodes range : ℕ) → List raft.Event
first_seen nodes zero = begins_at_all nodes
first_seen nodes (suc range) = []
