-- What stands beside the nodes of a world, now and later.
use Rattle.std.specs.Prelude.{◌≡◌, ℕ, List, ◌++◌}
use Rattle.rp_base.specs.declared.ids.CmdId.{CmdId}
use Rattle.rp_request.specs.Applied.{AppliedState}
use Rattle.rp_raftsafe.specs.World as raft
use Rattle.rp_raftsafe.specs.Safety.{OneList}
use Rattle.rp_rangesafe.specs.Attempts as stages
use Rattle.rp_rangesafe.specs.Attempts.{IsBorn}
use Rattle.rp_rangesafe.specs.Ranges.{Ranges, AreLater}
use Rattle.rp_events.specs.Lawful.{IsReached, IsLater}
use Rattle.rp_events.specs.Lists.{IsAdmittedUnder}
use Rattle.rp_events.specs.Worlds.{World}
use Rattle.rp_seats.specs.Standing.{Bound}
use Rattle.rp_promise.specs.Records.{AllRecords}

-- an attempt that the machine has in a range, and that was not refused: one journal has its
-- admission there, at its node, for its request and under its sequence
abbrev pub AreAdmitted : World → Ranges → Type 0
AreAdmitted w m = (id : CmdId) (range : ℕ) → IsBorn ((m.range range).attempt id).stage
    → (((m.range range).attempt id).stage ≡ stages.Refused → ⊥)
    → (under : IsAdmittedUnder w id range ((m.range range).attempt id).body.request
    ((m.range range).attempt id).seq)
    × (under.node ≡ ((m.range range).attempt id).node)

-- the machine and Raft's events beside the nodes of a world, with the records that the nodes keep
-- and the admissions that their journals have
pub record StandsWith (lists : OneList AppliedState) (w : World) (m : Ranges)
    (seen : ℕ → List raft.Event) : Type 0 where
  pub bound : Bound lists w m seen
  pub records : AllRecords w m
  pub admitted : AreAdmitted w m

-- with some ranges and some events of Raft
pub record IsBeside (lists : OneList AppliedState) (w : World) : Type 0 where
  pub ranges : Ranges
  pub seen : ℕ → List raft.Event
  pub stands : StandsWith lists w ranges seen

-- beside a later world the machine has gone on lawfully, and Raft in each range by further events
pub record GoesOn (lists : OneList AppliedState) (m : Ranges) (seen : ℕ → List raft.Event)
    (later : World) : Type 0 where
  pub ranges : Ranges
  pub events : ℕ → List raft.Event
  pub onward : AreLater m ranges
  pub grown : (range : ℕ) → (more : List raft.Event) × (events range ≡ seen range ++ more)
  pub stands : StandsWith lists later ranges events

-- a world with all that stands beside it, now and later
pub record IsPromising (lists : OneList AppliedState) (nodes : ℕ) (w : World) (m : Ranges)
    (seen : ℕ → List raft.Event) : Type 0 where
  pub reached : IsReached nodes w
  pub now : StandsWith lists w m seen
  pub later : (world : World) → IsLater w world → GoesOn lists m seen world
