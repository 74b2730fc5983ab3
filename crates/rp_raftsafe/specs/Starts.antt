-- What a range's start is read by: the event Begin alone.
use Rattle.std.specs.Prelude.{◌≡◌, ℕ, List, All, ◌==◌, if◌then◌else◌}
use Rattle.rp_raftsafe.specs.World.{Range, Action, Begin, Event, Acts, Comes, World, run}
use Rattle.rp_raftsafe.specs.Many.{Hosts, ManyEvent, ActsIn, ComesIn, run_in, view, sees_all}

-- two ranges that are one but for the states that they start with
abbrev pub IsButStart : {S : Type 0} → Range S → Range S → Type 0
IsButStart g h = h ≡ record g { start = h.start }

-- an action that begins a range has one start in both
abbrev pub ActsAlike : {S : Type 0} → Range S → Range S → Action → Type 0
ActsAlike g h Begin = g.start ≡ h.start
ActsAlike g h action = Unit {0}

-- an event that begins the range has one start in both
abbrev pub StartsAlike : {S : Type 0} → Range S → Range S → Event → Type 0
StartsAlike g h (Acts node action) = ActsAlike g h action
StartsAlike g h (Comes from number again) = Unit {0}

-- a world may be run with another start, but for Begins
abbrev pub StartUnread : Type 0 → Type 0
StartUnread S =
    (g h : Range S) → IsButStart g h → (events : List Event) → All (StartsAlike g h) events
    → (w : World S) → run g events w ≡ run h events w

-- an event that begins a range has one start in both families
abbrev pub BeginsAlike : {S : Type 0} → (ℕ → Range S) → (ℕ → Range S) → ManyEvent → Type 0
BeginsAlike ranges others (ActsIn range node action) =
    ActsAlike (ranges range) (others range) action
BeginsAlike ranges others (ComesIn from number again) = Unit {0}

-- a schedule does the same with both families of ranges
pub record RunsAlike {S : Type 0} (ranges others : ℕ → Range S) (events : List ManyEvent)
    (w : Hosts S) : Type 0 where
  pub hosts : run_in ranges events w ≡ run_in others events w
  pub seen : (range : ℕ) → sees_all ranges range events w ≡ sees_all others range events w

-- nodes may be run with other starts, but for Begins
abbrev pub StartsUnread : Type 0 → Type 0
StartsUnread S =
    (ranges others : ℕ → Range S) → ((range : ℕ) → IsButStart (ranges range) (others range))
    → (events : List ManyEvent) → All (BeginsAlike ranges others) events
    → (w : Hosts S) → RunsAlike ranges others events w

-- the ranges, with this start for one of them
abbrev pub with_start : {S : Type 0} → (ℕ → Range S) → ℕ → S → ℕ → Range S
with_start ranges range start r =
    if r == range then record (ranges r) { start = start } else ranges r

-- an event that does not begin the range
abbrev pub BeginsNot : ℕ → ManyEvent → Type 0
BeginsNot range (ActsIn r node Begin) = r ≡ range → ⊥
BeginsNot range event = Unit {0}

-- what a range that has not begun sees does not depend on its start
abbrev pub ShutUnread : Type 0 → Type 0
ShutUnread S =
    (ranges : ℕ → Range S) (range : ℕ) (start : S) (events : List ManyEvent)
    → All (BeginsNot range) events → (w : Hosts S)
    → view range (run_in ranges events w)
    ≡ view range (run_in (with_start ranges range start) events w)
