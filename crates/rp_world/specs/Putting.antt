-- Attempts that are put into their buffers.
use Rattle.std.specs.Prelude.{◌≡◌, ℕ, ◌+◌, Bool, true, false, not, ◌&&◌, if◌then◌else◌, filter, count_by, List, Option, None, Some, Ok}
use Rattle.std.specs.Option.{option_map_or}
use Rattle.rp_base.specs.Ids.{same_id}
use Rattle.rp_base.specs.declared.ids.CmdId.{CmdId}
use Rattle.rp_request.specs.declared.outcomes.Outcome.TheVariants.{Pending}
use Rattle.rp_book.specs.declared.bookings.Booked.{Booked}
use Rattle.rp_book.specs.declared.bookings.Draw.TheVariants.{Undrawn}
use Rattle.rp_book.specs.Books.{booking_of, by_attempt}
use Rattle.rp_book.specs.Queueing.{Queued, holds, is_passed, queue_of, size}
use Rattle.rp_bufcore.specs.Buffers.{can_draw}
use Rattle.rp_events.specs.declared.world_events.WorldEvent.TheVariants as events
use Rattle.rp_events.specs.Worlds.{outcome_of}
use Rattle.rp_lines.specs.Commands.{buffer_at, draws_and_publishes, is_waiting}
use Rattle.rp_lines.specs.Players.{Player, Played, and_then, did, weighed}
use Rattle.rp_lines.specs.Settling.{for_each, is_latest, puts, puts_all}
use Rattle.rp_world.specs.declared.turns.Went.{Went}
use Rattle.rp_world.specs.declared.turns.Went.TheVariants as wents
use Rattle.rp_world.specs.Going.{AsMany, Going}
use Rattle.rp_world.specs.Plays.{one_event_more, unspent}

-- an entry of the book in its turn
unfoldable pub put : CmdId × Booked → Player → Played
put e p = puts e.0 e.1 e.1.draw p

-- one more event is counted, and the weight is judged
abbrev pub counted : Player → Played
counted p = and_then (unspent p) (λ q. weighed (one_event_more q))

-- so it is where a draw gave a place
abbrev pub counted_if : Option ℕ → Player → Played
counted_if None p = Ok p
counted_if (Some place) p = counted p

-- a draw where there is room
abbrev pub drawn_if : (node range : ℕ) → Player → Played
drawn_if node range p =
    if can_draw (buffer_at p node range) then did (events.Draw node range) p else Ok p

-- an attempt draws and is published, where there is room
abbrev pub put_if : CmdId → Booked → Player → Played
put_if id b p =
    if can_draw (buffer_at p b.node b.range) then draws_and_publishes 0 id b p else Ok p

-- what became of an attempt in its turn: once it is published it has no queue any more, and the book has
-- of each other what it had; where its buffer was full, or it was not to go, all is as before
abbrev pub WentAs : Went → CmdId → Booked → (before after : Player) → Type 0
WentAs wents.Put id b p q =
    (q.world.nodes ≡ p.world.nodes)
    × ((other : CmdId) → same_id other id ≡ false → booking_of other q.book ≡ booking_of other p.book)
    × ((now : Booked) → booking_of id q.book ≡ Some now → queue_of now ≡ None)
WentAs wents.Full id b p q = (b.draw ≡ Undrawn) × (can_draw (buffer_at p b.node b.range) ≡ false)
WentAs wents.Not id b p q =
    (b.draw ≡ Undrawn) × ((is_latest p id && is_waiting p.world.nodes id b) ≡ false)

-- an entry is left where it stands in its queue, and this is not passed over
abbrev pub is_left : Queued → List Bool → CmdId × Booked → Bool
is_left q passed e =
    option_map_or (λ queue. not (is_passed passed queue) && holds q queue e.0) (queue_of e.1) false

-- the attempts of a player that may still be put stand in their queues
abbrev pub AllGo : Player → Queued → Type 0
AllGo p q =
    (id : CmdId) (b : Booked) (queue : ℕ) → booking_of id p.book ≡ Some b → queue_of b ≡ Some queue
    → (b.draw ≡ Undrawn → outcome_of p.world.nodes id ≡ Some Pending) → holds q queue id ≡ true

-- attempts are being put: from here on what is left leads where all led from the start; of what is left
-- the book has what it had, and so it has of all that it has not published
pub record IsUnderWay (start : Player) (q : Queued) (passed : List Bool) (p : Player) : Type 0 where
  pub began : Going start
  pub going : Going p
  pub many : AsMany start p
  pub leads : for_each put (filter (is_left q passed) (by_attempt start.book)) p ≡ puts_all start
  pub left : (e : CmdId × Booked) → booking_of e.0 start.book ≡ Some e.1
      → is_left q passed e ≡ true → booking_of e.0 p.book ≡ Some e.1
  pub unchanged : (id : CmdId) (b : Booked) (queue : ℕ) → booking_of id p.book ≡ Some b
      → queue_of b ≡ Some queue → booking_of id start.book ≡ Some b

-- how many turns there may still be
abbrev pub turns : Queued → List Bool → ℕ
turns q passed = size q + count_by (λ was. not was) passed
