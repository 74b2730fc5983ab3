-- Attempts that may still be put into a buffer, in queues (this project).
use Rattle.std.specs.Prelude.{◌≡◌, ℕ, ◌+◌, ◌-◌, ◌*◌, ◌<◌, Bool, true, false, ◌||◌, if◌then◌else◌, List, [], length, sum_by, slice_index_or, Option, None, Some}
use Rattle.std.specs.Ordering.{is_lt}
use Rattle.std.specs.List.{list_any}
use Rattle.std.specs.Map.{keys_of}
use Rattle.rp_request.specs.declared.outcomes.Outcome.{Outcome}
use Rattle.rp_request.specs.declared.outcomes.Outcome.TheVariants as outcomes
use Rattle.rp_book.specs.declared.keeps.Command.{Command}
use Rattle.rp_book.specs.Books.{Book, Told, booking_of, told_of}
use Rattle.rp_book.specs.Keeping.{Keeps, bookings, outcomes as told_in, IsIndexed}
use Rattle.rp_base.specs.Ids.{cmd_cmp, same_id}
use Rattle.rp_base.specs.declared.ids.CmdId.{CmdId}
use Rattle.rp_book.specs.declared.bookings.Booked.{Booked}
use Rattle.rp_book.specs.declared.bookings.Draw.{Draw}
use Rattle.rp_book.specs.declared.bookings.Draw.TheVariants.{Undrawn, Drawn, Published}

-- how many queues there are: one for each node and range, and one for what has drawn
abbrev pub queue_count : ℕ
queue_count = 41

-- the queue of attempts that have drawn a place
abbrev pub drawn_queue : ℕ
drawn_queue = 40

-- the queue of an attempt: by its node and range before it has drawn; a published one has none
abbrev pub queue_by : Draw → (node range : ℕ) → Option ℕ
queue_by Undrawn node range = Some ((node - 1) * 8 + range)
queue_by (Drawn place) node range = Some drawn_queue
queue_by Published node range = None

abbrev pub queue_of : Booked → Option ℕ
queue_of b = queue_by b.draw b.node b.range

-- nothing of it was published yet
abbrev pub is_unpublished : Draw → Bool
is_unpublished Undrawn = true
is_unpublished (Drawn place) = true
is_unpublished Published = false

-- nothing is told of how it ended
abbrev pub is_pending : Outcome → Bool
is_pending (outcomes.Success reply) = false
is_pending (outcomes.Refused why) = false
is_pending (outcomes.Ambiguous why) = false
is_pending outcomes.Pending = true

-- each queue has its attempts
abbrev pub Queued : Type 0
Queued = List (List CmdId)

-- a queue has this attempt
abbrev pub has : CmdId → List CmdId → Bool
has id queue = list_any (same_id id) queue

abbrev pub holds : Queued → (queue : ℕ) → CmdId → Bool
holds q queue id = has id (slice_index_or q queue [])

-- how many attempts stand in the queues
abbrev pub size : Queued → ℕ
size q = sum_by (λ queue. length queue) q

-- an attempt may still be put: one that has drawn a place, or one that had none and is pending
abbrev pub MayGo : Told → CmdId → Booked → Type 0
MayGo told id b = b.draw ≡ Undrawn → told_of id told ≡ Some outcomes.Pending

-- each attempt of a book that may still be put is where it is looked for
abbrev pub AllStand : Book → Told → ((queue : ℕ) → CmdId → Bool) → Type 0
AllStand book told stands =
    (id : CmdId) (b : Booked) (queue : ℕ) → booking_of id book ≡ Some b → queue_of b ≡ Some queue
    → MayGo told id b → stands queue id ≡ true

-- in the queues each attempt stands that may still be put
abbrev pub AllQueued : Book → Told → Queued → Type 0
AllQueued book told q = AllStand book told (holds q)

-- an attempt stands in its queue where it may still be put, and no other one has left a queue
pub record Stands (book : Book) (told : Told) (id : CmdId) (before after : Queued) : Type 0 where
  pub here : (b : Booked) (queue : ℕ) → booking_of id book ≡ Some b → queue_of b ≡ Some queue
      → MayGo told id b → holds after queue id ≡ true
  pub still : (queue : ℕ) (other : CmdId) → holds before queue other ≡ true
      → holds after queue other ≡ true

-- it is one of these, or stands in its queue
abbrev pub is_among : List CmdId → Queued → (queue : ℕ) → CmdId → Bool
is_among ids q queue id = has id ids || holds q queue id

-- what was noted since the queues were looked at stands as well; where no queues are kept, all is to be
-- looked for anew
abbrev pub stands_in : Option Queued → List CmdId → (queue : ℕ) → CmdId → Bool
stands_in None noted queue id = true
stands_in (Some q) noted queue id = is_among noted q queue id

-- attempts as a book keeps them: the index of latest ones is right, and each that may still be put stands
-- somewhere
pub record IsWellKept (es : Keeps) (latest : List (Command × ℕ)) (queues : Option Queued)
    (noted : List CmdId) : Type 0 where
  pub index : IsIndexed (keys_of es) latest
  pub stand : AllStand (bookings es) (told_in es) (stands_in queues noted)

-- the queue was passed over
abbrev pub is_passed : List Bool → (queue : ℕ) → Bool
is_passed passed queue = slice_index_or passed queue false

-- what a queue has first: an attempt that no other one of the queue is before; none where it has none
abbrev pub IsHead : List CmdId → Option CmdId → Type 0
IsHead queue None = (id : CmdId) → has id queue ≡ false
IsHead queue (Some id) = (has id queue ≡ true)
    × ((other : CmdId) → has other queue ≡ true → is_lt (cmd_cmp other id) ≡ false)

-- the attempt stands in a queue that is not passed over, and no attempt in such a queue is before it;
-- this looks at the first queues alone
pub record IsLeast (q : Queued) (passed : List Bool) (count queue : ℕ) (id : CmdId) : Type 0 where
  pub queue_is : queue < count
  pub left : is_passed passed queue ≡ false
  pub stands : holds q queue id ≡ true
  pub least : (k : ℕ) (other : CmdId) → k < count → is_passed passed k ≡ false → holds q k other ≡ true
      → is_lt (cmd_cmp other id) ≡ false

-- what stands first in the queues that are not passed over; none where they have none
abbrev pub IsFirst : Queued → List Bool → (count : ℕ) → Option (ℕ × CmdId) → Type 0
IsFirst q passed count None =
    (k : ℕ) (id : CmdId) → k < count → is_passed passed k ≡ false → holds q k id ≡ false
IsFirst q passed count (Some (queue, id)) = IsLeast q passed count queue id

-- the earlier one of what was found and the head of a queue
abbrev pub earlier_of : Option (ℕ × CmdId) → (queue : ℕ) → Option CmdId → Option (ℕ × CmdId)
earlier_of found queue None = found
earlier_of None queue (Some id) = Some (queue, id)
earlier_of (Some (at, least)) queue (Some id) =
    if is_lt (cmd_cmp id least) then Some (queue, id) else Some (at, least)
