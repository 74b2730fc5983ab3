-- Lines that move the world on: deliver, tick, settle (this project's script).
use Rattle.std.specs.Prelude.{ℕ, zero, suc, ◌+◌, ◌-◌, Bool, false, ◌&&◌, if◌then◌else◌, List, [], ◌∷◌, length, slice_index_or, slice_set, Option, None, Some, Ok}
use Rattle.std.specs.Option.{option_map_or}
use Rattle.rp_base.specs.Ids.{same_id}
use Rattle.rp_base.specs.declared.ids.CmdId.{CmdId}
use Rattle.rp_bufcore.specs.Buffers.{can_draw}
use Rattle.rp_raftstep.specs.RaftState.{nodes_to}
use Rattle.rp_request.specs.Applied.{AppliedState}
use Rattle.rp_workers.specs.Losses.{is_lost}
use Rattle.rp_events.specs.declared.parcels.Parcel.{Parcel}
use Rattle.rp_events.specs.declared.world_events.WorldEvent.TheVariants as events
use Rattle.rp_events.specs.Nodes.{Status, Absent, Live, Removed, seat, parcel_of, range_numbers}
use Rattle.rp_events.specs.Worlds.{node_of, sent_by}
use Rattle.rp_events.specs.Buffered.{has_live}
use Rattle.rp_book.specs.declared.bookings.Booked.{Booked}
use Rattle.rp_book.specs.declared.bookings.Draw.{Draw}
use Rattle.rp_book.specs.declared.bookings.Draw.TheVariants.{Undrawn, Drawn, Published}
use Rattle.rp_book.specs.Books.{latest_of, by_attempt}
use Rattle.rp_book.specs.Handling.{Handling, handled, first_unhandled}
use Rattle.rp_lines.specs.Players.{Player, Played, and_then, did, noted}
use Rattle.rp_lines.specs.Commands.{buffer_at, publishes, draws_and_publishes, is_waiting}
use Rattle.rp_report.specs.Notes.{nothing_text}

-- which of a sender's messages were handled
abbrev pub handling_of : Player → (sender : ℕ) → Handling
handling_of p sender = slice_index_or p.handled (sender - 1) []

-- this message is handled from now on
abbrev pub with_handled : (sender number : ℕ) → Player → Player
with_handled sender number p =
    record p { handled = slice_set p.handled (sender - 1) (handled number (handling_of p sender)) }

-- a message comes to its receiver
abbrev pub comes : (sender number : ℕ) → Parcel AppliedState → Player → Played
comes sender number parcel p =
    did (events.Deliver parcel.to sender number) (with_handled sender number p)

-- deliver: a message that the node has sent comes to its receiver
abbrev pub delivers : (line sender number : ℕ) → Option (Parcel AppliedState) → Player → Played
delivers line sender number None p = Ok (noted line nothing_text p)
delivers line sender number (Some parcel) p = comes sender number parcel p

-- one after another, for each of these
abbrev pub for_each : {A : Type 0} → (A → Player → Played) → List A → Player → Played
for_each act [] p = Ok p
for_each act (x ∷ xs) p = and_then (act x p) (for_each act xs)

-- so many times
abbrev pub repeated : ℕ → (Player → Played) → Player → Played
repeated zero act p = Ok p
repeated (suc n) act p = and_then (act p) (repeated n act)

-- tick: so many ticks of a node
abbrev pub ticks : (node count : ℕ) → Player → Played
ticks node count p = repeated count (did (events.Tick node)) p

-- the attempt is the latest of its command
abbrev pub is_latest : Player → CmdId → Bool
is_latest p id =
    option_map_or (λ e. same_id e.0 id) (latest_of id.client id.seq p.book) false

-- an attempt that had no place goes to the buffer, where it is its command's latest, waits, and there is
-- room; a drawn place is published
abbrev pub puts : CmdId → Booked → Draw → Player → Played
puts id b Undrawn p =
    if is_latest p id && is_waiting p.world.nodes id b && can_draw (buffer_at p b.node b.range)
    then draws_and_publishes 0 id b p
    else Ok p
puts id b (Drawn place) p = publishes id b place p
puts id b Published p = Ok p

-- first in a round: attempts by client, command and attempt go to their buffers
abbrev pub puts_all : Player → Played
puts_all p = for_each (λ e. puts e.0 e.1 e.1.draw) (by_attempt p.book) p

-- a live replica's buffer is collected and its inbox flushed
abbrev pub flushes_live : (node range : ℕ) → Player → Played
flushes_live node range p =
    if has_live p.world.nodes node range
    then and_then (did (events.Collect node range) p) (did (events.Flush node range))
    else Ok p

-- then each node ticks and flushes its ranges, ascending
abbrev pub ticks_and_flushes : (node : ℕ) → Player → Played
ticks_and_flushes node p =
    and_then (did (events.Tick node) p) (for_each (flushes_live node) range_numbers)

-- whether the loss of the script takes the message
abbrev pub is_lost_here : Player → (sender number : ℕ) → Bool
is_lost_here p sender number = is_lost p.loss.percent p.loss.salt sender number

-- a message is delivered, or passed over for good where it is lost
abbrev pub passes : (sender number : ℕ) → Option (Parcel AppliedState) → Player → Played
passes sender number None p = Ok p
passes sender number (Some parcel) p =
    if is_lost_here p sender number
    then Ok (with_handled sender number p)
    else comes sender number parcel p

abbrev pub passes_numbered : (sender number : ℕ) → Player → Played
passes_numbered sender number p =
    passes sender number (parcel_of (sent_by p.world.nodes sender) number) p

-- so many numbers from this one on
abbrev pub numbers_from : (number count : ℕ) → List ℕ
numbers_from number zero = []
numbers_from number (suc count) = number ∷ numbers_from (number + 1) count

-- then each sender's messages come, from the first that was not handled up to the end of its list as its
-- turn begins
abbrev pub unhandled_of : Player → (sender : ℕ) → List ℕ
unhandled_of p sender =
    let end = length (sent_by p.world.nodes sender) in
    let first = first_unhandled (handling_of p sender) in
    numbers_from first (end + 1 - first)

abbrev pub passes_all : (sender : ℕ) → Player → Played
passes_all sender p = for_each (passes_numbered sender) (unhandled_of p sender) p

-- how many committed entries a seat has not applied
abbrev pub left_to_apply : Status → ℕ
left_to_apply Absent = 0
left_to_apply (Live r) = r.raft.head.commit - r.applied.index
left_to_apply (Removed applied) = 0

abbrev pub left_at : Player → (node range : ℕ) → ℕ
left_at p node range =
    option_map_or (λ n. left_to_apply (seat n range)) (node_of p.world.nodes node) 0

-- last each live replica applies what is committed
abbrev pub applies_range : (node range : ℕ) → Player → Played
applies_range node range p = repeated (left_at p node range) (did (events.Apply node range)) p

abbrev pub applies_all : (node : ℕ) → Player → Played
applies_all node p = for_each (applies_range node) range_numbers p

-- the nodes' numbers, ascending
abbrev pub node_numbers : Player → List ℕ
node_numbers p = nodes_to (length p.world.nodes)

-- a round of a settling
abbrev pub round : Player → Played
round p =
    and_then (puts_all p) (λ q.
    and_then (for_each ticks_and_flushes (node_numbers q) q) (λ r.
    and_then (for_each passes_all (node_numbers r) r)
    (λ s. for_each applies_all (node_numbers s) s)))

-- settle: so many rounds
abbrev pub settles : (rounds : ℕ) → Player → Played
settles rounds p = repeated rounds round p
