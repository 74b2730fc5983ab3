-- Lines of clients' commands: send, admit, again, draw, publish (this project's script).
use Rattle.std.specs.Prelude.{ℕ, ◌+◌, Bool, true, false, not, ◌&&◌, if◌then◌else◌, Option, None, Some, Ok}
use Rattle.std.specs.Option.{option_map_or}
use Rattle.rp_base.specs.declared.ids.CmdId.{CmdId}
use Rattle.rp_base.specs.declared.items.Item.TheVariants as items
use Rattle.rp_bufcore.specs.Buffers.{Buffer, buffer_of, can_draw}
use Rattle.rp_request.specs.declared.requests.Request.{Request}
use Rattle.rp_pending.specs.Proposals.{proposal_of, is_proposed}
use Rattle.rp_events.specs.declared.answers.EventAnswer.{EventAnswer}
use Rattle.rp_events.specs.declared.answers.EventAnswer.TheVariants as answers
use Rattle.rp_events.specs.declared.world_events.WorldEvent.TheVariants as events
use Rattle.rp_events.specs.Nodes.{Status, Absent, Live, Removed, seat}
use Rattle.rp_events.specs.Worlds.{World, node_of}
use Rattle.rp_events.specs.Lawful.{was_refused}
use Rattle.rp_events.specs.Buffered.{buffers_at}
use Rattle.rp_book.specs.declared.bookings.Booked.{Booked}
use Rattle.rp_book.specs.declared.bookings.Draw.{Draw}
use Rattle.rp_book.specs.declared.bookings.Draw.TheVariants.{Undrawn, Drawn, Published}
use Rattle.rp_book.specs.Books.{booking_of}
use Rattle.rp_lines.specs.Players.{Player, Played, and_then, did, last_answer, noted, with_booking, next_command, counted}
use Rattle.rp_report.specs.Notes.{full_text, not_refused_text, nothing_text}

-- the buffer of a node and a range
abbrev pub buffer_at : Player → (node range : ℕ) → Buffer
buffer_at p node range = buffer_of (buffers_at p.world node) range

-- the attempt's place in the book becomes this
abbrev pub with_draw : CmdId → Booked → Draw → Player → Player
with_draw id b draw p = with_booking id (record b { draw = draw }) p

-- an item is published at the place that was drawn
abbrev pub publishes : CmdId → Booked → (place : ℕ) → Player → Played
publishes id b place p =
    did (events.Publish b.node b.range place (items.Write id)) (with_draw id b Published p)

-- an attempt draws a place: where there is none, the event is made all the same, and the line is told
abbrev pub draws : (line : ℕ) → CmdId → Booked → Player → Played
draws line id b p =
    if can_draw (buffer_at p b.node b.range)
    then did (events.Draw b.node b.range) (with_draw id b (Drawn (buffer_at p b.node b.range).drawn) p)
    else did (events.Draw b.node b.range) (noted line full_text p)

-- what was just drawn is published
abbrev pub publishes_drawn : CmdId → Booked → Draw → Player → Played
publishes_drawn id b Undrawn p = Ok p
publishes_drawn id b (Drawn place) p = publishes id b place p
publishes_drawn id b Published p = Ok p

abbrev pub publishes_booked : CmdId → Option Booked → Player → Played
publishes_booked id None p = Ok p
publishes_booked id (Some b) p = publishes_drawn id b b.draw p

-- an attempt draws a place and is published there
abbrev pub draws_and_publishes : (line : ℕ) → CmdId → Booked → Player → Played
draws_and_publishes line id b p =
    and_then (draws line id b p) (λ q. publishes_booked id (booking_of id q.book) q)

-- an attempt asks to be admitted, and stands in the book
abbrev pub asks : CmdId → Booked → Player → Played
asks id b p = did (events.Admit b.node b.range id b.request) (with_booking id b p)

-- an admitted attempt goes on to the buffer
abbrev pub goes_on : (line : ℕ) → CmdId → Booked → EventAnswer → Player → Played
goes_on line id b answers.Admitted p = draws_and_publishes line id b p
goes_on line id b answer p = Ok p

abbrev pub asks_and_goes_on : (line : ℕ) → CmdId → Booked → Player → Played
asks_and_goes_on line id b p = and_then (asks id b p) (λ q. goes_on line id b (last_answer q b.node) q)

-- an attempt at a node and a range, without a place
abbrev pub booking : Request → (node range : ℕ) → Booked
booking request node range =
    record { request = request; node = node; range = range; draw = Undrawn }

-- send: a client's next command is admitted, and goes to the buffer
abbrev pub sends : (line node range client : ℕ) → Request → Player → Played
sends line node range client request p =
    asks_and_goes_on line (next_command p client) (booking request node range) (counted client p)

-- admit: a client's next command is admitted
abbrev pub admits : (node range client : ℕ) → Request → Player → Played
admits node range client request p =
    asks (next_command p client) (booking request node range) (counted client p)

-- the attempt behind this one
abbrev pub following : CmdId → CmdId
following id = record id { attempt = id.attempt + 1 }

-- again: a further attempt of a command whose latest was refused
abbrev pub tries_again : (line node range : ℕ) → Option (CmdId × Booked) → Player → Played
tries_again line node range None p = Ok (noted line not_refused_text p)
tries_again line node range (Some e) p =
    if was_refused p.world.nodes e.0
    then asks_and_goes_on line (following e.0) (booking e.1.request node range) p
    else Ok (noted line not_refused_text p)

-- the attempt is pending and waits
abbrev pub waits_in : CmdId → Status → Bool
waits_in id Absent = false
waits_in id (Live r) = option_map_or (λ p. not (is_proposed p.stage)) (proposal_of id r.pending) false
waits_in id (Removed applied) = false

abbrev pub is_waiting : World → CmdId → Booked → Bool
is_waiting w id b = option_map_or (λ n. waits_in id (seat n b.range)) (node_of w b.node) false

-- it had no place yet
abbrev pub is_undrawn : Draw → Bool
is_undrawn Undrawn = true
is_undrawn (Drawn place) = false
is_undrawn Published = false

-- draw: a command's latest attempt draws a place, where it waits and had none
abbrev pub draws_latest : (line : ℕ) → Option (CmdId × Booked) → Player → Played
draws_latest line None p = Ok (noted line nothing_text p)
draws_latest line (Some e) p =
    if is_waiting p.world.nodes e.0 e.1 && is_undrawn e.1.draw
    then draws line e.0 e.1 p
    else Ok (noted line nothing_text p)

-- publish: a command's latest attempt is published at the place that it has drawn
abbrev pub publishes_by : (line : ℕ) → CmdId → Booked → Draw → Player → Played
publishes_by line id b Undrawn p = Ok (noted line nothing_text p)
publishes_by line id b (Drawn place) p = publishes id b place p
publishes_by line id b Published p = Ok (noted line nothing_text p)

abbrev pub publishes_latest : (line : ℕ) → Option (CmdId × Booked) → Player → Played
publishes_latest line None p = Ok (noted line nothing_text p)
publishes_latest line (Some e) p = publishes_by line e.0 e.1 e.1.draw p
