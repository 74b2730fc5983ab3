-- Laws of the crates below, as they are used here.
use Rattle.std.proofs.Common.{◌≡◌, ℕ, ◌+◌, ◌<◌, ◌≤◌, ◌^◌, arith, Bool, true, false, ◌||◌, IsTrue, Option, None, Some, Result, Ok, List, [], ◌∷◌, ◌++◌, sum_by, length}
use Rattle.std.specs.List.{AllByRecursion}
use Rattle.rp_base.specs.Ids.{same_id}
use Rattle.rp_base.specs.declared.ids.CmdId.{CmdId}
use Rattle.rp_request.specs.Applied.{AppliedState}
use Rattle.rp_request.specs.Fits.{FitsRequest}
use Rattle.rp_request.specs.declared.requests.Request.{Request}
use Rattle.rp_script.specs.Bounds.{Fits, IsClient, IsNode}
use Rattle.rp_script.specs.declared.lines.NumberedLine.{NumberedLine}
use Rattle.rp_events.specs.declared.parcels.Parcel.{Parcel}
use Rattle.rp_events.specs.declared.world_events.WorldEvent.{WorldEvent}
use Rattle.rp_events.specs.declared.world_events.WorldEvent.TheVariants as events
use Rattle.rp_events.specs.Nodes.{Node, parcel_of}
use Rattle.rp_events.specs.Worlds.{World, Scene, Happening, node_of, sent_by, asked_request, happens, outcome_of, was_asked}
use Rattle.rp_events.specs.Lawful.{IsReached, Lawful, is_lawful, was_refused}
use Rattle.rp_events.specs.Buffered.{Buffered, buffered_step}
use Rattle.rp_book.specs.declared.bookings.Booked.{Booked}
use Rattle.rp_book.specs.Books.{Book, booked, booking_of, latest_of}
use Rattle.rp_lawful.specs.Comings.{Comes, IsPlain, happening_of, node_in, scene_at}
use Rattle.rp_lawful.specs.Onward.{LeadsOn}
use Rattle.rp_lawful.specs.Playable.{CanPlay}
use Rattle.rp_lawful.specs.Sound.{IsSoundBooking, Sound}
use Rattle.rp_lawful.proofs.Books as books
use Rattle.rp_lawful.proofs.Books.{latest_had}
use Rattle.rp_lawful.proofs.Coming.{comes_nodes, plain_comes}
use Rattle.rp_lawful.proofs.Lines.{noted_leads, plain_keeps}
use Rattle.rp_lawful.proofs.Nexts.{further_comes, further_new, next_comes, next_new, room}
use Rattle.rp_lawful.proofs.Playing.{can_fits, can_room, can_sound, sent_comes}
use Rattle.rp_lines.specs.Commands.{following}
use Rattle.rp_lines.specs.Players.{Player, did, next_command, noted, weight, weight_of}
use Rattle.rp_told.proofs.Asks.{no_ends, was_asked_now}
use Rattle.rp_told.proofs.Ends as ends
use Rattle.rp_told.proofs.Looking.{weight_now}
use Rattle.rp_told.proofs.Requests.{request_now}
use Rattle.rp_told.proofs.Telling.{told_now}
use Rattle.rp_told.proofs.Turning.{front_and_behind, turn_grows, turns}
use Rattle.rp_told.specs.Turns.{Turns, answer_of, behind}
use Rattle.rp_told.specs.Outcomes.{EndsPending, asks, begun, begun_request, retold}

pub outcome_after : (k : ℕ) (w : World) → IsReached k w → (x : Scene) (n now : Node) → Turns w x n now → (id : CmdId)
    → outcome_of (happens w x) id ≡ retold id (behind n.outcomes now.outcomes) (begun id x.what (answer_of now) (outcome_of w id))
outcome_after k w reached x n now turns id = told_now k w reached x n now turns id

pub ends_pending : (k : ℕ) (w : World) → IsReached k w → (x : Scene) (n now : Node) → Turns w x n now
    → AllByRecursion (EndsPending w) (behind n.outcomes now.outcomes)
ends_pending k w reached x n now turns = ends.ends_pending k w reached x n now turns

pub asked_after : (w : World) (x : Scene) (n now : Node) → Turns w x n now → (id : CmdId) → was_asked (happens w x) id ≡ (asks id x.what || was_asked w id)
asked_after w x n now turns id = was_asked_now w x n now turns id

pub request_after : (k : ℕ) (w : World) → IsReached k w → (x : Scene) (n now : Node) → Turns w x n now → (id : CmdId)
    → asked_request (happens w x) id ≡ begun_request id x.what (asked_request w id)
request_after k w reached x n now turns id = request_now k w reached x n now turns id

pub ends_none : (w : World) (x : Scene) (n now : Node) → Turns w x n now → (id : CmdId) → asks id x.what ≡ true → behind n.outcomes now.outcomes ≡ []
ends_none w x n now turns id is = no_ends w x n now turns id is

pub turns_there : (w : World) (x : Scene) → Lawful w x → (n : Node) × (now : Node) × Turns w x n now
turns_there w x lawful = turns w x lawful

pub weight_after : (w : World) (x : Scene) (n now : Node) → Turns w x n now → weight (happens w x) ≡ weight w + sum_by weight_of (behind n.sent now.sent)
weight_after w x n now turns = weight_now w x n now turns

pub booked_here : (id : CmdId) (b : Booked) (book : Book) → booking_of id (booked id b book) ≡ Some b
booked_here id b book = books.booked_here id b book

pub booked_other : (id other : CmdId) (b : Booked) (book : Book) → same_id other id ≡ false → booking_of other (booked id b book) ≡ booking_of other book
booked_other id other b book ne = books.booked_other id other b book ne

pub step_nodes : (b : Buffered) (e : WorldEvent) → Comes b e → (what : Happening) → happening_of b e ≡ Some what
    → (buffered_step b e).nodes ≡ happens b.nodes (scene_at (node_in e) what)
step_nodes b e c what is = comes_nodes b e c what is

pub ended_grow : (w : World) (x : Scene) (n now : Node) → Turns w x n now → now.outcomes ≡ n.outcomes ++ behind n.outcomes now.outcomes
ended_grow w x n now turns = front_and_behind n.outcomes now.outcomes (turn_grows w x n now turns).outcomes

pub sent_grow : (w : World) (x : Scene) (n now : Node) → Turns w x n now → now.sent ≡ n.sent ++ behind n.sent now.sent
sent_grow w x n now turns = front_and_behind n.sent now.sent (turn_grows w x n now turns).sent

pub comes_plain : (lines : ℕ) (p : Player) → Sound lines p → (e : WorldEvent) → IsPlain (length p.world.nodes) e → Comes p.world e
comes_plain lines p sound e plain = plain_comes (length p.world.nodes) p.world sound.reached (room lines p sound) sound.buffers e plain

pub comes_deliver : (lines : ℕ) (p : Player) → Sound lines p → (sender number : ℕ) (parcel : Parcel AppliedState)
    → parcel_of (sent_by p.world.nodes sender) number ≡ Some parcel → Comes p.world (events.Deliver parcel.to sender number)
comes_deliver lines p sound sender number parcel is = sent_comes lines p sound sender number parcel is

pub comes_next : (lines : ℕ) (p : Player) → Sound lines p → lines + 1 < 2 ^ 16 → (node range client : ℕ) (request : Request)
    → IsNode (length p.world.nodes) node → IsClient client → FitsRequest request → Comes p.world (events.Admit node range (next_command p client) request)
comes_next lines p sound few node range client request is_node is_client fits = next_comes lines p sound few node range client request is_node is_client fits

pub comes_further : (lines : ℕ) (p : Player) → Sound lines p → lines + 1 < 2 ^ 16 → (node range client seq : ℕ) (id : CmdId) (b : Booked)
    → IsNode (length p.world.nodes) node → latest_of client seq p.book ≡ Some (id, b) → was_refused p.world.nodes id ≡ true
    → Comes p.world (events.Admit node range (following id) b.request)
comes_further lines p sound few node range client seq id b is_node latest refused = further_comes lines p sound few node range client seq id b is_node latest refused

pub leads_plain : (lines : ℕ) (p : Player) → Sound lines p → (e : WorldEvent) → IsPlain (length p.world.nodes) e → (q : Player) → did e p ≡ Ok q → LeadsOn lines p q
leads_plain lines p sound e plain q is = plain_keeps lines p sound e plain q is

pub leads_noted : (lines : ℕ) (p : Player) → Sound lines p → (line : ℕ) (text : List ℕ) → LeadsOn lines p (noted line text p)
leads_noted lines p sound line text = noted_leads lines p sound line text

pub new_next : (lines : ℕ) (p : Player) → Sound lines p → (client : ℕ) → IsClient client → booking_of (next_command p client) p.book ≡ None
new_next lines p sound client is_client = next_new lines p sound client

pub new_further : (lines : ℕ) (p : Player) → Sound lines p → (client seq : ℕ) (id : CmdId) (b : Booked) → latest_of client seq p.book ≡ Some (id, b)
    → booking_of (following id) p.book ≡ None
new_further lines p sound client seq id b latest = further_new lines p sound client seq id b latest

-- the attempt behind a booked one can be counted, and its node is there
pub booking_sound : (lines : ℕ) (p : Player) → Sound lines p → (client seq : ℕ) (id : CmdId) (b : Booked) → latest_of client seq p.book ≡ Some (id, b) → IsSoundBooking lines p id b
booking_sound lines p sound client seq id b latest = sound.book.booked id b (latest_had p.book sound.book.apart client seq (id, b) latest).has

pub attempt_fits : (lines : ℕ) (p : Player) → Sound lines p → lines + 1 < 2 ^ 16 → (client seq : ℕ) (id : CmdId) (b : Booked) → latest_of client seq p.book ≡ Some (id, b)
    → id.attempt + 1 < 2 ^ 16
attempt_fits lines p sound few client seq id b latest =
    let at : id.attempt ≤ lines = (booking_sound lines p sound client seq id b latest).attempt.1 in omega arith

pub play_sound : (nodes : ℕ) (p : Player) (l : NumberedLine) (c : CanPlay nodes p l) → Sound (length c.lines) p
play_sound nodes p l c = can_sound nodes p l c

pub play_few : (nodes : ℕ) (p : Player) (l : NumberedLine) (c : CanPlay nodes p l) → length c.lines + 1 < 2 ^ 16
play_few nodes p l c = can_room nodes p l c

pub play_fits : (nodes : ℕ) (p : Player) (l : NumberedLine) → CanPlay nodes p l → Fits nodes p.sent l.line
play_fits nodes p l c = can_fits nodes p l c
