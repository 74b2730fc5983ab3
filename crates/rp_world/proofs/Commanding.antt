-- What the latest attempt of a command allows.
use Rattle.std.proofs.Common.{◌≡◌, ℕ, ◌+◌, ◌<◌, ◌^◌, true, None, Some, length, sym, ap, subst, ◌∙◌}
use Rattle.rp_base.specs.declared.ids.CmdId.{CmdId}
use Rattle.rp_book.specs.declared.bookings.Booked.{Booked}
use Rattle.rp_events.specs.Lawful.{was_refused}
use Rattle.rp_book.specs.Books.{booking_of, latest_of}
use Rattle.rp_lawful.specs.Onward.{IsBookedAs}
use Rattle.rp_lawful.proofs.Books.{latest_had}
use Rattle.rp_lawful.specs.Comings.{Comes}
use Rattle.rp_lines.specs.Commands.{booking, following}
use Rattle.rp_lines.specs.Players.{Player, counted, next_command}
use Rattle.rp_request.specs.Fits.{FitsRequest}
use Rattle.rp_script.specs.Bounds.{IsClient, IsNode}
use Rattle.rp_world.specs.Going.{Going}
use Rattle.rp_world.specs.Latest.{refused_latest, undrawn_latest}
use Rattle.rp_world.specs.Plays.{admission}
use Rattle.rp_world.proofs.Below.{attempt_fits, booking_sound, comes_further, comes_next, new_further, new_next}
use Rattle.rp_world.proofs.Latests.{from_refused, from_undrawn}

pub latest_node : (p : Player) → Going p → (client seq : ℕ) (id : CmdId) (b : Booked) → latest_of client seq p.book ≡ Some (id, b) → IsNode (length p.world.nodes) b.node
latest_node p g client seq id b is = (booking_sound g.lines p g.sound client seq id b is).node

pub latest_has : (p : Player) → Going p → (client seq : ℕ) (id : CmdId) (b : Booked) → latest_of client seq p.book ≡ Some (id, b) → booking_of id p.book ≡ Some b
latest_has p g client seq id b is = (latest_had p.book g.sound.book.apart client seq (id, b) is).has

pub latest_booked : (p : Player) → Going p → (client seq : ℕ) (id : CmdId) (b : Booked) → latest_of client seq p.book ≡ Some (id, b) → IsBookedAs p id b
latest_booked p g client seq id b is = record { draw = b.draw; is = latest_has p g client seq id b is }

-- the book in hand is the player's
pub latest_here : (p q : Player) → q ≡ p → (client seq : ℕ) (id : CmdId) (b : Booked) → Some (id, b) ≡ latest_of client seq q.book → latest_of client seq p.book ≡ Some (id, b)
latest_here p q same client seq id b is = ap (λ (x : Player). latest_of client seq x.book) (sym same) ∙ sym is

pub undrawn_here : (p : Player) (client seq : ℕ) (id : CmdId) (b : Booked) → Some (id, b) ≡ undrawn_latest p client seq → latest_of client seq p.book ≡ Some (id, b)
undrawn_here p client seq id b is = from_undrawn p.world.nodes (latest_of client seq p.book) (id, b) (sym is)

-- a client's next command may come, and is new
pub admission_comes : (p q : Player) → Going p → (client : ℕ) (id : CmdId) (b : Booked) → id ≡ next_command p client → q ≡ counted client p
    → IsNode (length p.world.nodes) b.node → IsClient client → FitsRequest b.request → Comes q.world (admission id b)
admission_comes p q g client id b is counts node is_client fits =
    subst (λ (x : Player). Comes x.world (admission id b)) (sym counts)
    (subst (λ i. Comes p.world (admission i b)) (sym is) (comes_next g.lines p g.sound g.few b.node b.range client b.request node is_client fits))

pub admission_new : (p q : Player) → Going p → (client : ℕ) (id : CmdId) → id ≡ next_command p client → q ≡ counted client p → IsClient client → booking_of id q.book ≡ None
admission_new p q g client id is counts is_client =
    ap (λ (x : Player). booking_of id x.book) counts ∙ ap (λ i. booking_of i p.book) is ∙ new_next g.lines p g.sound client is_client

-- and so may a further attempt of a command whose latest was refused
pub refused_here : (p : Player) (client seq : ℕ) (id : CmdId) (b : Booked) → Some (id, b) ≡ refused_latest p client seq
    → (latest_of client seq p.book ≡ Some (id, b)) × (was_refused p.world.nodes id ≡ true)
refused_here p client seq id b is = from_refused p.world.nodes (latest_of client seq p.book) (id, b) (sym is)

pub further_fits : (p : Player) → Going p → (client seq : ℕ) (id : CmdId) (b : Booked) → Some (id, b) ≡ refused_latest p client seq → id.attempt + 1 < 2 ^ 16
further_fits p g client seq id b is = attempt_fits g.lines p g.sound g.few client seq id b (refused_here p client seq id b is).0

pub further_may_come : (p : Player) → Going p → (node range client seq : ℕ) (id next : CmdId) (b new : Booked) → Some (id, b) ≡ refused_latest p client seq → next ≡ following id
    → new ≡ booking b.request node range → IsNode (length p.world.nodes) node → Comes p.world (admission next new)
further_may_come p g node range client seq id next b new is next_is new_is at =
    let here : (latest_of client seq p.book ≡ Some (id, b)) × (was_refused p.world.nodes id ≡ true) = refused_here p client seq id b is in
    subst (λ i. Comes p.world (admission i new)) (sym next_is)
    (subst (λ x. Comes p.world (admission (following id) x)) (sym new_is)
    (comes_further g.lines p g.sound g.few node range client seq id b at here.0 here.1))

pub further_is_new : (p : Player) → Going p → (client seq : ℕ) (id next : CmdId) (b : Booked) → Some (id, b) ≡ refused_latest p client seq → next ≡ following id → booking_of next p.book ≡ None
further_is_new p g client seq id next b is next_is =
    ap (λ i. booking_of i p.book) next_is ∙ new_further g.lines p g.sound client seq id b (refused_here p client seq id b is).0
