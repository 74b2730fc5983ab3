-- What is true of a player between two lines, and between two events of a line (this project).
use Rattle.std.specs.Prelude.{◌≡◌, ℕ, ◌<◌, ◌≤◌, ◌^◌, true, List, [], ◌∷◌, length, slice_get, sum_by, None, Some}
use Rattle.rp_base.specs.ClientCounts.{count_of}
use Rattle.rp_base.specs.declared.ids.CmdId.{CmdId}
use Rattle.rp_bufcore.specs.Buffers.{Buffer, start, buffer_of}
use Rattle.rp_bufcore.specs.Events.{Event, run}
use Rattle.rp_request.specs.Attempts.{previous}
use Rattle.rp_request.specs.Fits.{FitsRequest}
use Rattle.rp_script.specs.Bounds.{IsFromTo, IsNode, IsCommand}
use Rattle.rp_events.specs.declared.answers.EventAnswer.{EventAnswer}
use Rattle.rp_events.specs.declared.journals.PastEvent.TheVariants as past
use Rattle.rp_events.specs.Nodes.{Node}
use Rattle.rp_events.specs.Worlds.{World, node_of, sent_by, was_asked}
use Rattle.rp_events.specs.Lawful.{IsReached, was_refused}
use Rattle.rp_events.specs.Buffered.{Buffered, buffers_at}
use Rattle.rp_book.specs.declared.bookings.Booked.{Booked}
use Rattle.rp_book.specs.Books.{Book, booking_of, latest_of}
use Rattle.rp_lines.specs.Players.{Player, Loss, weight, most_events, most_weight}
use Rattle.rp_lines.specs.Settling.{handling_of}

-- the attempt was asked at the node and in the range of its booking, for its request
pub record IsAskedAs (w : World) (id : CmdId) (b : Booked) : Type 0 where
  pub n : Node
  pub has : node_of w b.node ≡ Some n
  pub place : ℕ
  pub at : ℕ
  pub answer : EventAnswer
  pub here : slice_get n.journal place
      ≡ Some (record { event = past.Admit b.range id at; answer = answer })
  pub asked : slice_get n.requests at ≡ Some b.request

-- the attempt before this one is booked for the same request, and was refused
pub record FollowsRefused (p : Player) (id : CmdId) (b : Booked) : Type 0 where
  pub before : Booked
  pub is : booking_of (previous id) p.book ≡ Some before
  pub same : before.request ≡ b.request
  pub refused : was_refused p.world.nodes (previous id) ≡ true

-- what the book has of an attempt: it is one of its client's commands and was asked so; one behind the
-- first follows a refused one
pub record IsSoundBooking (lines : ℕ) (p : Player) (id : CmdId) (b : Booked) : Type 0 where
  pub command : IsCommand p.sent id.client id.seq
  pub attempt : IsFromTo 1 lines id.attempt
  pub node : IsNode (length p.world.nodes) b.node
  pub range : b.range ≤ 7
  pub request : FitsRequest b.request
  pub asked : IsAskedAs p.world.nodes id b
  pub follows : 1 < id.attempt → FollowsRefused p id b

-- the last entry of a command in the book is that of its greatest attempt
pub record IsLatest (p : Player) (client seq : ℕ) (e : CmdId × Booked) : Type 0 where
  pub has : booking_of e.0 p.book ≡ Some e.1
  pub client_is : e.0.client ≡ client
  pub seq_is : e.0.seq ≡ seq
  pub last : (id : CmdId) (b : Booked) → booking_of id p.book ≡ Some b → id.client ≡ client
      → id.seq ≡ seq → id.attempt ≤ e.0.attempt

-- the book's latest attempt of a command
pub record HasLatest (p : Player) (client seq : ℕ) : Type 0 where
  pub entry : CmdId × Booked
  pub is : latest_of client seq p.book ≡ Some entry
  pub latest : IsLatest p client seq entry

-- no attempt stands twice in a book
abbrev pub AreApart : Book → Type 0
AreApart [] = Unit {0}
AreApart (e ∷ es) = (booking_of e.0 es ≡ None) × AreApart es

-- the book has the attempts that were asked, and each command's latest one last
pub record IsSoundBook (lines : ℕ) (p : Player) : Type 0 where
  pub apart : AreApart p.book
  pub booked : (id : CmdId) (b : Booked) → booking_of id p.book ≡ Some b → IsSoundBooking lines p id b
  pub asked : (id : CmdId) → was_asked p.world.nodes id ≡ true
      → (b : Booked) × (booking_of id p.book ≡ Some b)
  pub latest : (client seq : ℕ) → IsCommand p.sent client seq → HasLatest p client seq

-- a buffer as it can be: some events lead to it from its start
pub record IsBufferRun (b : Buffer) : Type 0 where
  pub events : List Event
  pub is : run start events ≡ b

-- each node has the buffers of eight ranges, each as it can be
pub record AreSoundBuffers (b : Buffered) : Type 0 where
  pub many : length b.buffers ≡ length b.nodes
  pub eight : (node : ℕ) → length (buffers_at b node) ≡ 8
  pub runs : (node range : ℕ) → IsBufferRun (buffer_of (buffers_at b node) range)

-- each sender has a list of which of its messages were handled, no longer than what it sent
pub record IsSoundHandling (p : Player) : Type 0 where
  pub many : length p.handled ≡ length p.world.nodes
  pub within : (sender : ℕ) → 1 ≤ sender
      → length (handling_of p sender) ≤ length (sent_by p.world.nodes sender)

-- the loss of a script: at most half of the messages
abbrev pub IsLoss : Loss → Type 0
IsLoss loss = (loss.percent ≤ 50) × (loss.salt < 2 ^ 64)

-- a player behind so many lines, or fewer: its nodes are a reached world, no more events than were
-- counted, and within the limits; its book, its buffers and its lists are sound
pub record Sound (lines : ℕ) (p : Player) : Type 0 where
  pub reached : IsReached (length p.world.nodes) p.world.nodes
  pub journals : sum_by (λ (n : Node). length n.journal) p.world.nodes ≤ p.events
  pub events : p.events ≤ most_events
  pub weight_is : weight p.world.nodes ≤ most_weight
  pub clients : length p.sent ≡ 64
  pub counts : (client : ℕ) → count_of p.sent client ≤ lines
  pub book : IsSoundBook lines p
  pub buffers : AreSoundBuffers p.world
  pub handling : IsSoundHandling p
  pub loss : IsLoss p.loss
