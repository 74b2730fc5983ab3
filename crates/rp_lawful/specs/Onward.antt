-- How one player leads to another, and what a line that is played leaves (this project).
use Rattle.std.specs.Prelude.{◌≡◌, ℕ, ◌+◌, List, length, Some}
use Rattle.rp_base.specs.ClientCounts.{one_more_of}
use Rattle.rp_base.specs.declared.ids.CmdId.{CmdId}
use Rattle.rp_script.specs.declared.lines.ScriptLine.{ScriptLine}
use Rattle.rp_script.specs.declared.lines.ScriptLine.TheVariants as lines
use Rattle.rp_events.specs.Lawful.{IsLater}
use Rattle.rp_book.specs.declared.bookings.Booked.{Booked}
use Rattle.rp_book.specs.declared.bookings.Draw.{Draw}
use Rattle.rp_book.specs.Books.{booking_of}
use Rattle.rp_lines.specs.Players.{Player}
use Rattle.rp_lawful.specs.Sound.{Sound}

-- the book has the attempt with this request, node and range, however far it has come in its buffer
pub record IsBookedAs (p : Player) (id : CmdId) (b : Booked) : Type 0 where
  pub draw : Draw
  pub is : booking_of id p.book ≡ Some (record b { draw = draw })

-- a part of a line leads from one player to a sound one: as many nodes, later on; as many commands; and
-- what was booked is booked
pub record LeadsOn (lines : ℕ) (p q : Player) : Type 0 where
  pub sound : Sound lines q
  pub later : IsLater p.world.nodes q.world.nodes
  pub size : length q.world.nodes ≡ length p.world.nodes
  pub sent : q.sent ≡ p.sent
  pub booked : (id : CmdId) (b : Booked) → IsBookedAs p id b → IsBookedAs q id b

-- how many commands each client has sent behind a line
abbrev pub sent_after : List ℕ → ScriptLine → List ℕ
sent_after sent (lines.Send node range client request) = one_more_of sent client
sent_after sent (lines.Admit node range client request) = one_more_of sent client
sent_after sent line = sent

-- a line leads on: it may have sent one more command of a client
pub record LineLeadsOn (lines : ℕ) (p : Player) (line : ScriptLine) (q : Player) : Type 0 where
  pub sound : Sound (lines + 1) q
  pub later : IsLater p.world.nodes q.world.nodes
  pub size : length q.world.nodes ≡ length p.world.nodes
  pub sent : q.sent ≡ sent_after p.sent line
