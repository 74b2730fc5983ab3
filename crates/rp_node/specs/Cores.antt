-- What contracts see of a node: the node of the definitions, and its buffer end.
use Rattle.std.specs.Prelude.{◌≡◌, ℕ, Bool, true, false, ◌≤◌, map, slice_index_or, List}
use Rattle.rp_events.specs.Nodes.{Node, Status, Absent, Live, Removed}
use Rattle.rp_node.specs.declared.cores.Core.{Core}
use Rattle.rp_node.specs.declared.logs.Logs.{Logs}
use Rattle.rp_node.specs.declared.seats.Seat.{Seat}
use Rattle.rp_node.specs.declared.seats.Seat.TheVariants as seats

-- what a seat holds, room aside
abbrev pub status_of : Seat → Status
status_of seats.Absent = Absent
status_of (seats.Live held) = Live held.replica
status_of (seats.Removed kept) = Removed kept.history

-- it has nothing
abbrev pub is_absent : Seat → Bool
is_absent seats.Absent = true
is_absent (seats.Live held) = false
is_absent (seats.Removed kept) = false

-- the seat of a range
abbrev pub seat_in : List Seat → (range : ℕ) → Seat
seat_in list range = slice_index_or list range seats.Absent

-- a node without its buffer end, room aside
abbrev pub node_of : Core → Node
node_of c = record {
  node = c.node;
  nodes = c.nodes;
  seats = map status_of c.seats;
  ticks = c.ticks;
  rounds = c.rounds;
  sent = c.logs.sent.list;
  journal = c.logs.journal.list;
  requests = c.logs.requests.list;
  outcomes = c.logs.outcomes.list;
  waited = c.waited;
}

-- so many messages and outcomes, an event and a request can be kept without memory
pub record HasSpare (logs : Logs) (sends ends : ℕ) : Type 0 where
  pub sent : sends ≤ logs.sent.spare
  pub outcomes : ends ≤ logs.outcomes.spare
  pub journal : 1 ≤ logs.journal.spare
  pub requests : 1 ≤ logs.requests.spare

-- the lists are the same, room aside
pub record AreAlike (old new : Logs) : Type 0 where
  pub sent : new.sent.list ≡ old.sent.list
  pub journal : new.journal.list ≡ old.journal.list
  pub requests : new.requests.list ≡ old.requests.list
  pub outcomes : new.outcomes.list ≡ old.outcomes.list
