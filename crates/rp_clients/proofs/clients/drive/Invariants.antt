use Rattle.std.proofs.Common.{◌≡◌, ◌+◌, ◌≤◌, length}
use Rattle.rp_clients.specs.Courses.{SameDesk, AtPlace}
use Rattle.rp_clients.proofs.Commands.{left_first}
use Rattle.rp_clients.proofs.clients.drive.Given as goal

abbrev pub invariant-loop-request : goal.invariant-loop-request
invariant-loop-request g l = record {
  seq : l.seq ≡ l.request-index;
  room : length l.requests ≤ l.finals.spare + l.request-index;
  finals : l.finals.list ≡ left_first l.request-index (g.D.Desk.stands l.desk).tries;
  place : AtPlace l.is_over (l.request-index + 1) l.course.hints (g.D.Desk.stands l.desk);
  same : SameDesk (g.D.Desk.stands l.fn.desk) (g.D.Desk.stands l.desk);
}
