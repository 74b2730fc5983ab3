use Rattle.std.proofs.Common.{◌≡◌, ◌≤◌, ◌+◌, ◌++◌, length}
use Rattle.rp_events.specs.Nodes.{parcels}
use Rattle.rp_node.proofs.logs.push_parcels.Given as goal

-- the messages so far are sent, and the others have room
abbrev pub invariant-loop-to : goal.invariant-loop-to
invariant-loop-to l = record {
  sent : l.sent.list ≡ l.fn.sent.list ++ parcels l.range l.yielded;
  room : l.fn.sent.spare ≤ l.sent.spare + length l.yielded;
}
