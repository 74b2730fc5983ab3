use Rattle.std.proofs.Common.{◌≡◌}
use Rattle.rp_buffer.specs.Passes.{known_by}
use Rattle.rp_switch.specs.Openings.{bare}
use Rattle.rp_contest.proofs.Handing.{hand_left, nodes_front}
use Rattle.rp_contest.proofs.openings.first_nodes.Given as goal

-- what the pass still has, and the nodes so far
abbrev pub invariant-loop-place : goal.invariant-loop-place
invariant-loop-place l = record {
  same : l.pass.seat.table_id ≡ l.fn.pass.seat.table_id;
  known : known_by l.pass ≡ hand_left l.place;
  nodes : bare l.list.items ≡ nodes_front l.nodes l.place;
}
