use Rattle.rp_told.proofs.laws.an_event_changes_its_node_alone.Goals as goal
use Rattle.rp_told.proofs.Turning.{turned, turns, turn_grows, others_stay, as_many, front_and_behind, later_by, reached_by}

pub returns : goal.returns
returns c = record {
  others = others_stay;
  size = as_many;
  turns = turns;
  grows = turn_grows;
  left = λ w x n now t. (turned w x n now t).left;
  sent = λ w x n now t. front_and_behind n.sent now.sent (turn_grows w x n now t).sent;
  ended = λ w x n now t. front_and_behind n.outcomes now.outcomes (turn_grows w x n now t).outcomes;
  reached = reached_by;
  later = later_by;
}
