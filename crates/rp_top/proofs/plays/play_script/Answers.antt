use Rattle.rp_top.proofs.Playing.{ends_reached, stopped_play}
use Rattle.rp_top.proofs.plays.play_script.Goals as goal

pub returns-in-Ok-clause-reached : goal.returns-in-Ok-clause-reached
returns-in-Ok-clause-reached c = (ends_reached c.args.lines.now c.play_all.new.world c.requires.is_script c.requires.few (rw (c.nodes_named-nodes.ensures, c.behind_first.ensures) at c.in-Ok.ensures)).0

pub returns-in-Ok-clause-size : goal.returns-in-Ok-clause-size
returns-in-Ok-clause-size c = (ends_reached c.args.lines.now c.play_all.new.world c.requires.is_script c.requires.few (rw (c.nodes_named-nodes.ensures, c.behind_first.ensures) at c.in-Ok.ensures)).1

pub returns-in-Err-clause-played : goal.returns-in-Err-clause-played
returns-in-Err-clause-played c = rw c.stop_of_play.ensures.stop
    (stopped_play c.args.lines.now c.in-Err.fault c.requires.is_script c.requires.few (rw (c.nodes_named-nodes.ensures, c.behind_first.ensures) at c.in-Err.ensures))
