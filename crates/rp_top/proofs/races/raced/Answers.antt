use Rattle.std.proofs.Common.{sym}
use Rattle.rp_top.proofs.RaceProof.{clients_few, commands_few, due_by, few_nodes, reached_size, replies_shown, rules_of_world, shows_race}
use Rattle.rp_top.proofs.races.raced.Goals as goal

pub race-requires-clause-nodes : goal.race-requires-clause-nodes
race-requires-clause-nodes g c = λ κs lives. rw c.nodes_named.ensures (few_nodes c.args.lines.now c.requires.is_script c.requires.few)

pub race-requires-clause-world : goal.race-requires-clause-world
race-requires-clause-world g c = λ κs lives. rw c.nodes_named.ensures (rules_of_world c.args.plan c.args.lines.now _ c.in_ok-rules.ensures.rules c.requires.is_script)

pub race-requires-clause-clients : goal.race-requires-clause-clients
race-requires-clause-clients g c = λ κs lives. clients_few c.args.plan c.args.lines.now _ c.in_ok-rules.ensures.rules c.requires.is_script

pub race-requires-clause-commands : goal.race-requires-clause-commands
race-requires-clause-commands g c = λ κs lives. commands_few c.args.plan c.args.lines.now _ c.in_ok-rules.ensures.rules c.requires.few

pub report_of-requires-clause-shown : goal.report_of-requires-clause-shown
report_of-requires-clause-shown g c = replies_shown _ c.in_ok-rules.rules _ _ c.in_ok-nodes.ensures.reached c.in_ok-nodes.ensures.replies

pub returns : goal.returns
returns g c =
    due_by c.args.plan c.args.lines.now c.in_ok-nodes.field-0.verdict _ _ c.in_ok-nodes.ensures.over c.status_of.ensures.ok c.status_of.ensures.unfinished
    (shows_race c.args.plan c.args.lines.now c.in_ok-rules.rules _ _ _ _ c.in_ok-rules.ensures.rules
    (reached_size _ _ _ (sym c.nodes_named.ensures) c.in_ok-nodes.ensures.reached) c.in_ok-nodes.ensures.played c.in_ok-nodes.ensures.replies c.in_ok-nodes.ensures.ends
    c.in_ok-report_of.ensures)
