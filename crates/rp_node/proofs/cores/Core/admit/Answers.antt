use Rattle.std.proofs.Common.{[], refl, ap, ◌∙◌}
use Rattle.rp_events.specs.Nodes.{Node}
use Rattle.rp_events.specs.NodeEvents.{by_replica, with_request}
use Rattle.rp_events.specs.declared.journals.PastEvent.TheVariants as past
use Rattle.rp_events.specs.declared.replica_events.ReplicaEvent.TheVariants as at_replica
use Rattle.rp_node.specs.Cores.{node_of}
use Rattle.rp_node.proofs.Stepping.{happened, asked_node, same_place}
use Rattle.rp_node.proofs.cores.Core.admit.Goals as goal

pub returns-clause-ok : goal.returns-clause-ok
returns-clause-ok c =
    let before = c.args.self.now in
    let prepared = c.prepare.new.self in
    let request = c.args.request.now in
    let logs = record prepared.logs { requests = c.push.new.self } in
    let asked = record prepared { logs = logs } in
    happened (with_request (node_of before) request) asked c.turn-answer.new.self c.write.new.self c.args.range (at_replica.Admit c.args.id request) c.in_ok-plan.plan (past.Admit c.args.range c.args.id c.len-place.result) c.turn-answer.result
    (asked_node prepared logs request c.push.ensures.list refl refl refl ∙ ap (λ (n : Node). with_request n request) c.in_ok-plan.ensures.node)
    c.in_ok-plan.ensures.plan.ready tt c.turn-answer.ensures.done
    c.write.ensures.journal c.write.ensures.sent c.write.ensures.outcomes c.write.ensures.requests
    ∙ same_place (node_of prepared) (node_of before) c.len-place.result c.args.range c.args.id
    (by_replica (with_request (node_of before) request) c.args.range (at_replica.Admit c.args.id request) []) c.len-place.ensures c.in_ok-plan.ensures.node
