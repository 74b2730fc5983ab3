use Rattle.std.proofs.Common.{ap}
use Rattle.rp_top.proofs.Showing.{nodes_reached, view_is}
use Rattle.rp_top.proofs.plays.view_of.Goals as goal

pub view-requires : goal.view-requires
view-requires c = nodes_reached c.args.world.world.nodes c.into_parts-nodes.result.0 (ap (λ b. b.nodes) c.into_parts-nodes.ensures.nodes) c.requires

pub returns : goal.returns
returns c =
    view_is c.view.result c.args.world.world.nodes c.into_parts-nodes.result.0 c.args.world.notes c.into_parts-nodes.result.1 c.in_ok-replies.replies
    (ap (λ b. b.nodes) c.into_parts-nodes.ensures.nodes) c.into_parts-nodes.ensures.notes c.in_ok-replies.ensures c.view.ensures.view
