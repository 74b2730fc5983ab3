use Rattle.rp_top.proofs.Showing.{can_be_written}
use Rattle.rp_top.proofs.plays.shown.Goals as goal

pub written-requires : goal.written-requires
written-requires c = can_be_written c.args.world.world.nodes c.args.world.notes c.in_ok-view.view c.requires c.in_ok-view.ensures
