use Rattle.std.proofs.Common.{length}
use Rattle.rp_chronicle.specs.Worlds.{world_of}
use Rattle.rp_recorded.proofs.Views.{ranges_are_shown}
use Rattle.rp_chronicle.proofs.views.view_of.Goals as goal

pub returns-clause-shown : goal.returns-clause-shown
returns-clause-shown g c = λ h. record { replies = h; ranges = ranges_are_shown (length c.args.nodes.now) (world_of c.args.nodes.now) c.requires _ c.in_ok-range_views.ensures }
