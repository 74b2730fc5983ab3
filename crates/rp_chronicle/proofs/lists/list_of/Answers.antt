use Rattle.std.proofs.Common.{length}
use Rattle.rp_chronicle.specs.Worlds.{world_of}
use Rattle.rp_recorded.proofs.Lists.{one_list}
use Rattle.rp_chronicle.proofs.lists.list_of.Goals as goal

pub last_index-last-requires : goal.last_index-last-requires
last_index-last-requires g c = one_list (length c.args.nodes.now) (world_of c.args.nodes.now) c.requires c.args.range
