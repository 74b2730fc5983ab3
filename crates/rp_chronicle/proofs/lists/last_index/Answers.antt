use Rattle.std.proofs.Common.{subst, sym}
use Rattle.rp_chronicle.specs.Worlds.{ListEndsAt, world_of}
use Rattle.rp_chronicle.proofs.Kept.{ends_furthest, ends_untouched}
use Rattle.rp_chronicle.proofs.Several.{most_none, most_some}
use Rattle.rp_chronicle.proofs.lists.last_index.Goals as goal

pub returns-in-Some : goal.returns-in-Some
returns-in-Some g c =
    let w = world_of c.args.nodes.now in
    let h = c.in-Some.state.now.history in
    subst (ListEndsAt w c.args.range) (sym c.index.ensures) (ends_furthest w c.args.range h c.requires (most_some w c.args.range h (sym c.in-Some.ensures)))

pub returns-in-None : goal.returns-in-None
returns-in-None g c =
    let w = world_of c.args.nodes.now in
    subst (ListEndsAt w c.args.range) (sym c.base_of.ensures) (ends_untouched w c.args.range c.requires (most_none w c.args.range (sym c.in-None.ensures)))
