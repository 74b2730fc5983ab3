use Rattle.std.proofs.Common.{◌≡◌, ◌∙◌, arith, length, subst, sym}
use Rattle.rp_events.specs.Lists.{IsOneList}
use Rattle.rp_chronicle.specs.Worlds.{world_of}
use Rattle.rp_chronicle.proofs.Kept.{are_pieces, filled_is, given_back}
use Rattle.rp_chronicle.proofs.pieces.records_to.Goals as goal

pub fill_from-requires : goal.fill_from-requires
fill_from-requires g c =
    let ends = c.requires.ends in
    let base = c.base_of.ensures in
    let made = c.in_ok-records.ensures.len in
    let lent = c.deref_mut.ensures.len in
    let long : length c.requires.list ≡ length c.deref_mut.result.now = omega (arith, ends, base, made, lent) in
    record { list = c.requires.list; long = long; are = are_pieces (world_of c.args.nodes.now) c.args.range c.requires.list c.requires.is }

pub returns : goal.returns
returns g c =
    let w = world_of c.args.nodes.now in
    let list = c.requires.list in
    let ends = c.requires.ends in
    let base = c.base_of.ensures in
    let made = c.in_ok-records.ensures.len in
    let lent = c.deref_mut.ensures.len in
    let long : length list ≡ length c.deref_mut.result.now = omega (arith, ends, base, made, lent) in
    let filled = c.fill_from.ensures list long (are_pieces w c.args.range list c.requires.is) in
    let grown = filled.long in
    let whole : length c.fill_from.new.records ≡ c.in_ok-records.records.len = omega (arith, grown, lent) in
    subst (IsOneList w c.args.range)
    (sym (c.from_vec.ensures ∙ given_back c.in_ok-records.records.items c.fill_from.new.records c.in_ok-records.records.len whole
    ∙ filled_is w c.args.range list c.requires.is c.deref_mut.result.now c.fill_from.new.records long filled))
    c.requires.is
