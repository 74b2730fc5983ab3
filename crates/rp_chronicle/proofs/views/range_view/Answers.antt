use Rattle.std.proofs.Common.{◌+◌, ◌∙◌, ap, length, subst, sym}
use Rattle.rp_base.specs.declared.ranges.Desc.{Desc}
use Rattle.rp_recorded.proofs.Descs.{numbered}
use Rattle.rp_recorded.proofs.Lists.{one_list}
use Rattle.rp_chronicle.specs.Worlds.{ListEndsAt, world_of}
use Rattle.rp_chronicle.proofs.Kept.{ends_at, ends_furthest}
use Rattle.rp_chronicle.proofs.Several.{most_some}
use Rattle.rp_chronicle.proofs.views.range_view.Goals as goal

pub records_to-requires : goal.records_to-requires
records_to-requires g c =
    let w = world_of c.args.nodes.now in
    let h = c.args.state.now.history in
    subst (ListEndsAt w c.args.range) (sym c.index.ensures)
    (ends_furthest w c.args.range h (one_list (length c.args.nodes.now) w c.requires.reached c.args.range) (most_some w c.args.range h c.requires.furthest))

pub returns : goal.returns
returns g c =
    let w = world_of c.args.nodes.now in
    let h = c.args.state.now.history in
    let f = most_some w c.args.range h c.requires.furthest in
    let named = numbered (length c.args.nodes.now) w c.requires.reached f.node c.args.range h f.applied in
    record {
      number = ap (λ (d : Desc). d.id) c.desc.ensures ∙ named.number;
      list = c.in_ok-records.ensures;
      first = ap (λ b. b + 1) c.base_of.ensures;
      state = record { node = f.node; history = h; applied = f.applied; all = sym (ends_at w c.args.range h c.in_ok-records.records c.in_ok-records.ensures f); desc = c.desc.ensures; lease = c.lease.ensures };
      replicas = c.in_ok-replicas.ensures;
    }
