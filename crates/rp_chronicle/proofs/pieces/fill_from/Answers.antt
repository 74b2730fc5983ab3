use Rattle.std.proofs.Common.{◌∙◌, ap, refl, subst, sym, take}
use Rattle.rp_events.specs.Lists.{base_of, history_in}
use Rattle.rp_events.specs.Nodes.{seat}
use Rattle.rp_chronicle.specs.Filling.{FillsAll, HasPieces}
use Rattle.rp_chronicle.specs.Worlds.{pieces_in, pieces_of, world_of}
use Rattle.rp_chronicle.proofs.Filling.{Fills, fills_more, has_some}
use Rattle.rp_chronicle.proofs.Kept.{has_kept, node_pieces}
use Rattle.rp_chronicle.proofs.Several.{all_nodes, more_nodes, more_pieces, node_at}
use Rattle.rp_chronicle.proofs.pieces.fill_from.Goals as goal

pub fill_any-requires : goal.fill_any-requires
fill_any-requires g c =
    let w = world_of c.args.nodes.now in
    let n = c.node-item.result.node in
    let i = c.loop-node.node-index in
    has_kept (base_of c.args.range) c.base_of-base.result (history_in (seat n c.args.range)) _ c.loop-node.records c.base_of-base.ensures c.applied_at.ensures
    (has_some (base_of c.args.range) (pieces_of w c.args.range) (pieces_in (history_in (seat n c.args.range))) c.args.records.now c.loop-node.records c.requires
    (node_pieces w i c.args.range n (node_at c.args.nodes.now i c.node-item.result c.loop-node-test.true c.node-item.is)) c.loop-node.invariant.long)

pub loop-node-preserved : goal.loop-node-preserved
loop-node-preserved g c =
    let w = world_of c.args.nodes.now in
    let n = c.node-item.result.node in
    let i = c.loop-node.node-index in
    let base = c.base_of-base.result in
    let here = pieces_in (history_in (seat n c.args.range)) in
    let front = pieces_of (world_of (take i c.args.nodes.now)) c.args.range in
    let has : HasPieces base here c.loop-node.records = subst (λ b. HasPieces b here c.loop-node.records) (sym c.base_of-base.ensures)
    (has_some (base_of c.args.range) (pieces_of w c.args.range) here c.args.records.now c.loop-node.records c.requires
    (node_pieces w i c.args.range n (node_at c.args.nodes.now i c.node-item.result c.loop-node-test.true c.node-item.is)) c.loop-node.invariant.long) in
    let f : Fills base front c.args.records.now c.loop-node.records = record { long = c.loop-node.invariant.long; filled = c.loop-node.invariant.filled } in
    let filled : FillsAll base here c.loop-node.records c.fill_any.new.records = subst (λ o. FillsAll base (pieces_in o) c.loop-node.records c.fill_any.new.records) c.applied_at.ensures c.fill_any.ensures in
    let more = fills_more base front here here c.args.records.now c.loop-node.records c.fill_any.new.records f refl has filled in
    record {
      long = more.long;
      filled = subst (λ ps. FillsAll base ps c.args.records.now c.fill_any.new.records)
          (sym (ap (λ v. pieces_of v c.args.range) (more_nodes c.args.nodes.now i c.node-item.result c.loop-node-test.true c.node-item.is)
          ∙ more_pieces (world_of (take i c.args.nodes.now)) n c.args.range)) more.filled;
    }

pub returns : goal.returns
returns g c =
    subst (λ b. FillsAll b (pieces_of (world_of c.args.nodes.now) c.args.range) c.args.records.now c.loop-node.records) c.base_of-base.ensures
    (subst (λ v. FillsAll c.base_of-base.result (pieces_of v c.args.range) c.args.records.now c.loop-node.records)
    (all_nodes c.args.nodes.now c.loop-node.node-index c.loop-node-test.false) c.loop-node.invariant.filled)
