use Rattle.std.proofs.Common.{◌+◌, ◌≤◌, max, cond, None, take, ap, subst, ◌∙◌, sym, arith}
use Rattle.std.specs.BTreeMap.{get}
use Rattle.rp_flush.specs.Assigns.{assigned_of, ids_of, seq_of}
use Rattle.rp_flush.specs.Counts.{stands}
use Rattle.rp_base.specs.Ids.{cmd_cmp}
use Rattle.rp_flush.specs.Steps.{is_write_of, with_item}
use Rattle.rp_flush.proofs.Settling.{item_more, items_more, left_more, last_more}
use Rattle.rp_flush.proofs.assigns.assign.Goals as goal

pub loop-item-preserved : goal.loop-item-preserved
loop-item-preserved c =
    let front = items_more c.as_slice-items.result.now c.loop-item.item-index c.item-item.result c.loop-item-test.true c.item-item.is in
    let lai = c.args.lai in
    let assigned = c.args.assigned in
    let raised : max c.take.new.self.last lai ≤ max c.loop-item.all.last lai + 1 =
    subst (λ a. max a.last lai ≤ max c.loop-item.all.last lai + 1) (sym c.in_ok-take.ensures.given) (last_more c.loop-item.all (get cmd_cmp c.loop-item.seqs) c.args.lease.seq lai c.item-item.result) in
    record {
      given =
          c.in_ok-take.ensures.given
          ∙ ap (λ a. with_item a (get cmd_cmp c.loop-item.seqs) c.args.lease.seq lai c.item-item.result) c.loop-item.invariant.given
          ∙ sym (item_more (take c.loop-item.item-index c.as_slice-items.result.now) c.item-item.result c.args.waiting.now c.args.lease.seq lai assigned (get cmd_cmp c.loop-item.seqs) c.loop-item.invariant.left)
          ∙ ap (λ items. assigned_of items c.args.waiting.now c.args.lease.seq lai assigned) front;
      left = λ id.
          c.in_ok-take.ensures.waiting id
          ∙ ap (cond (is_write_of id c.item-item.result) None) (c.loop-item.invariant.left id)
          ∙ left_more (take c.loop-item.item-index c.as_slice-items.result.now) c.item-item.result id _
          ∙ ap (λ items. cond (stands id (ids_of items)) None (seq_of c.args.waiting.now id)) front;
      few = omega (arith, raised, c.loop-item.invariant.few);
    }
