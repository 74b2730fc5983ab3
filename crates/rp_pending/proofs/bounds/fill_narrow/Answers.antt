use Rattle.std.proofs.Common.{arith}
use Rattle.rp_pending.proofs.Blocks.{all_covered}
use Rattle.rp_pending.proofs.bounds.fill_narrow.Goals as goal

pub returns : goal.returns
returns c =
    let inv = c.loop-block.invariant in
    let past = c.loop-block-test.false in
    all_covered c.loop-block.narrow.items c.args.slots.now.entries c.min-blocks.result
    (omega (arith, c.min-blocks.ensures, c.len.ensures, c.len-2.ensures.len, inv.0, c.args.narrow.now.ok.0)) (λ k j s less. inv.1 k j s (omega (arith, less, past)))
