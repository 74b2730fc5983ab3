use Rattle.std.proofs.Common.{ℕ, ◌≤◌, ◌<◌, length, slice_index_or, subst, arith}
use Rattle.rp_bench.proofs.Waiting.{had_next}
use Rattle.rp_bench.proofs.patience.all_had.Goals as goal

pub loop-place-preserved : goal.loop-place-preserved
loop-place-preserved c =
    let low : c.loop-place.place < length c.args.stations.now = let five = c.type_inv.stations in let few = c.requires in let test = c.loop-place-test.true in omega (arith, five, few, test) in
    had_next c.args.stations.now c.loop-place.place c.args.rounds c.index-stations-from.result low c.loop-place.invariant
    (subst (λ (k : ℕ). c.args.rounds ≤ (slice_index_or c.args.stations.now k c.index-stations-from.result).rounds) c.from.ensures c.if-stations-from.false)
