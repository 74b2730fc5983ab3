use Rattle.std.proofs.Common.{◌≡◌, ◌-◌, ◌<◌, Some, length, slice_get, slice_index_or, subst, sym, arith}
use Rattle.rp_bench.proofs.Changing.{got, changed, others_stay}
use Rattle.rp_bench.proofs.rows.play_in.Goals as goal

pub play-requires-clause-whole : goal.play-requires-clause-whole
play-requires-clause-whole g c =
    let is : c.from.result - 1 ≡ c.args.number - 1 = let f = c.from.ensures in let v = c.get.ensures.value in omega (arith, f, v) in
    let low : c.from.result - 1 < length c.args.stations.now = let f = c.from.ensures in let o = c.get.ensures.from_one in let v = c.get.ensures.to_five in let five = c.told-stations in omega (arith, f, o, v, five) in
    c.requires.whole (slice_index_or c.args.stations.now (c.from.result - 1) c.index-stations-from.result)
    (subst (λ k. slice_get c.args.stations.now k ≡ Some (slice_index_or c.args.stations.now (c.from.result - 1) c.index-stations-from.result)) is (got c.args.stations.now (c.from.result - 1) c.index-stations-from.result low))

pub returns-clause-here : goal.returns-clause-here
returns-clause-here g c =
    let is : c.from.result - 1 ≡ c.args.number - 1 = let f = c.from.ensures in let v = c.get.ensures.value in omega (arith, f, v) in
    let low : c.from.result - 1 < length c.args.stations.now = let f = c.from.ensures in let o = c.get.ensures.from_one in let v = c.get.ensures.to_five in let five = c.told-stations in omega (arith, f, o, v, five) in
    changed c.args.stations.now (c.from.result - 1) (c.args.number - 1) c.index-stations-from.result _ _ low is c.play.ensures.plays

pub returns-clause-others : goal.returns-clause-others
returns-clause-others g c =
    let is : c.from.result - 1 ≡ c.args.number - 1 = let f = c.from.ensures in let v = c.get.ensures.value in omega (arith, f, v) in
    others_stay c.args.stations.now (c.from.result - 1) (c.args.number - 1) _ is
