use Rattle.std.proofs.Common.{◌≡◌, ◌-◌, ◌<◌, Some, length, slice_get, slice_index_or, subst, sym, arith}
use Rattle.rp_bench.proofs.Changing.{got, changed, others_stay}
use Rattle.rp_bench.proofs.rows.copy_into.Goals as goal

pub returns-clause-here : goal.returns-clause-here
returns-clause-here g c =
    let is : c.from.result - 1 ≡ c.args.to - 1 = let f = c.from.ensures in let v = c.get.ensures.value in omega (arith, f, v) in
    let low : c.from.result - 1 < length c.args.stations.now = let f = c.from.ensures in let o = c.get.ensures.from_one in let v = c.get.ensures.to_five in let five = c.told-stations in omega (arith, f, o, v, five) in
    changed c.args.stations.now (c.from.result - 1) (c.args.to - 1) c.index-stations-from.result _ _ low is (c.copy_from.ensures.same, c.copy_from.ensures.copies)

pub returns-clause-others : goal.returns-clause-others
returns-clause-others g c =
    let is : c.from.result - 1 ≡ c.args.to - 1 = let f = c.from.ensures in let v = c.get.ensures.value in omega (arith, f, v) in
    others_stay c.args.stations.now (c.from.result - 1) (c.args.to - 1) _ is
