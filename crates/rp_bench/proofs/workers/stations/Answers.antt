use Rattle.std.proofs.Common.{◌≡◌, ℕ, zero, suc, [], ◌∷◌, subst, Option, Some}
use Rattle.rp_bench.specs.declared.stations.Station.{Station}
use Rattle.rp_bench.specs.Stations.{IsFresh, AreFresh}
use Rattle.rp_bench.proofs.workers.stations.Goals as goal

some_station : (a b : Station) → ◌≡◌ {A = Option Station} (Some a) (Some b) → a ≡ b
some_station a b e = cc

five_fresh : (worker workers nodes : ℕ) (a b d e f : Station) → IsFresh worker workers nodes 0 a → IsFresh worker workers nodes 1 b → IsFresh worker workers nodes 2 d
    → IsFresh worker workers nodes 3 e → IsFresh worker workers nodes 4 f → AreFresh worker workers nodes (a ∷ b ∷ d ∷ e ∷ f ∷ [])
five_fresh worker workers nodes a b d e f one two three four five zero s is = subst (IsFresh worker workers nodes 0) (some_station a s is) one
five_fresh worker workers nodes a b d e f one two three four five (suc zero) s is = subst (IsFresh worker workers nodes 1) (some_station b s is) two
five_fresh worker workers nodes a b d e f one two three four five (suc (suc zero)) s is = subst (IsFresh worker workers nodes 2) (some_station d s is) three
five_fresh worker workers nodes a b d e f one two three four five (suc (suc (suc zero))) s is = subst (IsFresh worker workers nodes 3) (some_station e s is) four
five_fresh worker workers nodes a b d e f one two three four five (suc (suc (suc (suc zero)))) s is = subst (IsFresh worker workers nodes 4) (some_station f s is) five
five_fresh worker workers nodes a b d e f one two three four five (suc (suc (suc (suc (suc k))))) s is = absurd (cc)

pub returns : goal.returns
returns c = five_fresh c.args.worker c.args.workers c.args.nodes c.station.result c.station-2.result c.station-3.result c.station-4.result c.station-5.result
    c.station.ensures c.station-2.ensures c.station-3.ensures c.station-4.ensures c.station-5.ensures
