-- A race that was run goes on only where a node is full.
use Rattle.std.proofs.Common.{◌≡◌, ℕ, zero, suc, ◌<◌, Bool, true, false, refl, arith}
use Rattle.std.specs.List.{list_any}
use Rattle.rp_events.specs.Nodes.{is_full}
use Rattle.rp_events.specs.Worlds.{World}
use Rattle.rp_race.specs.declared.rules.RaceRules.{RaceRules}
use Rattle.rp_race.specs.Ends.{unended, patience, IsWaitedOut, IsWaitedOutForGood}
use Rattle.rp_racelines.specs.declared.verdicts.Verdict.TheVariants.{GoesOn}
use Rattle.rp_racelines.specs.Verdicts.{EndsBy}
use Rattle.rp_racelines.proofs.Judged.{has_ended, is_unfinished}
use Rattle.rp_contest.specs.Runs.{IsRun, HasFull}

out_for_good : (rounds : ℕ) (w : World) → IsWaitedOutForGood rounds w → IsWaitedOut rounds w
out_for_good rounds w h = record {
  each = λ node n has live. h.each node n has;
  node = h.node;
  n = h.n;
  has = h.has;
  waited = h.waited;
}

pub goes_on_full : (nodes : ℕ) (rules : RaceRules) (w : World) → IsRun nodes rules w → EndsBy rules w GoesOn → HasFull w
goes_on_full nodes rules w run goes = by (list_any is_full w) refl where
  still : (count : ℕ) → count ≡ unended rules w → list_any is_full w ≡ false → ⊥
  still zero is none = goes.0 (has_ended rules w zero none is refl)
  still (suc count) is none =
      let some : 0 < unended rules w = omega (arith, is) in
      goes.1 (suc count) (is_unfinished nodes rules w (suc count) run.reached none is (λ e. cc) (out_for_good (patience rules) w (run.settled some)))

  by : (b : Bool) → list_any is_full w ≡ b → b ≡ true
  by true is = refl
  by false is = absurd (still (unended rules w) refl is)
