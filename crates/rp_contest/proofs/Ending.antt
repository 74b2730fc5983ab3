-- What a race leaves in which no round was broken off.
use Rattle.std.proofs.Common.{◌≡◌, ℕ, List, length, sym, ◌∙◌}
use Rattle.std.proofs.lemmas.List.{length-map}
use Rattle.rp_events.specs.Worlds.{World}
use Rattle.rp_node.specs.Steps.{Held}
use Rattle.rp_race.specs.declared.rules.RaceRules.{RaceRules}
use Rattle.rp_race.specs.Race.{IsPlayed}
use Rattle.rp_race.proofs.Keeping.{reached_size}
use Rattle.rp_racelines.specs.Verdicts.{AreWhole}
use Rattle.rp_switch.specs.Openings.{bare}
use Rattle.rp_contest.specs.Runs.{IsRun}

pub run_size : {E : Type 0} (nodes : ℕ) (rules : RaceRules) (list : List (Held E)) → IsRun nodes rules (bare list) → length list ≡ nodes
run_size nodes rules list run = sym (length-map list (λ h. h.node)) ∙ reached_size nodes (bare list) run.reached

pub run_played : (nodes : ℕ) (rules : RaceRules) (w : World) → IsRun nodes rules w → AreWhole w → IsPlayed rules w
run_played nodes rules w run whole = record {
  race = record {
    order = run.race.order;
    heard = run.race.heard;
    whole = λ node n has kept. whole node n has;
    owed = run.race.owed;
    in_turn = run.race.in_turn;
  };
  tries = run.tries;
  each = run.each;
}
