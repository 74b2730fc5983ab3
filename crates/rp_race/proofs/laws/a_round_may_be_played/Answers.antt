use Rattle.std.proofs.Common.{◌≡◌, ℕ, false, [], ◌∷◌, refl, ap, ◌∙◌}
use Rattle.rp_base.specs.declared.ids.CmdId.{CmdId}
use Rattle.rp_request.specs.declared.requests.Request.{Request}
use Rattle.rp_events.specs.declared.journals.PastEvent.TheVariants as past
use Rattle.rp_events.specs.declared.node_events.Event.TheVariants as events
use Rattle.rp_events.specs.Nodes.{Node}
use Rattle.rp_events.specs.Worlds.{Tick, Collect, Flush}
use Rattle.rp_journals.proofs.Reading.{step_journal, entry_of}
use Rattle.rp_race.proofs.laws.a_round_may_be_played.Goals as goal
use Rattle.rp_race.proofs.Ordered.{stage_push}
use Rattle.rp_race.specs.declared.rules.RaceRules.{RaceRules}
use Rattle.rp_race.specs.Gives.{after_admission}
use Rattle.rp_race.specs.Rounds.{broken, stage_of, may_follow, may_come}
use Rattle.rp_race.specs.Worked.{left_after}

stopped : (rules : RaceRules) (id : CmdId) (request : Request) → may_come rules (after_admission (left_after (Tick ∷ [])) 0 id request) (past.Collect 0 []) ≡ false
stopped rules id request =
    let n : Node = left_after (Tick ∷ []) in
    let stage : stage_of (after_admission n 0 id request).journal ≡ broken =
    ap stage_of (step_journal n (events.Admit 0 id request) []) ∙ stage_push n.journal (entry_of n (events.Admit 0 id request) []) in
    ap (λ s. may_follow rules (after_admission n 0 id request) s (past.Collect 0 [])) stage

pub returns : goal.returns
returns c = record {
  plays = λ rules. (
    record { n = left_after []; has = refl; within = refl; may = refl },
    (
      record { n = left_after (Tick ∷ []); has = refl; within = refl; may = refl },
      (record { n = left_after (Tick ∷ Collect 0 [] ∷ []); has = refl; within = refl; may = refl }, tt),
    ),
  );
  ends = λ rules. refl;
  no_tick = λ rules. refl;
  no_flush = λ rules. refl;
  no_collect = λ rules. refl;
  twice = λ rules. refl;
  late = λ rules from number. refl;
  absent = λ rules. refl;
  interrupted = stopped;
}
