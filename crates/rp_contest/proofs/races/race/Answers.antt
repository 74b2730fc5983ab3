use Rattle.std.proofs.Common.{◌<◌, ◌^◌, ◌∙◌, ap, length, subst, sym}
use Rattle.rp_race.specs.Race.{IsPlayed}
use Rattle.rp_racelines.specs.Verdicts.{command_count}
use Rattle.rp_switch.specs.Openings.{bare}
use Rattle.rp_switch.specs.Seats.{terms_of}
use Rattle.rp_contest.specs.Runs.{IsRun}
use Rattle.rp_contest.proofs.Ending.{run_played, run_size}
use Rattle.rp_contest.proofs.Fitting.{few_of}
use Rattle.rp_contest.proofs.races.race.Goals as goal

pub closed-requires-clause-few : goal.closed-requires-clause-few
closed-requires-clause-few g c lifetimes within =
    few_of (terms_of c.in_ok-switch.switch).rules (subst (λ t. command_count t.rules < 2 ^ 32) (sym c.in_ok-switch.ensures.terms) c.requires.commands)

pub judged-requires-clause-run : goal.judged-requires-clause-run
judged-requires-clause-run g c =
    let rules = c.args.rules.now in
    let nodes = c.in_ok-nodes.nodes in
    let run : IsRun c.args.setting.nodes rules (bare nodes) = subst (λ t. IsRun t.nodes t.rules (bare nodes)) c.in_ok-switch.ensures.terms c.in_ok-nodes.ensures in
    subst (λ n. IsRun n rules (bare nodes)) (sym (run_size c.args.setting.nodes rules nodes run)) run

pub returns-clause-size : goal.returns-clause-size
returns-clause-size g c =
    let rules = c.args.rules.now in
    let nodes = c.in_ok-nodes.nodes in
    let run : IsRun c.args.setting.nodes rules (bare nodes) = subst (λ t. IsRun t.nodes t.rules (bare nodes)) c.in_ok-switch.ensures.terms c.in_ok-nodes.ensures in
    ap (λ ns. length ns) (c.ended.ensures.nodes ∙ c.in_ok-judged.ensures.nodes) ∙ run_size c.args.setting.nodes rules nodes run

pub returns-clause-played : goal.returns-clause-played
returns-clause-played g c =
    let rules = c.args.rules.now in
    let nodes = c.in_ok-nodes.nodes in
    let run : IsRun c.args.setting.nodes rules (bare nodes) = subst (λ t. IsRun t.nodes t.rules (bare nodes)) c.in_ok-switch.ensures.terms c.in_ok-nodes.ensures in
    let judged = c.in_ok-judged.field-0 in
    subst (λ ns. IsPlayed rules (bare ns)) (sym c.ended.ensures.nodes)
    (run_played c.args.setting.nodes rules (bare judged.nodes)
    (subst (λ ns. IsRun c.args.setting.nodes rules (bare ns)) (sym c.in_ok-judged.ensures.nodes) run)
    c.ended.ensures.whole)
