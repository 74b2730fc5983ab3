use Rattle.std.proofs.Common.{◌≡◌, ◌≤◌, ℕ, ◌-◌, ◌∙◌, sym, subst, ap}
use Rattle.rp_race.specs.declared.rules.RaceRules.{RaceRules}
use Rattle.rp_switch.specs.declared.terms.Terms.{Terms}
use Rattle.rp_switch.specs.Seats.{terms_of, known_by}
use Rattle.rp_bench.specs.Stations.{Changes, PlaysBy}
use Rattle.rp_bench.proofs.Visited.{world_at, visited, visit_onward}
use Rattle.rp_bench.proofs.Playing.{has_it, is_taken, mail_now, whole_now, behind_now, may_give_round, at_work_played}
use Rattle.rp_bench.proofs.visits.play_round.Goals as goal

pub play_in-played-requires-clause-has : goal.play_in-played-requires-clause-has
play_in-played-requires-clause-has g c =
    let v = known_by c.args.seat.now in
    let low : c.args.node ≤ v.terms.nodes = subst (λ (t : Terms). c.args.node ≤ t.nodes) (sym c.requires.of.1) c.requires.node in
    has_it v (known_by c.take-taken.new.seat) c.args.node c.take-taken.result c.args.stations.now c.take-taken.ensures.some low c.take-taken.ensures.told c.requires.at_work c.requires.may

pub play_in-played-requires-clause-taken : goal.play_in-played-requires-clause-taken
play_in-played-requires-clause-taken g c =
    let v = known_by c.args.seat.now in
    let low : c.args.node ≤ v.terms.nodes = subst (λ (t : Terms). c.args.node ≤ t.nodes) (sym c.requires.of.1) c.requires.node in
    is_taken v (known_by c.take-taken.new.seat) c.args.node c.take-taken.result c.args.stations.now c.take-taken.ensures.some low c.take-taken.ensures.told c.requires.at_work c.requires.may

pub play_in-played-requires-clause-mail : goal.play_in-played-requires-clause-mail
play_in-played-requires-clause-mail g c =
    let v = known_by c.args.seat.now in
    let low : c.args.node ≤ v.terms.nodes = subst (λ (t : Terms). c.args.node ≤ t.nodes) (sym c.requires.of.1) c.requires.node in
    mail_now v (known_by c.take-taken.new.seat) c.args.node c.take-taken.result c.args.stations.now c.take-taken.ensures.some low c.take-taken.ensures.told c.requires.at_work c.requires.may
    c.rules-rules.result.now (c.rules-rules.ensures ∙ ap (λ (t : Terms). t.rules) (sym c.requires.of.1))

pub play_in-played-requires-clause-whole : goal.play_in-played-requires-clause-whole
play_in-played-requires-clause-whole g c =
    let v = known_by c.args.seat.now in
    let low : c.args.node ≤ v.terms.nodes = subst (λ (t : Terms). c.args.node ≤ t.nodes) (sym c.requires.of.1) c.requires.node in
    whole_now v (known_by c.take-taken.new.seat) c.args.node c.take-taken.result c.args.stations.now c.take-taken.ensures.some low c.take-taken.ensures.told c.requires.at_work c.requires.may

pub play_in-played-requires-clause-behind : goal.play_in-played-requires-clause-behind
play_in-played-requires-clause-behind g c =
    let v = known_by c.args.seat.now in
    let low : c.args.node ≤ v.terms.nodes = subst (λ (t : Terms). c.args.node ≤ t.nodes) (sym c.requires.of.1) c.requires.node in
    behind_now v (known_by c.take-taken.new.seat) c.args.node c.take-taken.result c.args.stations.now c.take-taken.ensures.some low c.take-taken.ensures.told c.requires.at_work c.requires.may

pub give-requires-clause-may : goal.give-requires-clause-may
give-requires-clause-may g c =
    let v = known_by c.args.seat.now in
    let low : c.args.node ≤ v.terms.nodes = subst (λ (t : Terms). c.args.node ≤ t.nodes) (sym c.requires.of.1) c.requires.node in
    may_give_round v (known_by c.take-taken.new.seat) c.args.node c.take-taken.result c.args.stations.now c.take-taken.ensures.some low c.take-taken.ensures.told c.requires.at_work c.requires.may
    c.play_in-played.new.node.node c.play_in-played.result c.play_in-played.ensures.whole c.play_in-played.ensures.broken_off

pub returns-clause-onward : goal.returns-clause-onward
returns-clause-onward g c =
    let v = known_by c.args.seat.now in
    let w = known_by c.take-taken.new.seat in
    let low : c.args.node ≤ v.terms.nodes = subst (λ (t : Terms). c.args.node ≤ t.nodes) (sym c.requires.of.1) c.requires.node in
    visit_onward v (known_by c.give.new.seat) c.args.node (world_at v w c.args.node c.take-taken.result c.take-taken.ensures.told)
    c.take-taken.result.node.node c.play_in-played.new.node.node
    (visited v w (known_by c.give.new.seat) c.args.node c.take-taken.result c.play_in-played.new.node.node c.take-taken.ensures.some low c.take-taken.ensures.told c.give.ensures.told)

pub returns-clause-at_work : goal.returns-clause-at_work
returns-clause-at_work g c =
    let v = known_by c.args.seat.now in
    let w = known_by c.take-taken.new.seat in
    let after = c.play_in-played.new.node.node in
    let low : c.args.node ≤ v.terms.nodes = subst (λ (t : Terms). c.args.node ≤ t.nodes) (sym c.requires.of.1) c.requires.node in
    let visit = visited v w (known_by c.give.new.seat) c.args.node c.take-taken.result after c.take-taken.ensures.some low c.take-taken.ensures.told c.give.ensures.told in
    let rules : c.rules-rules.result.now ≡ v.terms.rules = c.rules-rules.ensures ∙ ap (λ (t : Terms). t.rules) (sym c.requires.of.1) in
    let here : Changes (c.args.node - 1) (PlaysBy v.terms.rules c.args.node w.seen after c.play_in-played.result) c.args.stations.now c.play_in-played.new.stations =
    subst (λ (r : RaceRules). Changes (c.args.node - 1) (PlaysBy r c.args.node w.seen after c.play_in-played.result) c.args.stations.now c.play_in-played.new.stations) rules
    c.play_in-played.ensures.here in
    at_work_played v w c.args.node c.take-taken.result c.args.stations.now c.take-taken.ensures.some low c.take-taken.ensures.told c.requires.at_work c.requires.may
    after (known_by c.give.new.seat) visit c.play_in-played.result c.play_in-played.ensures.whole c.play_in-played.ensures.broken_off
    c.play_in-played.new.stations c.note.new.stations c.settle.new.stations here c.play_in-played.ensures.others c.note.ensures.here c.note.ensures.others
    c.settle.ensures.here c.settle.ensures.others
