use Rattle.std.proofs.Common.{◌≡◌, ◌≤◌, ℕ, ◌-◌, ◌∙◌, sym, subst, ap}
use Rattle.rp_switch.specs.declared.terms.Terms.{Terms}
use Rattle.rp_switch.specs.Seats.{terms_of, known_by}
use Rattle.rp_bench.proofs.Visited.{world_at, visited, visit_onward, may_give_it_back, seen_here}
use Rattle.rp_bench.proofs.Working.{node_at}
use Rattle.rp_bench.proofs.Posting.{ends_true, at_work_posted}
use Rattle.rp_bench.proofs.visits.new_outcomes.Goals as goal

pub give-requires-clause-may : goal.give-requires-clause-may
give-requires-clause-may g c =
    may_give_it_back (known_by c.args.seat.now) (known_by c.take-taken.new.seat) c.args.node c.take-taken.result c.take-taken.ensures.some
    (subst (λ (t : Terms). c.args.node ≤ t.nodes) (sym c.requires.of.1) c.requires.node) c.take-taken.ensures.told

pub returns-clause-onward : goal.returns-clause-onward
returns-clause-onward g c =
    let v = known_by c.args.seat.now in
    let low : c.args.node ≤ v.terms.nodes = subst (λ (t : Terms). c.args.node ≤ t.nodes) (sym c.requires.of.1) c.requires.node in
    visit_onward v (known_by c.give.new.seat) c.args.node (world_at v (known_by c.take-taken.new.seat) c.args.node c.take-taken.result c.take-taken.ensures.told)
    c.take-taken.result.node.node c.take-taken.result.node.node
    (visited v (known_by c.take-taken.new.seat) (known_by c.give.new.seat) c.args.node c.take-taken.result c.take-taken.result.node.node c.take-taken.ensures.some low
    c.take-taken.ensures.told c.give.ensures.told)

pub returns-clause-at_work : goal.returns-clause-at_work
returns-clause-at_work g c =
    let v = known_by c.args.seat.now in
    let w = known_by c.give.new.seat in
    let n = c.take-taken.result.node.node in
    let at = world_at v (known_by c.take-taken.new.seat) c.args.node c.take-taken.result c.take-taken.ensures.told in
    let low : c.args.node ≤ v.terms.nodes = subst (λ (t : Terms). c.args.node ≤ t.nodes) (sym c.requires.of.1) c.requires.node in
    let visit = visited v (known_by c.take-taken.new.seat) w c.args.node c.take-taken.result n c.take-taken.ensures.some low c.take-taken.ensures.told c.give.ensures.told in
    at_work_posted v w c.args.node at n c.outcomes_of-ends.result c.args.stations.now c.outcomes_of-ends.new.stations c.note.new.stations visit
    c.outcomes_of-ends.ensures.here c.outcomes_of-ends.ensures.others c.note.ensures.here c.note.ensures.others c.requires.at_work

pub returns-clause-ends : goal.returns-clause-ends
returns-clause-ends g c =
    let v = known_by c.args.seat.now in
    let w = known_by c.give.new.seat in
    let n = c.take-taken.result.node.node in
    let at = world_at v (known_by c.take-taken.new.seat) c.args.node c.take-taken.result c.take-taken.ensures.told in
    let low : c.args.node ≤ v.terms.nodes = subst (λ (t : Terms). c.args.node ≤ t.nodes) (sym c.requires.of.1) c.requires.node in
    let visit = visited v (known_by c.take-taken.new.seat) w c.args.node c.take-taken.result n c.take-taken.ensures.some low c.take-taken.ensures.told c.give.ensures.told in
    ends_true (terms_of c.args.switch.now) w.seen c.args.node n (node_at w.seen c.args.node c.take-taken.ensures.some n (seen_here v w c.args.node at n n visit))
    c.outcomes_of-ends.result c.args.stations.now c.outcomes_of-ends.new.stations (c.args.node - 1) c.outcomes_of-ends.ensures.here
