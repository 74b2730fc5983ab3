use Rattle.std.proofs.Common.{◌≡◌, ◌≤◌, ℕ, ◌-◌, ◌∙◌, sym, subst, ap, arith, suc, Some, slice_get}
use Rattle.rp_race.specs.declared.rules.RaceRules.{RaceRules}
use Rattle.rp_switch.specs.declared.terms.Terms.{Terms}
use Rattle.rp_switch.specs.Seats.{terms_of, known_by}
use Rattle.rp_switch.specs.Views.{Knowledge}
use Rattle.rp_bench.specs.Stations.{Changes, CopiesInto}
use Rattle.rp_bench.proofs.Visited.{world_at, visited, could_visit, may_give_it_back, visit_onward, seen_here}
use Rattle.rp_bench.proofs.Working.{node_at, copied_within, pulled_on, at_work_copied}
use Rattle.rp_bench.proofs.visits.copy.Goals as goal

pub copy_into-copied-requires : goal.copy_into-copied-requires
copy_into-copied-requires g c =
    let to_one : 1 ≤ c.args.to = let f = c.get-place.ensures.from_one in let e = c.get-place.ensures.value in omega (arith, f, e) in
    let v = known_by c.args.seat.now in
    let low : c.args.from ≤ v.terms.nodes = subst (λ (t : Terms). c.args.from ≤ t.nodes) (sym c.requires.of.1) c.requires.from in
    let to_low : c.args.to ≤ v.terms.nodes = subst (λ (t : Terms). c.args.to ≤ t.nodes) (sym c.requires.of.1) c.requires.to in
    copied_within v _ c.args.from c.args.to _ c.take-taken.result.node.node
    (could_visit v (known_by c.take-taken.new.seat) c.args.from c.take-taken.result c.take-taken.ensures.some low c.take-taken.ensures.told)
    to_one to_low c.requires.apart c.args.stations.now c.requires.at_work.serve

pub give-requires-clause-may : goal.give-requires-clause-may
give-requires-clause-may g c =
    may_give_it_back (known_by c.args.seat.now) (known_by c.take-taken.new.seat) c.args.from c.take-taken.result c.take-taken.ensures.some
    (subst (λ (t : Terms). c.args.from ≤ t.nodes) (sym c.requires.of.1) c.requires.from) c.take-taken.ensures.told

pub returns-clause-onward : goal.returns-clause-onward
returns-clause-onward g c =
    let v = known_by c.args.seat.now in
    let low : c.args.from ≤ v.terms.nodes = subst (λ (t : Terms). c.args.from ≤ t.nodes) (sym c.requires.of.1) c.requires.from in
    visit_onward v (known_by c.give.new.seat) c.args.from (world_at v (known_by c.take-taken.new.seat) c.args.from c.take-taken.result c.take-taken.ensures.told)
    c.take-taken.result.node.node c.take-taken.result.node.node
    (visited v (known_by c.take-taken.new.seat) (known_by c.give.new.seat) c.args.from c.take-taken.result c.take-taken.result.node.node c.take-taken.ensures.some low
    c.take-taken.ensures.told c.give.ensures.told)

pub returns-clause-at_work : goal.returns-clause-at_work
returns-clause-at_work g c =
    let to_one : 1 ≤ c.args.to = let f = c.get-place.ensures.from_one in let e = c.get-place.ensures.value in omega (arith, f, e) in
    let v = known_by c.args.seat.now in
    let w = known_by c.give.new.seat in
    let n = c.take-taken.result.node.node in
    let at = world_at v (known_by c.take-taken.new.seat) c.args.from c.take-taken.result c.take-taken.ensures.told in
    let low : c.args.from ≤ v.terms.nodes = subst (λ (t : Terms). c.args.from ≤ t.nodes) (sym c.requires.of.1) c.requires.from in
    let visit = visited v (known_by c.take-taken.new.seat) w c.args.from c.take-taken.result n c.take-taken.ensures.some low c.take-taken.ensures.told c.give.ensures.told in
    let rules : c.rules.result.now ≡ w.terms.rules = c.rules.ensures ∙ ap (λ (t : Terms). t.rules) (sym (visit.terms ∙ c.requires.of.1)) in
    let here : Changes (c.args.to - 1) (CopiesInto w.terms.rules c.args.from n c.copy_into-copied.result) c.args.stations.now c.copy_into-copied.new.stations =
    subst (λ (r : RaceRules). Changes (c.args.to - 1) (CopiesInto r c.args.from n c.copy_into-copied.result) c.args.stations.now c.copy_into-copied.new.stations) rules c.copy_into-copied.ensures.here in
    at_work_copied v w c.args.from c.args.to at n c.copy_into-copied.result c.args.stations.now c.copy_into-copied.new.stations c.note.new.stations visit
    (node_at w.seen c.args.from c.take-taken.ensures.some n (seen_here v w c.args.from at n n visit)) to_one c.requires.apart here
    c.copy_into-copied.ensures.others c.note.ensures.here c.note.ensures.others c.requires.at_work

pub returns-clause-pulled : goal.returns-clause-pulled
returns-clause-pulled g c =
    let to_one : 1 ≤ c.args.to = let f = c.get-place.ensures.from_one in let e = c.get-place.ensures.value in omega (arith, f, e) in
    let v = known_by c.args.seat.now in
    let w = known_by c.give.new.seat in
    let n = c.take-taken.result.node.node in
    let at = world_at v (known_by c.take-taken.new.seat) c.args.from c.take-taken.result c.take-taken.ensures.told in
    let low : c.args.from ≤ v.terms.nodes = subst (λ (t : Terms). c.args.from ≤ t.nodes) (sym c.requires.of.1) c.requires.from in
    let visit = visited v (known_by c.take-taken.new.seat) w c.args.from c.take-taken.result n c.take-taken.ensures.some low c.take-taken.ensures.told c.give.ensures.told in
    let rules : c.rules.result.now ≡ w.terms.rules = c.rules.ensures ∙ ap (λ (t : Terms). t.rules) (sym (visit.terms ∙ c.requires.of.1)) in
    let here : Changes (c.args.to - 1) (CopiesInto w.terms.rules c.args.from n c.copy_into-copied.result) c.args.stations.now c.copy_into-copied.new.stations =
    subst (λ (r : RaceRules). Changes (c.args.to - 1) (CopiesInto r c.args.from n c.copy_into-copied.result) c.args.stations.now c.copy_into-copied.new.stations) rules c.copy_into-copied.ensures.here in
    pulled_on v w c.args.from c.args.to at n c.copy_into-copied.result c.args.stations.now c.copy_into-copied.new.stations c.note.new.stations visit
    to_one c.requires.apart here c.note.ensures.others c.requires.pulled
