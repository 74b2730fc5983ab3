use Rattle.std.proofs.Common.{rules, ◌≤◌, subst, sym, refl}
use Rattle.rp_switch.specs.declared.terms.Terms.{Terms}
use Rattle.rp_switch.specs.Seats.{known_by}
use Rattle.rp_switch_calls.proofs.Visiting.{rests}
use Rattle.rp_switch_calls.proofs.visits.passes.Goals as goal

pub returns-clause-idle : goal.returns-clause-idle
returns-clause-idle c =
    let some : 1 ≤ c.args.node = search rules in
    (rests (known_by c.args.seat.now) (known_by c.try_take.new.seat) (known_by c.give.new.seat) c.args.node c.in-Ok.taken.number c.in-Ok.taken c.in-Ok.taken.node.node some
    (subst (λ (t : Terms). c.args.node ≤ t.nodes) (sym c.requires.of.1) c.requires.node) c.in-Ok.ensures.told refl c.give.ensures.told).idle

pub returns-clause-parts : goal.returns-clause-parts
returns-clause-parts c =
    let some : 1 ≤ c.args.node = search rules in
    (rests (known_by c.args.seat.now) (known_by c.try_take.new.seat) (known_by c.give.new.seat) c.args.node c.in-Ok.taken.number c.in-Ok.taken c.in-Ok.taken.node.node some
    (subst (λ (t : Terms). c.args.node ≤ t.nodes) (sym c.requires.of.1) c.requires.node) c.in-Ok.ensures.told refl c.give.ensures.told).parts
