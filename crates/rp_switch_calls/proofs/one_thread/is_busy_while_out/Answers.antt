use Rattle.std.proofs.Common.{rules, ◌≤◌, subst, sym, refl, ◌∙◌}
use Rattle.rp_switch.specs.declared.terms.Terms.{Terms}
use Rattle.rp_switch.specs.Seats.{known_by}
use Rattle.rp_switch_calls.proofs.Visiting.{rests}
use Rattle.rp_switch_calls.proofs.one_thread.is_busy_while_out.Goals as goal

pub returns-then-is_busy-clause-idle : goal.returns-then-is_busy-clause-idle
returns-then-is_busy-clause-idle c =
    let some : 1 ≤ c.args.node = search rules in (
      (rests (known_by c.args.first.now) (known_by c.try_take.new.seat) (known_by c.give.new.seat) c.args.node c.in-Ok.taken.number c.in-Ok.taken c.in-Ok.taken.node.node some
          (subst (λ (t : Terms). c.args.node ≤ t.nodes) (sym c.requires.of.0.1) c.requires.node) c.in-Ok.ensures.told refl c.give.ensures.told).idle,
      c.passes-is_free.ensures.idle,
    )

pub returns-then-is_busy-clause-parts : goal.returns-then-is_busy-clause-parts
returns-then-is_busy-clause-parts c =
    let some : 1 ≤ c.args.node = search rules in (
      (rests (known_by c.args.first.now) (known_by c.try_take.new.seat) (known_by c.give.new.seat) c.args.node c.in-Ok.taken.number c.in-Ok.taken c.in-Ok.taken.node.node some
          (subst (λ (t : Terms). c.args.node ≤ t.nodes) (sym c.requires.of.0.1) c.requires.node) c.in-Ok.ensures.told refl c.give.ensures.told).parts,
      c.passes-is_free.ensures.parts ∙ c.finds_busy-is_busy.ensures.parts,
    )

pub returns-else-is_busy-clause-idle : goal.returns-else-is_busy-clause-idle
returns-else-is_busy-clause-idle c =
    let some : 1 ≤ c.args.node = search rules in (
      (rests (known_by c.args.first.now) (known_by c.try_take.new.seat) (known_by c.give.new.seat) c.args.node c.in-Ok.taken.number c.in-Ok.taken c.in-Ok.taken.node.node some
          (subst (λ (t : Terms). c.args.node ≤ t.nodes) (sym c.requires.of.0.1) c.requires.node) c.in-Ok.ensures.told refl c.give.ensures.told).idle,
      c.passes-is_free.ensures.idle,
    )

pub returns-else-is_busy-clause-parts : goal.returns-else-is_busy-clause-parts
returns-else-is_busy-clause-parts c =
    let some : 1 ≤ c.args.node = search rules in (
      (rests (known_by c.args.first.now) (known_by c.try_take.new.seat) (known_by c.give.new.seat) c.args.node c.in-Ok.taken.number c.in-Ok.taken c.in-Ok.taken.node.node some
          (subst (λ (t : Terms). c.args.node ≤ t.nodes) (sym c.requires.of.0.1) c.requires.node) c.in-Ok.ensures.told refl c.give.ensures.told).parts,
      c.passes-is_free.ensures.parts ∙ c.finds_busy-is_busy.ensures.parts,
    )
