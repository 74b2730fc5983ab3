use Rattle.std.proofs.Common.{◌≡◌, ◌==◌, ◌+◌, false, ap, sym, subst, ◌∙◌, arith}
use Rattle.rp_lines.specs.Players.{Player, most_events}
use Rattle.rp_world.proofs.Counting.{one_more}
use Rattle.rp_world.proofs.worlds.World.count.Goals as goal

pub overflow_add-self : goal.overflow_add-self
overflow_add-self c = omega (arith, c.self.invariant.few)

pub invariant_of-self : goal.invariant_of-self
invariant_of-self c = record {
  book = c.self.invariant.book;
  few = one_more c.self.inside.events most_events (subst (λ (p : Player). (p.events == most_events) ≡ false) (sym c.self.view_is) c.requires) c.self.invariant.few;
}
