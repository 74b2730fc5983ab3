use Rattle.std.proofs.Common.{◌≡◌, ◌-◌, Some, IfOk, List, set, ap, subst, sym, ◌∙◌}
use Rattle.rp_node.specs.Steps.{Held}
use Rattle.rp_node.specs.Several.{StepsAt, held_at}
use Rattle.rp_node.proofs.Choosing.{step_at}
use Rattle.rp_node.proofs.worlds.Nodes.step.Goals as goal

pub returns-clause-ok : goal.returns-clause-ok
returns-clause-ok g c =
    subst (λ (l : List (Held g.row.B.Denot)). IfOk c.step.result (λ answer. StepsAt g.B.BufferEnd.gives l c.args.node c.args.event (set c.self.inside.list.items (c.from.result - 1) c.step.new.self) answer)) c.self.view_is
    (step_at g.B.BufferEnd.gives c.self.inside.list.items c.args.node (c.from.result - 1) c.index_mut.result.now c.requires.held c.step.new.self c.args.event c.step.result
    (subst (λ (l : List (Held g.row.B.Denot)). held_at l c.args.node ≡ Some c.requires.held) (sym c.self.view_is) c.requires.has)
    (ap (λ n. n - 1) (c.from.ensures ∙ c.get.ensures.value)) c.index_mut.ensures.value c.step.ensures.ok)
