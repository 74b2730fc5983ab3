use Rattle.std.proofs.Common.{ap, ◌∙◌, ◌+◌, drop}
use Rattle.std.specs.List.{prefix_len}
use Rattle.rp_book.proofs.Fronts.{front_handled, within_handled}
use Rattle.rp_book.proofs.handling.Handled.handle.Goals as goal

pub advanced-front-requires : goal.advanced-front-requires
advanced-front-requires c = within_handled c.args.number c.self.inside.flags.items c.deref.result.now c.self.inside.front c.self.invariant (c.deref.ensures.value ∙ c.in_ok-mark.ensures.ok)

pub invariant_of-self-2 : goal.invariant_of-self-2
invariant_of-self-2 c =
    c.advanced-front.ensures
    ∙ ap (λ flags. c.self.inside.front + prefix_len (λ was. was) (drop c.self.inside.front flags)) c.deref.ensures.value
    ∙ front_handled c.args.number c.self.inside.flags.items c.mark.new.flags.items c.self.inside.front c.self.invariant c.in_ok-mark.ensures.ok
