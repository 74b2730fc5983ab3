use Rattle.std.proofs.Common.{◌∙◌, ap, List}
use Rattle.rp_clients.specs.Tries.{Try, learns}
use Rattle.rp_client_calls.proofs.Mapped.{came_still}
use Rattle.rp_client_calls.proofs.desks.FakeDeskDesk.fetch.Goals as goal

pub invariant_of-self-in-Ended-clause-came : goal.invariant_of-self-in-Ended-clause-came
invariant_of-self-in-Ended-clause-came c =
    came_still c.in-Ended.id c.in-Ended.outcome c.args.self.now.tries.len c.args.self.now.clock c.args.self.now.tries.items c.learn.new.tries
    (c.learn.ensures ∙ ap (λ (xs : List Try). learns c.in-Ended.id c.in-Ended.outcome xs) c.deref_mut.ensures.value)
    c.args.self.now.came
