use Rattle.std.proofs.Common.{◌∙◌, sym}
use Rattle.rp_client_calls.proofs.desks.FakeDeskDesk.admit.Goals as goal

pub returns-in-Ok-clause-after : goal.returns-in-Ok-clause-after
returns-in-Ok-clause-after c = (c.args.self.now.clock, c.add.ensures.told, c.in-Ok.ensures.ok)

pub returns-in-Err-clause-after : goal.returns-in-Err-clause-after
returns-in-Err-clause-after c = (c.args.self.now.clock, c.add.ensures.told, c.in-Err.ensures.err)

pub returns-in-Ok-add-clause-after : goal.returns-in-Ok-add-clause-after
returns-in-Ok-add-clause-after c = (
  c.args.self.now.clock,
  c.add-in-Refused.ensures.told,
  rw (c.named-in-Ok-add.ensures.same ∙ sym c.named.ensures.same) c.in-Ok-add.ensures.ok,
)

pub returns-in-Err-add-clause-after : goal.returns-in-Err-add-clause-after
returns-in-Err-add-clause-after c = (c.args.self.now.clock, c.add-in-Refused.ensures.told, c.in-Err-add.ensures.err)
