use Rattle.std.proofs.Common.{◌∙◌}
use Rattle.rp_apply.proofs.Splitting.{split_taken}
use Rattle.rp_apply.proofs.machines.Machine.take.Goals as goal

pub returns-in-Split-clause-state : goal.returns-in-Split-clause-state
returns-in-Split-clause-state c = rw (← c.self.view_is) (c.split-right.ensures.state ∙ split_taken
    (record { desc = c.self.inside.desc; lease = c.self.inside.lease; lai = c.self.inside.lai; table = c.self.inside.table.map })
    c.args.command.now _ c.in-Split.is)
