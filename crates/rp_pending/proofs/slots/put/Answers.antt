use Rattle.std.proofs.Common.{Some, rules, ◌∙◌}
use Rattle.indexmap.proofs.CallerLemmas.{insert_entry-new}
use Rattle.rp_pending.proofs.slots.put.Goals as goal

pub returns-clause-entries : goal.returns-clause-entries
returns-clause-entries c =
    (rw c.unwrap.ensures at c.insert.ensures.entries) ∙ insert_entry-new _ c.args.slots.now c.args.id (Some c.args.proposal) (search rules)
