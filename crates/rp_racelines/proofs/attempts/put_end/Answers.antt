use Rattle.std.proofs.Common.{rules, ◌∙◌}
use Rattle.indexmap.proofs.CallerLemmas.{insert_entry-new}
use Rattle.rp_racelines.specs.declared.attempts.Told.TheVariants.{End}
use Rattle.rp_racelines.proofs.attempts.put_end.Goals as goal

pub returns : goal.returns
returns c =
    (rw c.unwrap.ensures at c.insert.ensures.entries) ∙ insert_entry-new _ c.args.ends.now c.args.id (End c.args.outcome) (search rules)
