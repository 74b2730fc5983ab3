use Rattle.std.proofs.Common.{rules, ◌∙◌}
use Rattle.indexmap.proofs.CallerLemmas.{insert_entry-new}
use Rattle.rp_node.specs.declared.journals.Noted.TheVariants.{Answer}
use Rattle.rp_node.proofs.journals.put.Goals as goal

pub returns-clause-entries : goal.returns-clause-entries
returns-clause-entries c =
    (rw c.unwrap.ensures at c.insert.ensures.entries) ∙ insert_entry-new _ c.args.told.now c.args.place (Answer c.args.answer.now) (search rules)
