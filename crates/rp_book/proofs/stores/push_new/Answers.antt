use Rattle.std.proofs.Common.{rules, ◌∙◌}
use Rattle.indexmap.proofs.CallerLemmas.{insert_entry-new}
use Rattle.rp_request.specs.declared.outcomes.Outcome.TheVariants.{Pending}
use Rattle.rp_book.specs.declared.keeps.Kept.TheVariants.{Attempt}
use Rattle.rp_book.proofs.stores.push_new.Goals as goal

pub returns-clause-entries : goal.returns-clause-entries
returns-clause-entries c =
    (rw c.unwrap.ensures at c.insert.ensures.entries) ∙ insert_entry-new _ c.args.store.now c.args.id (Attempt c.args.booking Pending) (search rules)
