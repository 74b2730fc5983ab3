use Rattle.std.proofs.Common.{sym, ap, ◌∙◌, Some}
use Rattle.std.specs.Option.{option_map}
use Rattle.rp_base.specs.Ids.{same_id}
use Rattle.rp_book.specs.Keeping.{outcome_in}
use Rattle.rp_book.proofs.Entries.{at_mapped}
use Rattle.rp_book.proofs.stores.outcome.Goals as goal

pub returns-in-None : goal.returns-in-None
returns-in-None c = ap (option_map outcome_in) c.in-None.ensures ∙ sym (at_mapped outcome_in (same_id c.args.id) c.args.store.now.entries)

pub returns-in-Some : goal.returns-in-Some
returns-in-Some c = ap Some c.outcome.ensures ∙ ap (option_map outcome_in) c.in-Some.ensures ∙ sym (at_mapped outcome_in (same_id c.args.id) c.args.store.now.entries)
