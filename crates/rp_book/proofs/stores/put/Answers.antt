use Rattle.std.proofs.Common.{ap, ◌∙◌}
use Rattle.rp_request.specs.declared.outcomes.Outcome.TheVariants.{Pending}
use Rattle.std.specs.Map.{keys_of}
use Rattle.rp_book.specs.declared.keeps.Kept.TheVariants.{Attempt}
use Rattle.rp_book.specs.Books.{told_of}
use Rattle.rp_book.specs.Keeping.{bookings, outcomes}
use Rattle.rp_book.proofs.Entries.{no_booking, put_behind, told_behind, keys_behind}
use Rattle.rp_book.proofs.stores.put.Goals as goal

pub push_new-requires-clause-new_id : goal.push_new-requires-clause-new_id
push_new-requires-clause-new_id c = no_booking c.args.id c.args.store.now.entries c.requires.new_id

pub returns-clause-entries : goal.returns-clause-entries
returns-clause-entries c = ap bookings c.push_new.ensures.entries ∙ put_behind c.args.id (Attempt c.args.booking Pending) c.args.store.now.entries (no_booking c.args.id c.args.store.now.entries c.requires.new_id)

pub returns-clause-told : goal.returns-clause-told
returns-clause-told c other = ap (λ es. told_of other (outcomes es)) c.push_new.ensures.entries ∙ told_behind c.args.id other (Attempt c.args.booking Pending) c.args.store.now.entries (no_booking c.args.id c.args.store.now.entries c.requires.new_id)

pub returns-clause-keys : goal.returns-clause-keys
returns-clause-keys c = ap keys_of c.push_new.ensures.entries ∙ keys_behind c.args.id (Attempt c.args.booking Pending) c.args.store.now.entries
