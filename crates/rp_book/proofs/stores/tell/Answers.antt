use Rattle.rp_book.proofs.Entries.{keys_stay, told_entries, told_now}
use Rattle.rp_book.specs.Keeping.{with_outcome}
use Rattle.rp_book.proofs.stores.tell.Goals as goal

pub returns-clause-entries : goal.returns-clause-entries
returns-clause-entries c = told_entries c.args.id c.args.outcome c.args.store.now.entries c.change_outcome.new.store.entries (record { none = c.change_outcome.ensures.none; some = c.change_outcome.ensures.some })

pub returns-clause-told : goal.returns-clause-told
returns-clause-told c = told_now c.args.id c.args.outcome c.args.store.now.entries c.change_outcome.new.store.entries (record { none = c.change_outcome.ensures.none; some = c.change_outcome.ensures.some })

pub returns-clause-keys : goal.returns-clause-keys
returns-clause-keys c = keys_stay c.args.id (with_outcome c.args.outcome) c.args.store.now.entries c.change_outcome.new.store.entries (record { none = c.change_outcome.ensures.none; some = c.change_outcome.ensures.some })
