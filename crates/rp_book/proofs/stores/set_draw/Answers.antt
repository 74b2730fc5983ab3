use Rattle.rp_book.proofs.Entries.{keys_stay, drawn_none, drawn_some, drawn_told}
use Rattle.rp_book.specs.Keeping.{with_draw}
use Rattle.rp_book.proofs.stores.set_draw.Goals as goal

pub returns-clause-none : goal.returns-clause-none
returns-clause-none c = drawn_none c.args.id c.args.draw c.args.store.now.entries c.change_draw.new.store.entries (record { none = c.change_draw.ensures.none; some = c.change_draw.ensures.some })

pub returns-clause-entries : goal.returns-clause-entries
returns-clause-entries c = drawn_some c.args.id c.args.draw c.args.store.now.entries c.change_draw.new.store.entries (record { none = c.change_draw.ensures.none; some = c.change_draw.ensures.some })

pub returns-clause-told : goal.returns-clause-told
returns-clause-told c = drawn_told c.args.id c.args.draw c.args.store.now.entries c.change_draw.new.store.entries (record { none = c.change_draw.ensures.none; some = c.change_draw.ensures.some })

pub returns-clause-keys : goal.returns-clause-keys
returns-clause-keys c = keys_stay c.args.id (with_draw c.args.draw) c.args.store.now.entries c.change_draw.new.store.entries (record { none = c.change_draw.ensures.none; some = c.change_draw.ensures.some })
