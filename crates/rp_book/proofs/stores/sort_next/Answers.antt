use Rattle.rp_book.proofs.Entries.{on_ok, sorted_next}
use Rattle.rp_book.proofs.stores.sort_next.Goals as goal

pub returns : goal.returns
returns c = on_ok c.sort_in.result c.sort_in.ensures (sorted_next c.args.store.now.entries c.args.at c.args.ids.now.keys c.sort_in.new.ids.keys c.requires)
