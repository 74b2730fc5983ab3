use Rattle.rp_book.proofs.Entries.{on_ok}
use Rattle.rp_book.proofs.Standing.{ids_more}
use Rattle.rp_book.proofs.waits.push_next.Goals as goal

pub returns : goal.returns
returns c = on_ok c.push_id.result c.push_id.ensures (ids_more c.args.store.now.entries c.args.at c.args.ids.now.items c.push_id.new.ids.items c.requires)
