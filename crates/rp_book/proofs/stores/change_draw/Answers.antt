use Rattle.std.proofs.Common.{rules}
use Rattle.std.specs.Map.{lookup}
use Rattle.rp_base.specs.Ids.{same_id}
use Rattle.rp_book.proofs.Entries.{none_not_some}
use Rattle.rp_book.proofs.stores.change_draw.Goals as goal

pub returns-clause-none : goal.returns-clause-none
returns-clause-none c h = none_not_some (lookup (same_id c.args.id) c.args.store.now.entries) c.in-Some.kept.now h (search rules)
