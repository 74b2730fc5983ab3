use Rattle.std.proofs.Common.{◌++◌, ap, ◌∙◌}
use Rattle.rp_book.specs.Keeping.{bookings, entries_of}
use Rattle.rp_book.proofs.Sorted.{entries_in_order}
use Rattle.rp_book.proofs.stores.by_attempt.Goals as goal

pub returns : goal.returns
returns c =
    c.in_ok-push_entries.ensures
    ∙ ap (λ l. l ++ entries_of (bookings c.args.store.now.entries) c.in_ok-ids.ids.keys) c.new-list.ensures.items
    ∙ ap (entries_of (bookings c.args.store.now.entries)) c.in_ok-ids.ensures
    ∙ entries_in_order c.args.store.now.entries c.requires
