use Rattle.std.proofs.Common.{◌≡◌, ◌++◌, length}
use Rattle.rp_book.specs.Keeping.{bookings, entries_of}
use Rattle.rp_book.proofs.stores.push_entries.Given as goal

-- the entries so far and those of the ids that are left
abbrev pub invariant-loop-id : goal.invariant-loop-id
invariant-loop-id l =
    l.list.items ++ entries_of (bookings l.store.entries) l.ids.keys
    ≡ l.initial.list.items ++ entries_of (bookings l.store.entries) l.initial.ids.keys

abbrev pub decreases-loop-id : goal.decreases-loop-id
decreases-loop-id l = length l.ids.keys
