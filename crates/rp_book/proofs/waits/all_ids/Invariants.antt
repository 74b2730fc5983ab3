use Rattle.std.proofs.Common.{◌≡◌, take}
use Rattle.std.specs.Map.{keys_of}
use Rattle.rp_book.proofs.waits.all_ids.Given as goal

-- the ids so far
abbrev pub invariant-loop-at : goal.invariant-loop-at
invariant-loop-at l = l.ids.items ≡ keys_of (take l.at l.store.entries)
