use Rattle.std.proofs.Common.{◌≡◌, take}
use Rattle.std.specs.Map.{keys_of}
use Rattle.rp_book.specs.Keeping.{in_order}
use Rattle.rp_book.proofs.stores.sorted_ids.Given as goal

-- those that were looked at stand in order
abbrev pub invariant-loop-at : goal.invariant-loop-at
invariant-loop-at l = l.ids.keys ≡ in_order (keys_of (take l.at l.store.entries))
