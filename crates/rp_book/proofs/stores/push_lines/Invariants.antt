use Rattle.std.proofs.Common.{◌≡◌, ◌++◌, length, map}
use Rattle.rp_book.specs.Books.{told_of}
use Rattle.rp_book.specs.Keeping.{line_of, outcomes}
use Rattle.rp_book.proofs.stores.push_lines.Given as goal

-- the lines so far and those of the ids that are left
abbrev pub invariant-loop-id : goal.invariant-loop-id
invariant-loop-id l =
    l.lines.items ++ map (λ id. line_of id (told_of id (outcomes l.store.entries))) l.ids.keys
    ≡ l.initial.lines.items ++ map (λ id. line_of id (told_of id (outcomes l.store.entries))) l.initial.ids.keys

abbrev pub decreases-loop-id : goal.decreases-loop-id
decreases-loop-id l = length l.ids.keys
