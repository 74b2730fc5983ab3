use Rattle.std.proofs.Common.{◌≡◌, replicate, []}
use Rattle.rp_book.proofs.queues.Queues.new.Given as goal

-- so many empty queues
abbrev pub invariant-loop : goal.invariant-loop
invariant-loop l = l.queues.items ≡ replicate l.counter []
