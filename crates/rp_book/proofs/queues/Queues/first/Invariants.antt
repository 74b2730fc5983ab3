use Rattle.rp_book.specs.Queueing.{IsFirst}
use Rattle.rp_book.proofs.queues.Queues.first.Given as goal

-- the first of the queues that were looked at
abbrev pub invariant-loop-queue : goal.invariant-loop-queue
invariant-loop-queue l = IsFirst l.self l.passed l.queue l.first
