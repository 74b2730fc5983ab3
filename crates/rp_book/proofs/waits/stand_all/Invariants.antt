use Rattle.std.proofs.Common.{drop}
use Rattle.rp_book.specs.Keeping.{bookings, outcomes}
use Rattle.rp_book.specs.Queueing.{AllStand, is_among}
use Rattle.rp_book.proofs.waits.stand_all.Given as goal

-- each that may still be put is one of those that are left, or stands in its queue
abbrev pub invariant-loop-id : goal.invariant-loop-id
invariant-loop-id l = AllStand (bookings l.store.entries) (outcomes l.store.entries) (is_among (drop l.id-index l.ids) l.queues)
