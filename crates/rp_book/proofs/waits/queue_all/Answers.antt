use Rattle.std.proofs.Common.{◌∙◌}
use Rattle.rp_book.specs.Keeping.{bookings, outcomes}
use Rattle.rp_book.proofs.Standing.{ids_stand}
use Rattle.rp_book.proofs.waits.queue_all.Goals as goal

pub stand_all-requires : goal.stand_all-requires
stand_all-requires c =
    ids_stand c.args.store.now.entries (outcomes c.args.store.now.entries) c.as_slice.result.now c.in_ok-queues.queues (c.as_slice.ensures.value ∙ c.in_ok-ids.ensures)
