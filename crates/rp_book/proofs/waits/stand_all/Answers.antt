use Rattle.std.proofs.Common.{length, arith, sym, subst, drop}
use Rattle.std.proofs.lemmas.Option.{slice_get-get_or}
use Rattle.rp_book.specs.Keeping.{bookings, outcomes}
use Rattle.rp_book.proofs.Standing.{none_behind, one_stands}
use Rattle.rp_book.proofs.waits.stand_all.Goals as goal

pub loop-id-preserved : goal.loop-id-preserved
loop-id-preserved c =
    one_stands (bookings c.args.store.now.entries) (outcomes c.args.store.now.entries) c.args.ids.now c.loop-id.id-index _ c.loop-id.queues c.stand.new.queues
    (slice_get-get_or c.args.ids.now c.loop-id.id-index _ c.loop-id-test.true) c.loop-id.invariant c.in_ok-stand.ensures

pub returns : goal.returns
returns c = none_behind (bookings c.args.store.now.entries) (outcomes c.args.store.now.entries) c.args.ids.now c.loop-id.id-index c.loop-id.queues c.loop-id-test.false c.loop-id.invariant
