use Rattle.std.proofs.Common.{sym}
use Rattle.rp_book.proofs.Standing.{placed, unplaced}
use Rattle.rp_book.proofs.waits.place_of.Goals as goal

pub returns-in-None-clause-queue : goal.returns-in-None-clause-queue
returns-in-None-clause-queue c b queue has_it at may = unplaced c.args.store.now.entries c.args.id (sym c.in-None.ensures) b has_it

pub returns-in-Some-clause-queue : goal.returns-in-Some-clause-queue
returns-in-Some-clause-queue c = placed c.args.store.now.entries c.args.id c.in-Some.kept.now c.queue_for.result (sym c.in-Some.ensures) c.queue_for.ensures.queue
