use Rattle.std.proofs.Common.{Some}
use Rattle.std.specs.Map.{keys_of}
use Rattle.rp_request.specs.declared.outcomes.Outcome.TheVariants.{Pending}
use Rattle.rp_book.specs.Keeping.{bookings, outcomes}
use Rattle.rp_book.specs.Queueing.{stands_in}
use Rattle.rp_book.proofs.Latest.{indexed_push}
use Rattle.rp_book.proofs.Standing.{put_stands}
use Rattle.rp_book.proofs.books.Book.put.Goals as goal

pub invariant_of-self : goal.invariant_of-self
invariant_of-self c = record {
  index = indexed_push (keys_of c.self.inside.kept.entries) (keys_of c.put.new.store.entries) c.args.id c.self.inside.latest.entries c.note_latest.new.latest.entries
      (record { distinct = c.self.invariant.index.distinct; indexed = c.self.invariant.index.indexed }) c.put.ensures.keys c.put.ensures.distinct c.note_latest.ensures.entries;
  stand = put_stands (bookings c.self.inside.kept.entries) (bookings c.put.new.store.entries) (outcomes c.self.inside.kept.entries) (outcomes c.put.new.store.entries)
      (stands_in c.self.inside.waits.queues c.self.inside.waits.noted.items) (stands_in c.note_if.new.self.queues c.note_if.new.self.noted.items) c.args.id c.args.booking (Some Pending)
      c.self.invariant.stand c.note_if.ensures c.put.ensures.entries c.put.ensures.told;
}
