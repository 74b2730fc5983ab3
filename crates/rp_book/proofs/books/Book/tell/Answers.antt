use Rattle.std.proofs.Common.{sym, subst, ◌∙◌, ap}
use Rattle.std.specs.Map.{keys_of}
use Rattle.rp_book.specs.Keeping.{bookings, outcomes, IsIndexed}
use Rattle.rp_book.specs.Queueing.{stands_in}
use Rattle.rp_book.proofs.Standing.{Noted, told_stands}
use Rattle.rp_book.proofs.books.Book.tell.Goals as goal

pub invariant_of-self : goal.invariant_of-self
invariant_of-self c = record {
  index = subst (λ ids. IsIndexed ids c.self.inside.latest.entries) (sym c.tell.ensures.keys) c.self.invariant.index;
  stand = told_stands (bookings c.self.inside.kept.entries) (bookings c.tell.new.store.entries) (outcomes c.self.inside.kept.entries) (outcomes c.tell.new.store.entries)
      (stands_in c.self.inside.waits.queues c.self.inside.waits.noted.items) (stands_in c.note_if.new.self.queues c.note_if.new.self.noted.items) c.args.id c.args.outcome
      c.self.invariant.stand
      (subst (λ asked. Noted asked c.args.id (stands_in c.self.inside.waits.queues c.self.inside.waits.noted.items) (stands_in c.note_if.new.self.queues c.note_if.new.self.noted.items)) c.is_pending.ensures c.note_if.ensures)
      c.tell.ensures.entries c.tell.ensures.told;
}
