use Rattle.std.proofs.Common.{sym, subst, ◌∙◌, ap}
use Rattle.std.specs.Map.{keys_of}
use Rattle.rp_book.specs.Keeping.{bookings, outcomes, IsIndexed}
use Rattle.rp_book.specs.Queueing.{stands_in, is_unpublished}
use Rattle.rp_book.proofs.Standing.{Noted, draw_stands}
use Rattle.rp_book.proofs.books.Book.set_draw.Goals as goal

pub invariant_of-self : goal.invariant_of-self
invariant_of-self c = record {
  index = subst (λ ids. IsIndexed ids c.self.inside.latest.entries) (sym c.set_draw.ensures.keys) c.self.invariant.index;
  stand = draw_stands (bookings c.self.inside.kept.entries) (bookings c.set_draw.new.store.entries) (outcomes c.self.inside.kept.entries) (outcomes c.set_draw.new.store.entries)
      (stands_in c.self.inside.waits.queues c.self.inside.waits.noted.items) (stands_in c.note_if.new.self.queues c.note_if.new.self.noted.items) c.args.id c.args.draw
      c.self.invariant.stand
      (subst (λ asked. Noted asked c.args.id (stands_in c.self.inside.waits.queues c.self.inside.waits.noted.items) (stands_in c.note_if.new.self.queues c.note_if.new.self.noted.items)) c.is_unpublished.ensures c.note_if.ensures)
      c.set_draw.ensures.none c.set_draw.ensures.entries c.set_draw.ensures.told;
}
