use Rattle.std.proofs.Common.{◌≡◌, ℕ, Some, sym, ◌∙◌}
use Rattle.rp_base.specs.declared.ids.CmdId.{CmdId}
use Rattle.rp_book.specs.declared.bookings.Booked.{Booked}
use Rattle.rp_book.specs.Keeping.{bookings, outcomes}
use Rattle.rp_book.proofs.Entries.{on_ok}
use Rattle.rp_book.proofs.Standing.{stands_now}
use Rattle.rp_book.proofs.waits.stand.Goals as goal

pub returns-in-Some : goal.returns-in-Some
returns-in-Some c =
    on_ok c.insert.result c.insert.ensures.ok
    (stands_now (bookings c.args.store.now.entries) (outcomes c.args.store.now.entries) c.args.id c.in-Some.queue c.args.queues.now c.insert.new.self
    (λ b queue has_it at may. sym c.in-Some.is ∙ c.place_of.ensures.queue b queue has_it at may))
