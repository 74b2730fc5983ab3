use Rattle.std.proofs.Common.{sym, ◌∙◌, ap}
use Rattle.rp_book.specs.Queueing.{stands_in}
use Rattle.rp_book.proofs.waits.gathered.Goals as goal

pub with_noted-requires : goal.with_noted-requires
with_noted-requires c id b queue has_it at may = sym (ap (λ q. stands_in q c.args.noted.now queue id) c.in-Some.is) ∙ c.requires id b queue has_it at may
