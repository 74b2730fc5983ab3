use Rattle.std.proofs.Common.{List, None, sym, subst, ◌∙◌}
use Rattle.rp_pending.specs.Bounds.{Covers}
use Rattle.rp_pending.specs.Slots.{Slot}
use Rattle.rp_pending.proofs.Finding.{no_slot_stays}
use Rattle.rp_pending.proofs.Passing.{none_there, written}
use Rattle.rp_pending.proofs.shelf.Shelf.take.Goals as goal

pub note-requires-clause-covers : goal.note-requires-clause-covers
note-requires-clause-covers c =
    (written c.self.inside.bounds.narrow.items c.self.inside.slots.entries c.take-taken.new.slots.entries c.args.id None c.in-Some.place
    c.self.invariant.0 (sym c.in-Some.ensures.place) c.take-taken.ensures.entries).0

pub note-requires-clause-there : goal.note-requires-clause-there
note-requires-clause-there c =
    (written c.self.inside.bounds.narrow.items c.self.inside.slots.entries c.take-taken.new.slots.entries c.args.id None c.in-Some.place
    c.self.invariant.0 (sym c.in-Some.ensures.place) c.take-taken.ensures.entries).1

pub invariant_of-self-in_default : goal.invariant_of-self-in_default
invariant_of-self-in_default c =
    let es = c.self.inside.slots.entries in
    let same = c.take-taken.ensures.entries ∙ no_slot_stays c.args.id es None (none_there c.args.id es c.in_default.ensures.there) in
    (subst (λ (fs : List Slot). Covers c.self.inside.bounds.narrow.items fs) (sym same) c.self.invariant.0, c.self.invariant.1)
