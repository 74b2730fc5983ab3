use Rattle.std.proofs.Common.{List, sym, subst}
use Rattle.std.specs.Option.{option_map}
use Rattle.rp_pending.specs.Bounds.{Covers}
use Rattle.rp_pending.specs.Slots.{Slot, changed}
use Rattle.rp_pending.proofs.Passing.{changed_there, none_there}
use Rattle.rp_pending.proofs.shelf.Shelf.change.Goals as goal

pub note-requires-clause-covers : goal.note-requires-clause-covers
note-requires-clause-covers c =
    (changed_there c.self.inside.bounds.narrow.items c.self.inside.slots.entries c.change-made.new.slots.entries c.args.id (option_map (changed c.args.change)) c.in-Some.place
    c.self.invariant.0 (sym c.in-Some.ensures.place) c.in-Some.ensures.there c.change-made.ensures.entries).0

pub note-requires-clause-there : goal.note-requires-clause-there
note-requires-clause-there c =
    (changed_there c.self.inside.bounds.narrow.items c.self.inside.slots.entries c.change-made.new.slots.entries c.args.id (option_map (changed c.args.change)) c.in-Some.place
    c.self.invariant.0 (sym c.in-Some.ensures.place) c.in-Some.ensures.there c.change-made.ensures.entries).1

pub invariant_of-self-in_default : goal.invariant_of-self-in_default
invariant_of-self-in_default c =
    let same = c.change-made.ensures.none (none_there c.args.id c.self.inside.slots.entries c.in_default.ensures.there) in
    (subst (λ (fs : List Slot). Covers c.self.inside.bounds.narrow.items fs) (sym same) c.self.invariant.0, c.self.invariant.1)
