use Rattle.std.proofs.Common.{ap, sym, ◌∙◌, take, min, arith}
use Rattle.std.proofs.lemmas.List.{take_min}
use Rattle.rp_slots.specs.Slots.{shown}
use Rattle.rp_slots.proofs.Edits.{long, cut}
use Rattle.rp_slots.proofs.slotted.Slotted.truncate.Goals as goal

pub returns-clause-list : goal.returns-clause-list
returns-clause-list g c =
    let xs = shown c.self.inside.items.items (take c.self.inside.len c.self.inside.slots.items) in
    ap (λ n. shown c.self.inside.items.items (take n c.self.inside.slots.items)) c.min-self-inside.ensures
    ∙ cut _ _ _ c.self.invariant.live c.self.invariant.whole c.self.invariant.slots (min c.args.n c.self.inside.len) (omega arith)
    ∙ ap (λ m. take (min c.args.n m) xs) (sym (long _ _ _ c.self.invariant.live c.self.invariant.whole c.self.invariant.slots))
    ∙ take_min c.args.n xs
    ∙ ap (λ v. take c.args.n v.list) c.self.view_is
