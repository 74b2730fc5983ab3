use Rattle.std.proofs.Common.{length, ap, ◌∙◌, set, arith}
use Rattle.rp_slots.proofs.Edits.{long, slot_low, replaced}
use Rattle.rp_slots.proofs.slotted.Slotted.replace.Goals as goal

pub index-slot-requires : goal.index-slot-requires
index-slot-requires g c =
    let n = long _ _ _ c.self.invariant.live c.self.invariant.whole c.self.invariant.slots in
    let held = ap (λ v. length v.list) c.self.view_is in
    omega (arith, c.self.inside.slots.ok.0, c.self.invariant.live, c.self.invariant.whole)

pub index_mut-requires : goal.index_mut-requires
index_mut-requires g c =
    let n = long _ _ _ c.self.invariant.live c.self.invariant.whole c.self.invariant.slots in
    let held = ap (λ v. length v.list) c.self.view_is in
    let low = slot_low _ _ _ c.self.invariant.live c.self.invariant.whole c.self.invariant.slots c.args.place c.index-slot.result.now (omega arith) c.index-slot.ensures in
    omega (arith, c.self.inside.items.ok.0)

pub returns-clause-list : goal.returns-clause-list
returns-clause-list g c =
    let n = long _ _ _ c.self.invariant.live c.self.invariant.whole c.self.invariant.slots in
    let held = ap (λ v. length v.list) c.self.view_is in
    replaced _ _ _ c.self.invariant.live c.self.invariant.whole c.self.invariant.slots c.args.place c.index-slot.result.now c.args.item (omega arith) c.index-slot.ensures
    ∙ ap (λ v. set v.list c.args.place c.args.item) c.self.view_is
