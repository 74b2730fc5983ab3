use Rattle.std.proofs.Common.{length, ap, ◌∙◌, get_or, arith}
use Rattle.rp_slots.proofs.Edits.{long, slot_low, read}
use Rattle.rp_slots.proofs.slotted.Slotted.at.Goals as goal

pub index-slot-requires : goal.index-slot-requires
index-slot-requires g c =
    let n = long _ _ _ c.self.invariant.live c.self.invariant.whole c.self.invariant.slots in
    let held = ap (λ v. length v.list) c.self.view_is in
    omega (arith, c.self.inside.slots.ok.0, c.self.invariant.live, c.self.invariant.whole)

pub index-requires : goal.index-requires
index-requires g c =
    let n = long _ _ _ c.self.invariant.live c.self.invariant.whole c.self.invariant.slots in
    let held = ap (λ v. length v.list) c.self.view_is in
    let low = slot_low _ _ _ c.self.invariant.live c.self.invariant.whole c.self.invariant.slots c.args.place c.index-slot.result.now (omega arith) c.index-slot.ensures in
    omega (arith, c.self.inside.items.ok.0)

pub returns : goal.returns
returns g c =
    let n = long _ _ _ c.self.invariant.live c.self.invariant.whole c.self.invariant.slots in
    let held = ap (λ v. length v.list) c.self.view_is in
    read _ _ _ c.self.invariant.live c.self.invariant.whole c.self.invariant.slots c.args.place c.index-slot.result.now c.index.result.now (omega arith) c.index-slot.ensures c.index.ensures
    ∙ ap (λ v. get_or v.list c.args.place c.index.result.now) c.self.view_is
