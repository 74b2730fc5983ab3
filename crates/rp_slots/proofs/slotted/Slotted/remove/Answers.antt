use Rattle.std.proofs.Common.{◌≡◌, ◌-◌, ◌∷◌, ◌++◌, [], length, take, get_or, ap, ◌∙◌, rules, arith}
use Rattle.std.specs.List.{remove}
use Rattle.rp_slots.specs.Slots.{shown}
use Rattle.rp_slots.proofs.Edits.{long, taken}
use Rattle.rp_slots.proofs.slotted.Slotted.remove.Goals as goal

pub unwrap-slot-requires : goal.unwrap-slot-requires
unwrap-slot-requires g c =
    let n = long _ _ _ c.self.invariant.live c.self.invariant.whole c.self.invariant.slots in
    let held = ap (λ v. length v.list) c.self.view_is in
    c.remove.ensures.variant.1 (omega (arith, c.self.inside.slots.ok.0, c.self.invariant.live, c.self.invariant.whole))

pub returns-clause-list : goal.returns-clause-list
returns-clause-list g c =
    let n = long _ _ _ c.self.invariant.live c.self.invariant.whole c.self.invariant.slots in
    let held = ap (λ v. length v.list) c.self.view_is in
    let s = c.unwrap-slot.result in
    let out : c.remove.new.self.items ≡ remove c.self.inside.slots.items c.args.place = search rules in
    let is : s ≡ get_or c.self.inside.slots.items c.args.place s = search rules in
    ap (λ ks. shown c.self.inside.items.items (take (c.self.inside.len - 1) ks)) (c.push_back_reserved.ensures.items ∙ ap (λ ks. ks ++ s ∷ []) out)
    ∙ taken _ _ _ c.self.invariant.live c.self.invariant.whole c.self.invariant.slots c.args.place s (c.self.inside.len - 1) (omega arith) (omega arith)
    ∙ ap (λ v. remove v.list c.args.place) c.self.view_is
