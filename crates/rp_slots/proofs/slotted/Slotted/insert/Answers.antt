use Rattle.std.proofs.Common.{◌≡◌, ◌<◌, ◌+◌, ◌∷◌, ◌++◌, [], length, take, set, ap, sym, subst, ◌∙◌, rules, arith}
use Rattle.std.proofs.lemmas.List.{length_push, length-set}
use Rattle.std.proofs.lemmas.List.Edits.{length-insert}
use Rattle.std.specs.List.{insert}
use Rattle.std.specs.Prelude.{option_to_list}
use Rattle.rp_slots.specs.Slots.{shown, AreSlots}
use Rattle.rp_slots.proofs.Numbers.{last_below, slots_new, slots_taken}
use Rattle.rp_slots.proofs.Edits.{long, put_new, put_free}
use Rattle.rp_slots.proofs.slotted.Slotted.insert.Goals as goal

pub insert-requires : goal.insert-requires
insert-requires g c =
    let n = long _ _ _ c.self.invariant.live c.self.invariant.whole c.self.invariant.slots in
    let held = ap (λ v. length v.list) c.self.view_is in
    let p = c.requires.place in
    omega (arith, c.self.inside.slots.ok.0, c.self.invariant.live, c.self.invariant.whole)

pub invariant_of-self : goal.invariant_of-self
invariant_of-self g c =
    let items = c.self.inside.items.items in
    let ks = c.self.inside.slots.items in
    let n = long _ _ _ c.self.invariant.live c.self.invariant.whole c.self.invariant.slots in
    let held = ap (λ v. length v.list) c.self.view_is in
    let p = c.requires.place in
    let room = c.requires.room in
    let spare = ap (λ v. v.spare) c.self.view_is in
    let full : c.self.inside.len ≡ length items = c.if-self-len.true ∙ c.len.ensures ∙ c.self.inside.items.ok.0 in
    let put : c.insert.new.self.items ≡ insert ks c.args.place c.self.inside.len = search rules in
    let longer : length c.push_reserved.new.self.items ≡ length items + 1 = ap length c.push_reserved.ensures.items ∙ length_push items c.args.item in
    let more : length c.insert.new.self.items ≡ length ks + 1 = ap length put ∙ length-insert ks c.args.place c.self.inside.len (omega (arith, c.self.invariant.live, c.self.invariant.whole)) in
    let numbers : AreSlots (length items + 1) (insert ks c.args.place c.self.inside.len) =
    subst (λ m. AreSlots (length items + 1) (insert ks c.args.place m)) (sym full) (slots_new (length items) ks c.args.place c.self.invariant.slots) in
    record {
      live = omega arith;
      few = omega arith;
      whole = omega (arith, c.self.invariant.whole);
      slots = subst (λ m. AreSlots m c.insert.new.self.items) (sym longer) (subst (AreSlots (length items + 1)) (sym put) numbers);
    }

pub returns-then-self-len-clause-list : goal.returns-then-self-len-clause-list
returns-then-self-len-clause-list g c =
    let items = c.self.inside.items.items in
    let ks = c.self.inside.slots.items in
    let n = long _ _ _ c.self.invariant.live c.self.invariant.whole c.self.invariant.slots in
    let held = ap (λ v. length v.list) c.self.view_is in
    let p = c.requires.place in
    let full : c.self.inside.len ≡ length items = c.if-self-len.true ∙ c.len.ensures ∙ c.self.inside.items.ok.0 in
    let put : c.insert.new.self.items ≡ insert ks c.args.place c.self.inside.len = search rules in
    ap (λ xs. shown xs (take (c.self.inside.len + 1) c.insert.new.self.items)) c.push_reserved.ensures.items
    ∙ ap (λ js. shown (items ++ c.args.item ∷ []) (take (c.self.inside.len + 1) js)) (put ∙ ap (insert ks c.args.place) full)
    ∙ put_new items ks c.self.inside.len c.self.invariant.live c.self.invariant.whole c.self.invariant.slots c.args.place c.args.item full (omega arith)
    ∙ ap (λ v. insert v.list c.args.place c.args.item) c.self.view_is

pub index_mut-requires : goal.index_mut-requires
index_mut-requires g c =
    let ks = c.self.inside.slots.items in
    let js = c.pop_back.new.self.items in
    let s = c.unwrap-slot.result in
    let last : ks ≡ js ++ s ∷ [] = c.pop_back.ensures.items ∙ ap (λ o. js ++ option_to_list o) c.unwrap-slot.ensures in
    let low = last_below _ js s (subst (AreSlots (length c.self.inside.items.items)) last c.self.invariant.slots) in
    omega (arith, c.self.inside.items.ok.0)

pub insert-requires-2 : goal.insert-requires-2
insert-requires-2 g c =
    let ks = c.self.inside.slots.items in
    let js = c.pop_back.new.self.items in
    let s = c.unwrap-slot.result in
    let n = long _ _ _ c.self.invariant.live c.self.invariant.whole c.self.invariant.slots in
    let held = ap (λ v. length v.list) c.self.view_is in
    let p = c.requires.place in
    let last : ks ≡ js ++ s ∷ [] = c.pop_back.ensures.items ∙ ap (λ o. js ++ option_to_list o) c.unwrap-slot.ensures in
    let size = ap length last ∙ length_push js s in
    let not_full = c.if-self-len.false in
    omega (arith, c.pop_back.new.self.ok.0, c.self.invariant.live, c.self.invariant.whole, c.len.ensures, c.self.inside.items.ok.0)

pub invariant_of-self-2 : goal.invariant_of-self-2
invariant_of-self-2 g c =
    let items = c.self.inside.items.items in
    let ks = c.self.inside.slots.items in
    let js = c.pop_back.new.self.items in
    let s = c.unwrap-slot.result in
    let n = long _ _ _ c.self.invariant.live c.self.invariant.whole c.self.invariant.slots in
    let held = ap (λ v. length v.list) c.self.view_is in
    let p = c.requires.place in
    let last : ks ≡ js ++ s ∷ [] = c.pop_back.ensures.items ∙ ap (λ o. js ++ option_to_list o) c.unwrap-slot.ensures in
    let size = ap length last ∙ length_push js s in
    let not_full = c.if-self-len.false in
    let room : c.self.inside.len < length items = omega (arith, c.self.invariant.live, c.len.ensures, c.self.inside.items.ok.0) in
    let put : c.insert-2.new.self.items ≡ insert js c.args.place s = search rules in
    let same : length (set items s c.args.item) ≡ length items = length-set items s c.args.item in
    let more : length c.insert-2.new.self.items ≡ length js + 1 = ap length put ∙ length-insert js c.args.place s (omega (arith, c.self.invariant.whole)) in
    record {
      live = omega arith;
      few = omega (arith, c.self.invariant.few);
      whole = omega (arith, c.self.invariant.whole);
      slots = subst (λ m. AreSlots m c.insert-2.new.self.items) (sym same) (subst (AreSlots (length items)) (sym put)
          (slots_taken (length items) js s c.args.place (subst (AreSlots (length items)) last c.self.invariant.slots)));
    }

pub returns-clause-list : goal.returns-clause-list
returns-clause-list g c =
    let items = c.self.inside.items.items in
    let ks = c.self.inside.slots.items in
    let js = c.pop_back.new.self.items in
    let s = c.unwrap-slot.result in
    let n = long _ _ _ c.self.invariant.live c.self.invariant.whole c.self.invariant.slots in
    let held = ap (λ v. length v.list) c.self.view_is in
    let p = c.requires.place in
    let last : ks ≡ js ++ s ∷ [] = c.pop_back.ensures.items ∙ ap (λ o. js ++ option_to_list o) c.unwrap-slot.ensures in
    let not_full = c.if-self-len.false in
    let room : c.self.inside.len < length items = omega (arith, c.self.invariant.live, c.len.ensures, c.self.inside.items.ok.0) in
    let put : c.insert-2.new.self.items ≡ insert js c.args.place s = search rules in
    ap (λ ks. shown (set items s c.args.item) (take (c.self.inside.len + 1) ks)) put
    ∙ put_free items ks c.self.inside.len c.self.invariant.live c.self.invariant.whole c.self.invariant.slots js s c.args.place c.args.item last room (omega arith)
    ∙ ap (λ v. insert v.list c.args.place c.args.item) c.self.view_is
