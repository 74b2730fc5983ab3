use Rattle.std.proofs.Common.{rules, ◌≡◌, ℕ, ◌+◌, ◌*◌, ◌<◌, ◌≤◌, List, [], ◌∷◌, ◌++◌, arith, subst, sym, ap, ◌∙◌}
use Rattle.rp_buffer.specs.declared.lefts.LeftItem.{LeftItem}
use Rattle.rp_buffer.specs.Passes.{known_by}
use Rattle.std.specs.Slots.{slots_items}
use Rattle.atomic_table.specs.Table.{Final, Seen}
use Rattle.rp_buffer.specs.Slots.{Kept}
use Rattle.rp_buffer.specs.Lefts.{lying, PutIsTakenOrLeft}
use Rattle.rp_buffer.proofs.Closing.{settles}
use Rattle.rp_buffer.proofs.table.SlotTable.close.Goals as goal

pub returns : goal.returns
returns c =
    let key = c.args.self.keyed in
    let list : c.empty_all.new.left.list ≡ lying 640 (slots_items c.close_with.result.words) (slots_items c.close_with.result.slots) =
    c.empty_all.ensures ∙ ap (λ (l : List LeftItem). l ++ lying 640 (slots_items c.close_with.result.words) (slots_items c.close_with.result.slots)) (c.in_ok-make_room.ensures.list ∙ c.new-left.ensures) in
    subst (λ (l : List LeftItem). PutIsTakenOrLeft (known_by c.args.pass) l) (sym list)
    (settles _ _ _ _ c.requires.all (subst (λ (n : ℕ). Final (Seen (Kept n) c.args.pass.seat.id c.args.pass.seat.me.0) (slots_items c.close_with.result.words) (slots_items c.close_with.result.slots)) key c.close_with.ensures.values.2))
