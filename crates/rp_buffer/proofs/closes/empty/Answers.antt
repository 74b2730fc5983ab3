use Rattle.std.proofs.Common.{rules, ◌≡◌, ◌+◌, ◌<◌, ◌≤◌, ◌++◌, IfOk, IsTrue, false, None, length, slice_index, slice_index_or, slice_set, ℕ, List, [], ◌∷◌, Option, arith, subst, sym, ap, ◌∙◌}
use Rattle.std.specs.Slots.{slots_items, slots_filled, slots_len, IsFull}
use Rattle.rp_base.specs.declared.items.Item.{Item}
use Rattle.rp_buffer.specs.Lefts.{found_at}
use Rattle.rp_buffer.proofs.Closing.{found}
use Rattle.rp_buffer.proofs.closes.empty.Goals as goal

pub returns-clause-found : goal.returns-clause-found
returns-clause-found c =
    let word : slice_index (slots_items c.args.closed.now.words) (40 + c.args.place) ≡ c.word-word.result = found (slots_items c.args.closed.now.words) (40 + c.args.place) c.word-word.result 0 c.word-word.ensures in
    let item : slice_index_or (slots_items c.args.closed.now.slots) c.args.place None ≡ c.take-item.result = found (slots_items c.args.closed.now.slots) c.args.place c.take-item.result None c.take-item.ensures.value in
    c.note.ensures.found ∙ ap (λ l. c.args.left.now.list ++ l)
    (ap (λ (w : ℕ). found_at c.args.place w c.take-item.result) (sym word)
    ∙ ap (λ (y : Option Item). found_at c.args.place (slice_index (slots_items c.args.closed.now.words) (40 + c.args.place)) y) (sym item))
