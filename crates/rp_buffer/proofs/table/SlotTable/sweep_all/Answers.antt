use Rattle.std.proofs.Common.{rules, ◌≡◌, ◌+◌, ◌*◌, ◌/◌, ◌<◌, ◌≤◌, ◌++◌, [], length, Option, ℕ, ◌-◌, ◌%◌, Bool, true, false, nat_eq, nat_lt, List, ◌∷◌, slice_index_or, slice_set, bit_and, bit_or, Fits, w8, w32, w64, Bor, MutBor, arith, subst, refl}
use Rattle.rp_base.specs.declared.items.Item.{Item}
use Rattle.rp_buffer.specs.Passes.{known_by, IsPassOf, IsSame}
use Rattle.rp_buffer.specs.Collects.{Sweeping, Swept, Appends}
use Rattle.rp_buffer.proofs.Collecting.{one_more, swept_none, append_nothing}
use Rattle.rp_buffer.proofs.table.SlotTable.sweep_all.Goals as goal

pub loop-place-preserved : goal.loop-place-preserved
loop-place-preserved c = record {
  same = search rules;
  sweeping = c.sweep_into.ensures.sweeping;
  told = one_more _ _ _ _ _ _ _ _ c.loop-place.invariant.told c.sweep_into.ensures.told;
}

pub returns-clause-told : goal.returns-clause-told
returns-clause-told c =
    let past = c.loop-place-test.false in
    let within = c.loop-place.auto.place-end in
    subst (λ (n : ℕ). (items : List Item) × (length items ≤ n) × (c.loop-place.out.list ≡ c.args.out.now.list ++ items)
    × (c.args.out.now.spare ≤ c.loop-place.out.spare + length items) × Swept c.args.buffer n (known_by c.args.pass.now) items (known_by c.loop-place.pass))
    (omega (arith, past, within)) c.loop-place.invariant.told

pub loop-place-init : goal.loop-place-init
loop-place-init c = record {
  same = refl;
  sweeping = c.requires.sweeping;
  told = ([], omega arith, append_nothing _, omega arith, swept_none _ _);
}
