use Rattle.std.proofs.Common.{◌≡◌, ◌+◌, ◌≤◌, ◌++◌, List, length}
use Rattle.rp_base.specs.declared.items.Item.{Item}
use Rattle.rp_buffer.specs.Passes.{known_by, IsSame}
use Rattle.rp_buffer.specs.Collects.{Sweeping, Swept}
use Rattle.rp_buffer.proofs.table.SlotTable.sweep_all.Given as goal

-- the places below this one are swept
abbrev pub invariant-loop-place : goal.invariant-loop-place
invariant-loop-place l = record {
  same : IsSame l.fn.pass l.pass;
  sweeping : Sweeping (known_by l.pass) l.buffer;
  told : (items : List Item) × (length items ≤ l.place) × (l.out.list ≡ l.fn.out.list ++ items)
      × (l.fn.out.spare ≤ l.out.spare + length items) × Swept l.buffer l.place (known_by l.fn.pass) items (known_by l.pass);
}
