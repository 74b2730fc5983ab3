-- Whence a worker's seat and pass are (this project).
use Rattle.std.specs.Prelude.{◌≡◌, ℕ, []}
use Rattle.atomic_table.specs.Seated.{TableId}
use Rattle.rp_bufcore.specs.declared.ends.BufferEnd.{Ghosts}
use Rattle.rp_buffer.specs.declared.table.SlotTable.{SlotTable}
use Rattle.rp_buffer.specs.declared.table.Pass.{Pass}
use Rattle.rp_buffer.specs.Passes as passes
use Rattle.rp_switch.specs.declared.switch.Switch.{Switch}
use Rattle.rp_switch.specs.declared.switch.Seat.{Seat}
use Rattle.rp_switch.specs.Seats.{terms_of, known_by}
use Rattle.rp_switch.specs.Views.{Knowledge, nothing_known}
use Rattle.rp_bench.specs.Worked.{IsOnward}

-- the tables of a switch and of the buffers, what the worker's seat knew at first, and the parts of its pass
pub record Whence : Type 0 where
  pub switch : TableId
  pub buffers : TableId
  pub known : Knowledge
  pub pass_parts : ℕ

module _ {E : Type 0} {g : Ghosts E} where
  -- the seat is one of this switch, and goes on from what it knew
  pub record IsSeated (o : Whence) (s : Switch E) (p : Seat E g) : Type 0 where
    pub switch_is : s.table.shared.table_id ≡ o.switch
    pub terms_are : terms_of s ≡ o.known.terms
    pub seat_is : p.seat.table_id ≡ o.switch
    pub onward : IsOnward o.known (known_by p)

-- the pass is one of these buffers
pub record IsPassing (o : Whence) (t : SlotTable) (p : Pass) : Type 0 where
  pub table_is : t.table.shared.table_id ≡ o.buffers
  pub pass_is : p.seat.table_id ≡ o.buffers
  pub parts : (passes.known_by p).parts ≡ o.pass_parts

abbrev pub no_table : TableId
no_table = record { words = 0; slots = 0; views_name = 0; atom = 0; block = 0; offset = 0; slot_names = [] }

abbrev pub nowhere : Whence
nowhere = record {
  switch = no_table;
  buffers = no_table;
  known = nothing_known;
  pass_parts = 0;
}
