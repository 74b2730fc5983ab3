-- The buffer machine that a slot table shows for each buffer (this project).
use Rattle.std.specs.Prelude.{◌≡◌, ℕ, zero, suc, ◌+◌, ◌*◌, Bool, List, [], ◌∷◌}
use Rattle.rp_base.specs.declared.items.Item.{Item}
use Rattle.rp_bufcore.specs.declared.buffers.Slot.{Slot}
use Rattle.rp_bufcore.specs.declared.buffers.Slot.TheVariants.{Free, Drawn, Published, Taken}
use Rattle.rp_bufcore.specs.Buffers.{Buffer, start, after_draw, after_publish}
use Rattle.rp_bufcore.specs.Steps.{after_close, after_take, after_reopen}

-- A place is free, drawn by the pass of this number, published with an item, being emptied by the
-- pass of this number, or taken.
pub data Phase : Type 0 where
  free : Phase
  drawn : ℕ → Phase
  published : Item → Phase
  taking : ℕ → Phase
  taken : Phase

-- how many places are drawn, and whether more can be drawn
pub record Ring : Type 0 where
  pub drawn_to : ℕ
  pub is_open : Bool

-- what the machine shows of a place: which pass has it is left out
abbrev pub bare : Phase → Slot
bare free = Free
bare (drawn id) = Drawn
bare (published x) = Published x
bare (taking id) = Taken
bare taken = Taken

-- the places from one on
unfoldable pub slots_from : ℕ → ℕ → (ℕ → Phase) → List Slot
slots_from zero k phases = []
slots_from (suc m) k phases = bare (phases k) ∷ slots_from m (k + 1) phases

-- the machine of a buffer
abbrev pub shown : (ℕ → Ring) → (ℕ → Phase) → ℕ → Buffer
shown rings phases b = record {
  is_open = (rings b).is_open;
  drawn = (rings b).drawn_to;
  slots = slots_from 16 (16 * b) phases;
}

-- a state that the machine comes to by draws, publications and the steps of collects
pub data IsReached : Buffer → Type 0 where
  starts : IsReached start
  draws : (b : Buffer) → IsReached b → IsReached (after_draw b)
  publishes : (b : Buffer) (place : ℕ) (item : Item) → IsReached b → IsReached (after_publish b place item)
  closes : (b : Buffer) → IsReached b → IsReached (after_close b)
  takes : (b : Buffer) (place : ℕ) → IsReached b → IsReached (after_take b place)
  reopens : (b : Buffer) → IsReached b → IsReached (after_reopen b)
