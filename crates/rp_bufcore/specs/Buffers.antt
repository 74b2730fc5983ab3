-- The machine of a proposal buffer.
use Rattle.std.specs.Prelude.{◌≡◌, ℕ, ◌+◌, Bool, true, false, ◌&&◌, if◌then◌else◌, nat_lt, List, take, map, slice_get, slice_set, slice_index_or, filter_map, Option, Some, None, Result, Ok, Err}
use Rattle.std.specs.List.{list_all}
use Rattle.std.proofs.Math.ListN.{replicate}
use Rattle.rp_base.specs.Limits.{buffer_capacity}
use Rattle.rp_base.specs.declared.items.Item.{Item}
use Rattle.rp_bufcore.specs.declared.buffers.Slot.{Slot}
use Rattle.rp_bufcore.specs.declared.buffers.Slot.TheVariants.{Free, Drawn, Published, Taken}
use Rattle.rp_bufcore.specs.declared.buffers.Full.{Full}
use Rattle.rp_bufcore.specs.declared.buffers.NotDrawn.{NotDrawn}

-- whether places can be drawn, how many are drawn, and the places
pub record Buffer : Type 0 where
  pub is_open : Bool
  pub drawn : ℕ
  pub slots : List Slot

-- at first it is open, and each place is free
abbrev pub start : Buffer
start = record { is_open = true; drawn = 0; slots = replicate buffer_capacity Free }

-- there is a place to draw
abbrev pub can_draw : Buffer → Bool
can_draw b = b.is_open && nat_lt b.drawn buffer_capacity

-- the place that a draw gives: the next one
abbrev pub draw_answer : Buffer → Result ℕ Full
draw_answer b = if can_draw b then Ok b.drawn else Err (record { count = buffer_capacity })

-- a draw makes the next place drawn
abbrev pub after_draw : Buffer → Buffer
after_draw b =
    if can_draw b
    then record {
      is_open = b.is_open;
      drawn = b.drawn + 1;
      slots = slice_set b.slots b.drawn Drawn;
    }
    else b

-- the place is drawn, and nothing is published there
abbrev pub is_drawn : Option Slot → Bool
is_drawn None = false
is_drawn (Some Free) = false
is_drawn (Some Drawn) = true
is_drawn (Some (Published item)) = false
is_drawn (Some Taken) = false

-- an item is published at a drawn place
abbrev pub publish_answer : Buffer → ℕ → Result (Unit {0}) NotDrawn
publish_answer b place =
    if is_drawn (slice_get b.slots place) then Ok tt else Err (record { place = place })

-- there it stands from then on
abbrev pub after_publish : Buffer → ℕ → Item → Buffer
after_publish b place item =
    if is_drawn (slice_get b.slots place)
    then record {
      is_open = b.is_open;
      drawn = b.drawn;
      slots = slice_set b.slots place (Published item);
    }
    else b

-- the item that is published at a place
abbrev pub published : Slot → Option Item
published Free = None
published Drawn = None
published (Published item) = Some item
published Taken = None

-- what a collect gives: the published items, in the order of their places
abbrev pub given : Buffer → List Item
given b = filter_map published b.slots

-- a collect takes what is published at a place
abbrev pub taken : Slot → Slot
taken Free = Free
taken Drawn = Drawn
taken (Published item) = Taken
taken Taken = Taken

abbrev pub is_taken : Slot → Bool
is_taken Free = false
is_taken Drawn = false
is_taken (Published item) = false
is_taken Taken = true

-- a collect closes the buffer and takes what is published. Where all drawn places are taken then,
-- the buffer starts anew
abbrev pub after_collect : Buffer → Buffer
after_collect b =
    let slots = map taken b.slots in
    if list_all is_taken (take b.drawn slots)
    then start
    else record { is_open = false; drawn = b.drawn; slots = slots }

-- a node's buffers, one for each range, as they start
abbrev pub fresh : List Buffer
fresh = replicate 8 start

-- the buffer of a range
abbrev pub buffer_of : List Buffer → ℕ → Buffer
buffer_of buffers range = slice_index_or buffers range start

-- the buffer of a range changes, the others stay
abbrev pub with_buffer : List Buffer → ℕ → Buffer → List Buffer
with_buffer buffers range b = slice_set buffers range b

-- a collect of a range's buffer gives these items and leaves these buffers
pub record Collects
    (before : List Buffer) (range : ℕ) (items : List Item) (after : List Buffer)
    : Type 0 where
  pub items_are : items ≡ given (buffer_of before range)
  pub buffers_are : after ≡ with_buffer before range (after_collect (buffer_of before range))
