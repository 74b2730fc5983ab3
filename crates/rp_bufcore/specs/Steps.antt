-- The steps of which a collect is made. Between two of them others may draw and publish.
use Rattle.std.specs.Prelude.{◌≡◌, ℕ, zero, suc, false, if◌then◌else◌, List, [], ◌++◌, length, take, slice_set, slice_index_or, Option}
use Rattle.std.specs.List.{list_all}
use Rattle.std.specs.Option.{option_to_list}
use Rattle.rp_base.specs.Limits.{buffer_capacity}
use Rattle.rp_base.specs.declared.items.Item.{Item}
use Rattle.rp_bufcore.specs.declared.buffers.Slot.TheVariants.{Free}
use Rattle.rp_bufcore.specs.Buffers.{Buffer, start, published, given, taken, is_taken, after_collect}

-- a closed buffer gives no place to draw
abbrev pub after_close : Buffer → Buffer
after_close b = record { is_open = false; drawn = b.drawn; slots = b.slots }

-- what is published at a place is had
abbrev pub take_answer : Buffer → ℕ → Option Item
take_answer b place = published (slice_index_or b.slots place Free)

-- and taken
abbrev pub after_take : Buffer → ℕ → Buffer
after_take b place = record {
  is_open = b.is_open;
  drawn = b.drawn;
  slots = slice_set b.slots place (taken (slice_index_or b.slots place Free));
}

-- where each drawn place is taken the buffer starts anew
abbrev pub after_reopen : Buffer → Buffer
after_reopen b = if list_all is_taken (take b.drawn b.slots) then start else b

-- the first n places are taken, one after the other
abbrev pub after_takes : ℕ → Buffer → Buffer
after_takes zero b = b
after_takes (suc n) b = after_take (after_takes n b) n

-- the items that are had so, in their order
abbrev pub had_by_takes : ℕ → Buffer → List Item
had_by_takes zero b = []
had_by_takes (suc n) b = had_by_takes n b ++ option_to_list (take_answer (after_takes n b) n)

-- a collect is a close, then a taking of each place in order, then a reopening
abbrev pub CollectIsSteps : Type 0
CollectIsSteps = (b : Buffer) → length b.slots ≡ buffer_capacity
    → (after_collect b ≡ after_reopen (after_takes buffer_capacity (after_close b)))
    × (given b ≡ had_by_takes buffer_capacity (after_close b))
