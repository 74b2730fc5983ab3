-- What a closed table leaves (this project).
use Rattle.std.specs.Prelude.{◌≡◌, ℕ, zero, suc, ◌+◌, ◌/◌, ◌==◌, Bool, if◌then◌else◌, List, [], ◌∷◌, ◌++◌, map, count_by, slice_index, slice_index_or, Option, Some, None}
use Rattle.rp_base.specs.declared.items.Item.{Item}
use Rattle.rp_buffer.specs.declared.lefts.LeftItem.{LeftItem}
use Rattle.rp_buffer.specs.declared.rule.Hand.{Hand}
use Rattle.rp_buffer.specs.Hands.{Put}

-- what lies in a slot, at a place of a buffer
abbrev pub lies_there : ℕ → Option Item → List LeftItem
lies_there k None = []
lies_there k (Some x) = record { buffer = k / 16; item = x } ∷ []

-- it is left where the place's word is 1
abbrev pub found_at : ℕ → ℕ → Option Item → List LeftItem
found_at k word item = if word == 1 then lies_there k item else []

-- what is left at the first places
unfoldable pub lying : ℕ → List ℕ → List (Option Item) → List LeftItem
lying zero words slots = []
lying (suc k) words slots = lying k words slots ++ found_at k (slice_index words (40 + k)) (slice_index_or slots k None)

abbrev pub pair_of : LeftItem → Put
pair_of l = (l.buffer, l.item)

-- of the pairs of buffer and item that pass a test, as many were put as were taken and are left
abbrev pub PutIsTakenOrLeft : Hand → List LeftItem → Type 0
PutIsTakenOrLeft v left = (test : Put → Bool)
    → count_by test v.put ≡ count_by test v.taken + count_by test (map pair_of left)
