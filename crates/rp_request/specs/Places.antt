-- Places of a command: the applied items that name it, by client and by the command's number among
-- the client's, whichever attempt they name.
use Rattle.std.specs.Prelude.{◌≡◌, ℕ, ◌≤◌, Bool, false, ◌==◌, ◌&&◌, List, count_by, IsTrue, Some, slice_get}
use Rattle.rp_base.specs.declared.ids.CmdId.{CmdId}
use Rattle.rp_request.specs.declared.items.Place.{Place}
use Rattle.rp_request.specs.declared.items.Place.TheVariants.{Write, Split, Lease}

-- whether the attempt is one of this command
abbrev pub is_of : ℕ → ℕ → CmdId → Bool
is_of client seq id = id.client == client && id.seq == seq

-- whether the item names this command
abbrev pub names : ℕ → ℕ → Place → Bool
names client seq (Write id request lease_seq reply) = is_of client seq id
names client seq (Split id key right lease_seq) = is_of client seq id
names client seq (Lease lease) = false

-- how many items of a list name the command
abbrev pub places_of : ℕ → ℕ → List Place → ℕ
places_of client seq items = count_by (names client seq) items

-- each command has at most one place in the list
abbrev pub IsOnce : List Place → Type 0
IsOnce items = (client seq : ℕ) → places_of client seq items ≤ 1

-- the command has a place in this range's list, at this index
pub record IsPlaceOf (lists : ℕ → List Place) (client seq range index : ℕ) : Type 0 where
  pub item : Place
  pub here : slice_get (lists range) index ≡ Some item
  pub named : IsTrue (names client seq item)

-- each command has at most one place over the lists of all ranges
abbrev pub IsOnceInAll : (ℕ → List Place) → Type 0
IsOnceInAll lists = (client seq range index range' index' : ℕ) → IsPlaceOf lists client seq range index
    → IsPlaceOf lists client seq range' index' → (range ≡ range') × (index ≡ index')
