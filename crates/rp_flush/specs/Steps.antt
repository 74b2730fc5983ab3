-- One item of an inbox after the other, beside the commands that still wait.
use Rattle.std.specs.Prelude.{ℕ, Bool, false, ◌==◌, [], ◌∷◌, ◌++◌, Option, None, Some, if◌then◌else◌}
use Rattle.rp_base.specs.Ids.{same_id}
use Rattle.rp_base.specs.declared.ids.CmdId.{CmdId}
use Rattle.rp_base.specs.declared.items.Item.{Item}
use Rattle.rp_base.specs.declared.items.Item.TheVariants.{Write, Lease}
use Rattle.rp_flush.specs.declared.assigns.Assigned.{Assigned}
use Rattle.rp_flush.specs.Assigns.{next_index}

-- whether the item is this command's
abbrev pub is_write_of : CmdId → Item → Bool
is_write_of id (Write other) = same_id other id
is_write_of id (Lease ask) = false

-- with a command that waits under this sequence, another one, or none
abbrev pub settled : Assigned → CmdId → (seq lai : ℕ) → Option ℕ → Assigned
settled a id seq lai None = a
settled a id seq lai (Some own) =
    if own == seq
    then record a {
      writes = a.writes ++ (id, next_index lai a.last) ∷ [];
      last = next_index lai a.last;
    }
    else record a { refused = a.refused ++ id ∷ [] }

-- with an item more
abbrev pub with_item : Assigned → (CmdId → Option ℕ) → (seq lai : ℕ) → Item → Assigned
with_item a waits seq lai (Write id) = settled a id seq lai (waits id)
with_item a waits seq lai (Lease ask) = record a { leases = a.leases ++ ask ∷ [] }
