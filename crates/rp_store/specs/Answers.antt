-- What the answers of an opening and of a save say.
use Rattle.std.specs.Prelude.{◌≡◌, ℕ, ◌≤◌, List, Option, Result, Ok, Err}
use Rattle.rp_outside.specs.Devices.{Rose}
use Rattle.rp_store.specs.Stores.{Standing}
use Rattle.rp_store.specs.declared.store.OpenFault.{OpenFault}
use Rattle.rp_store.specs.declared.store.OpenFault.TheVariants.{Damaged, Disk, NoMemory}
use Rattle.rp_store.specs.declared.store.SaveFault.{SaveFault}
use Rattle.rp_store.specs.declared.store.SaveFault.TheVariants.{Full, Disk as DiskOf}

-- what an opening answers, and what a save does
abbrev pub OpenAnswer : Type 0 → Type 0
OpenAnswer D = Result (Standing D × Option (List ℕ)) (OpenFault D)

abbrev pub SaveAnswer : Type 0 → Type 0
SaveAnswer D = Result (Standing D) (SaveFault D)

-- the disk that they hand back
abbrev pub open_disk : {D : Type 0} → OpenAnswer D → D
open_disk (Ok opened) = opened.0.disk
open_disk (Err (Damaged disk place)) = disk
open_disk (Err (Disk disk)) = disk
open_disk (Err (NoMemory disk)) = disk

abbrev pub save_disk : {D : Type 0} → SaveAnswer D → D
save_disk (Ok store) = store.disk
save_disk (Err (Full store needed)) = store.disk
save_disk (Err (DiskOf disk)) = disk

-- at Damaged this holds of the disk and the place
abbrev pub IfDamaged : {D : Type 0} → OpenAnswer D → (D → ℕ → Type 0) → Type 0
IfDamaged (Ok opened) P = Unit {0}
IfDamaged (Err (Damaged disk place)) P = P disk place
IfDamaged (Err (Disk disk)) P = Unit {0}
IfDamaged (Err (NoMemory disk)) P = Unit {0}

-- at Full the first holds of the store and the bytes needed, and at every other answer the second
abbrev pub MatchFull : {D : Type 0} → SaveAnswer D → (Standing D → ℕ → Type 0) → Type 0 → Type 0
MatchFull (Ok store) P Q = Q
MatchFull (Err (Full store needed)) P Q = P store needed
MatchFull (Err (DiskOf disk)) P Q = Q

-- The count of faults rose where the answer blames the disk, and stands still elsewhere. It never falls.
abbrev pub OpenBlames : {D : Type 0} → (D → ℕ) → D → OpenAnswer D → Type 0
OpenBlames faults old (Ok opened) = faults opened.0.disk ≡ faults old
OpenBlames faults old (Err (Damaged disk place)) = faults disk ≡ faults old
OpenBlames faults old (Err (Disk disk)) = (faults old ≤ faults disk) × Rose (faults old) (faults disk)
OpenBlames faults old (Err (NoMemory disk)) = faults disk ≡ faults old

abbrev pub SaveBlames : {D : Type 0} → (D → ℕ) → D → SaveAnswer D → Type 0
SaveBlames faults old (Ok store) = faults store.disk ≡ faults old
SaveBlames faults old (Err (Full store needed)) = faults store.disk ≡ faults old
SaveBlames faults old (Err (DiskOf disk)) = (faults old ≤ faults disk) × Rose (faults old) (faults disk)
