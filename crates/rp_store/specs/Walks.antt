-- What the parts of an opening and of a save find in a file, what they leave of it, and what their
-- errors say.
use Rattle.std.specs.Prelude.{◌≡◌, ◌≢◌, ◌⊎◌, ℕ, ◌+◌, ◌-◌, ◌<◌, ◌≤◌, List, [], ◌∷◌, ◌++◌, length, take, drop, Option, None, option_map, Result, Ok, Err, IsTrue}
use Rattle.rp_outside.specs.Devices.{Rose}
use Rattle.rp_disk.specs.Files.{File, LeavesOnly, MayBeCut}
use Rattle.rp_store.specs.Records.{IsRecord, AreRecords, IsCutShort, last_of}
use Rattle.rp_store.specs.Stores.{staged}
use Rattle.rp_store.specs.declared.heads.Head.{Head}
use Rattle.rp_store.specs.declared.heads.Head.TheVariants.{Closed, Whole, CutShort}
use Rattle.rp_store.specs.declared.troubles.Trouble.{Trouble}
use Rattle.rp_store.specs.declared.troubles.Trouble.TheVariants.{NoMemory, Disk, Damaged}

-- Calls that changed nothing of what a read gives, and added no file to those that a crash may leave.
pub record Stays (old new : File) : Type 0 where
  pub told : IsTrue old.tells
  pub seen : new.seen ≡ old.seen
  pub crash : (c : List ℕ) → new.may_leave c → old.may_leave c
  pub leaves : LeavesOnly old new old.may_leave

-- the same where the disk tells
abbrev pub IsCalm : File → File → Type 0
IsCalm old new = IsTrue new.tells → Stays old new

-- Calls at each moment of which a crash leaves only files that have P.
pub record Runs (P : List ℕ → Type 0) (old new : File) : Type 0 where
  pub told : IsTrue old.tells
  pub leaves : LeavesOnly old new P
  pub now : (c : List ℕ) → new.may_leave c → P c

-- the same where the disk tells
abbrev pub Through : (List ℕ → Type 0) → File → File → Type 0
Through P old new = IsTrue new.tells → Runs P old new

-- these bytes in front, as far as they go
abbrev pub Begins : List ℕ → List ℕ → Type 0
Begins front bytes = take (length front) bytes ≡ front

-- these bytes, but for the one at this place
abbrev pub IsButAt : ℕ → List ℕ → List ℕ → Type 0
IsButAt place old new = (byte : ℕ) × (new ≡ take place old ++ (byte ∷ drop (place + 1) old))

-- what a file may be while a record is put behind its last gate, at this end: the file with anything
-- behind it, or all of the record with any gate
abbrev pub IsAppending : ℕ → List ℕ → List ℕ → List ℕ → Type 0
IsAppending end file payload c = Begins file c ⊎ IsButAt end (staged file payload) c

-- a gate that is not open stands in front
abbrev pub BeginsClosed : List ℕ → Type 0
BeginsClosed [] = ⊥
BeginsClosed (gate ∷ behind) = gate ≢ 1

-- a whole record with a payload of this size stands in front, and a byte behind it
pub record BeginsWhole (size : ℕ) (bytes : List ℕ) : Type 0 where
  pub payload : List ℕ
  pub first : List ℕ
  pub rest : List ℕ
  pub is_record : IsRecord payload first
  pub size_is : length payload ≡ size
  pub some : 0 < length rest
  pub whole : bytes ≡ first ++ rest

-- what stands in front, as it is told
abbrev pub IsHead : List ℕ → Head → Type 0
IsHead bytes Closed = BeginsClosed bytes
IsHead bytes (Whole size) = BeginsWhole size bytes
IsHead bytes CutShort = IsCutShort bytes

-- a record that is whole ends in front of the end, with a byte behind it
abbrev pub IsWithin : Head → ℕ → Type 0
IsWithin Closed rest = Unit {0}
IsWithin (Whole size) rest = 9 + size < rest
IsWithin CutShort rest = Unit {0}

-- the last payload, where the records end here and it has this size
abbrev pub payload_in : List ℕ → ℕ → Option ℕ → Option (List ℕ)
payload_in file end last = option_map (λ size. take size (drop (end - size) file)) last

-- the file has whole records up to this end, the last of them with a payload of this size
pub record HasWalked (end : ℕ) (last : Option ℕ) (file : List ℕ) : Type 0 where
  pub payloads : List (List ℕ)
  pub front : List ℕ
  pub records : AreRecords payloads front
  pub end_is : end ≡ length front
  pub whole : file ≡ front ++ drop end file
  pub last_is : payload_in file end last ≡ last_of payloads

-- what an opening looked up: the file is empty, or has walked records and a closed gate behind them
abbrev pub IsLookedUp : List ℕ → ℕ → Option ℕ → Option (List ℕ) → Type 0
IsLookedUp file end last payload =
    ((length file ≤ 1) × (end ≡ 0) × (last ≡ None) × (payload ≡ None))
    ⊎ ((1 < length file) × HasWalked end last file × BeginsClosed (drop end file) × (payload ≡ payload_in file end last))

-- what a file may be while it is trimmed behind the closed gate at this end
abbrev pub IsTrimmed : ℕ → List ℕ → List ℕ → Type 0
IsTrimmed end old new = ((length old ≤ 1) × (length new ≤ 1)) ⊎ ((1 < length old) × MayBeCut (end + 1) old new)

-- a count of faults over calls: it rose where the disk is blamed, stands still elsewhere, and never falls
abbrev pub Blames : {T : Type 0} → ℕ → ℕ → Result T Trouble → Type 0
Blames before now (Ok value) = now ≡ before
Blames before now (Err Disk) = (before ≤ now) × Rose before now
Blames before now (Err NoMemory) = now ≡ before
Blames before now (Err (Damaged place)) = now ≡ before

-- at Damaged this holds of the place
abbrev pub IfDamage : {T : Type 0} → Result T Trouble → (ℕ → Type 0) → Type 0
IfDamage (Ok value) P = Unit {0}
IfDamage (Err Disk) P = Unit {0}
IfDamage (Err NoMemory) P = Unit {0}
IfDamage (Err (Damaged place)) P = P place
