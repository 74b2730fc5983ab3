-- What contracts see of a store, and what a crash leaves of it.
use Rattle.std.specs.Prelude.{◌≡◌, ◌≢◌, ◌⊎◌, ℕ, ◌+◌, ◌<◌, ◌≤◌, List, [], ◌∷◌, ◌++◌, length, take, drop, Option, Some, Result, Ok, IsTrue}
use Rattle.std.specs.Int.{w64, to_be_bytes}
use Rattle.rp_disk.specs.Files.{File, Only, LeavesOnly}
use Rattle.rp_store.specs.Records.{AreRecords, Gives, last_of, size_of, place_of}

-- a store: its disk, where the closed gate behind the last record stands, and where the last
-- record's payload begins
pub record Standing (D : Type 0) : Type 0 where
  pub disk : D
  pub end : ℕ
  pub place : Option ℕ

-- the file is whole records of these payloads and a closed gate, all of it on the disk
pub record IsAtRest (payloads : List (List ℕ)) (file : File) : Type 0 where
  pub front : List ℕ
  pub gate : ℕ
  pub records : AreRecords payloads front
  pub closed : gate ≢ 1
  pub whole : file.seen ≡ front ++ (gate ∷ [])
  pub durable : Only file.seen file.may_leave

-- a file with a record of this payload behind its last gate, and a closed gate behind the record
abbrev pub staged : List ℕ → List ℕ → List ℕ
staged file payload = file ++ ((to_be_bytes w64 (length payload) ++ payload) ++ (0 ∷ []))

-- a file with the gate at this place open
abbrev pub opened : ℕ → List ℕ → List ℕ
opened place file = take place file ++ (1 ∷ drop (place + 1) file)

-- what a file is once it is opened, with the closed gate at this end: what follows the gate is cut
-- off, and a file of at most one byte is the one byte 0
abbrev pub IsTrimmedTo : ℕ → List ℕ → List ℕ → Type 0
IsTrimmedTo end old new =
    ((length old ≤ 1) × (new ≡ 0 ∷ [])) ⊎ ((1 < length old) × (new ≡ take (end + 1) old))

-- the file keeps these payloads, the closed gate stands at this end, and the last payload begins at
-- this place
pub record IsKept (payloads : List (List ℕ)) (file : File) (end : ℕ) (place : Option ℕ) : Type 0 where
  pub at_rest : IsAtRest payloads file
  pub end_is : end ≡ size_of payloads
  pub place_is : place ≡ place_of payloads

-- the store keeps these payloads
abbrev pub Keeps : {D : Type 0} → (D → File) → Standing D → List (List ℕ) → Type 0
Keeps file store payloads = IsKept payloads (file store.disk) store.end store.place

-- where its disk tells, a store keeps some payloads
abbrev pub KeepsSome : {D : Type 0} → (D → File) → Standing D → Type 0
KeepsSome file store = IsTrue (file store.disk).tells → (payloads : List (List ℕ)) × Keeps file store payloads

-- a file with the payloads from before, or with the new one behind them
abbrev pub IsBeforeOrAfter : List (List ℕ) → List ℕ → List ℕ → Type 0
IsBeforeOrAfter payloads new c = Gives c (Ok payloads) ⊎ Gives c (Ok (payloads ++ (new ∷ [])))

-- A crash at any moment of a save leaves the payloads from before, or the new one behind them.
abbrev pub SavesOrNot : {D : Type 0} → (D → File) → Standing D → List ℕ → D → Type 0
SavesOrNot file old new disk = IsTrue (file disk).tells → (payloads : List (List ℕ)) × Keeps file old payloads
    × IsTrue (file old.disk).tells × LeavesOnly (file old.disk) (file disk) (IsBeforeOrAfter payloads new)

-- whatever a crash leaves of the file, this is the last payload of it
abbrev pub LeavesLast : List ℕ → File → Type 0
LeavesLast payload file = (c : List ℕ) → file.may_leave c
    → (payloads : List (List ℕ)) × Gives c (Ok payloads) × (last_of payloads ≡ Some payload)

-- what a file gives, another gives too
abbrev pub GivesAlike : List ℕ → List ℕ → Type 0
GivesAlike old new = (answer : Result (List (List ℕ)) ℕ) → Gives old answer → Gives new answer

-- it gives what some file gives that a crash may have left
abbrev pub GivesAsLeft : File → List ℕ → Type 0
GivesAsLeft file c = (d : List ℕ) × file.may_leave d × GivesAlike d c

-- A crash at any moment of an opening leaves a file that gives what some file gives that a crash
-- might have left as it began.
abbrev pub OpensAlike : File → File → Type 0
OpensAlike old new = IsTrue new.tells → IsTrue old.tells × LeavesOnly old new (GivesAsLeft old)

-- a file that gives payloads, and is not damaged
abbrev pub IsWhole : List ℕ → Type 0
IsWhole c = (payloads : List (List ℕ)) × Gives c (Ok payloads)

-- each file that a crash may leave is so
abbrev pub IsSound : File → Type 0
IsSound file = (c : List ℕ) → file.may_leave c → IsWhole c

-- where that is so as calls begin, it is so at each moment of them and behind them
abbrev pub StaysSound : File → File → Type 0
StaysSound old new = IsTrue new.tells → IsSound old → LeavesOnly old new IsWhole × IsSound new
