-- A file in memory: what its calls made of it, and what a crash may leave. Calls stand with the last
-- one first.
use Rattle.std.specs.Prelude.{◌≡◌, ◌⊎◌, ℕ, ◌+◌, ◌≤◌, nat_le, Bool, true, false, not, ◌&&◌, List, [], ◌∷◌, length, take, drop, reverse}
use Rattle.rp_disk.specs.Files.{File, Torn, MayBeCut, put}
use Rattle.rp_disk.specs.declared.calls.DiskCall.{DiskCall}
use Rattle.rp_disk.specs.declared.calls.CallKind.{CallKind}
use Rattle.rp_disk.specs.declared.calls.CallKind.TheVariants.{Len, Read, Write, Cut, Sync}

-- a call, with the bytes of a write, and whether it was done or failed
pub data Call : Type 0 where
  asked : Call
  wrote : (at : ℕ) (bytes : List ℕ) (done : Bool) → Call
  cuts : (to : ℕ) (done : Bool) → Call
  synced : (done : Bool) → Call

-- what a read gives after these calls
abbrev pub read_after : List Call → List ℕ
read_after [] = []
read_after (wrote at bytes true ∷ earlier) = put at bytes (read_after earlier)
read_after (wrote at bytes false ∷ earlier) = read_after earlier
read_after (cuts to true ∷ earlier) = take to (read_after earlier)
read_after (cuts to false ∷ earlier) = read_after earlier
read_after (synced done ∷ earlier) = read_after earlier
read_after (asked ∷ earlier) = read_after earlier

-- whether a crash after these calls may leave these bytes
abbrev pub left_after : List Call → List ℕ → Type 0
left_after [] c = c ≡ []
left_after (wrote at bytes done ∷ earlier) c =
    (c ≡ read_after (wrote at bytes done ∷ earlier)) ⊎ ((d : List ℕ) × left_after earlier d × Torn at (length bytes) d c)
left_after (cuts to done ∷ earlier) c = (d : List ℕ) × left_after earlier d × MayBeCut to d c
left_after (synced true ∷ earlier) c = c ≡ read_after earlier
left_after (synced false ∷ earlier) c = left_after earlier c
left_after (asked ∷ earlier) c = left_after earlier c

-- whether a crash since so many calls might have left these bytes
abbrev pub left_since : List Call → ℕ → List ℕ → Type 0
left_since [] t c = c ≡ []
left_since (call ∷ earlier) t c = left_after (call ∷ earlier) c ⊎ ((t ≤ length earlier) × left_since earlier t c)

-- the file after these calls, where they are told
abbrev pub file_after : Bool → List Call → File
file_after told calls =
    record { tells = told; seen = read_after calls; may_leave = left_after calls; moment = length calls; left_since = left_since calls }

-- how many bytes of the record of written bytes are a call's
abbrev pub size_of : CallKind → ℕ
size_of (Write at len) = len
size_of kind = 0

-- a call of the record, where the bytes written stand with the last one first from its own on
abbrev pub told_call : CallKind → Bool → List ℕ → Call
told_call Len failed written = asked
told_call (Read at len) failed written = asked
told_call (Write at len) failed written = wrote at (reverse (take len written)) (not failed)
told_call (Cut to) failed written = cuts to (not failed)
told_call Sync failed written = synced (not failed)

-- the calls of the record, both with the last one first
abbrev pub told_calls : List DiskCall → List ℕ → List Call
told_calls [] written = []
told_calls (call ∷ earlier) written =
    told_call call.kind call.failed written ∷ told_calls earlier (drop (size_of call.kind) written)

-- What a disk in memory shows: the calls so far, the last one first, how many calls more can be kept without memory, and how many
-- bytes more that they write
pub record Past : Type 0 where
  pub calls : List Call
  pub call_room : ℕ
  pub byte_room : ℕ

-- there is room for one call more, with so many written bytes
abbrev pub has_room : Past → ℕ → Bool
has_room past bytes = nat_le 1 past.call_room && nat_le bytes past.byte_room

-- the room after a call that may write so many bytes
pub record KeepsRoom (bytes : ℕ) (old new : Past) : Type 0 where
  pub call_room : old.call_room ≤ new.call_room + 1
  pub byte_room : old.byte_room ≤ new.byte_room + bytes
