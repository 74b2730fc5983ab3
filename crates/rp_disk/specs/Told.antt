-- A file in memory is one: as it reads it is one of those that a crash may leave, and of the moments
-- from now on there is just this one.
use Rattle.std.specs.Prelude.{◌≡◌, ℕ, ◌+◌, ◌≤◌, Bool, true, false, IsTrue, List, [], ◌∷◌, length, refl}
use Rattle.std.proofs.Common.{inl, inr, arith}
use Rattle.rp_disk.specs.Files.{IsTold, Torn, untold}
use Rattle.rp_disk.specs.Histories.{Call, asked, wrote, cuts, synced, read_after, left_after, left_since, file_after}

-- a write that was not done left all as it was
pub torn_same : (at size : ℕ) (bytes : List ℕ) → Torn at size bytes bytes
torn_same at size bytes = record { before = refl; behind = refl; no_shorter = omega arith; no_longer = omega arith }

as_seen : (calls : List Call) → left_after calls (read_after calls)
as_seen [] = refl
as_seen (wrote at bytes true ∷ earlier) = inl refl
as_seen (wrote at bytes false ∷ earlier) =
    inl refl
as_seen (cuts to true ∷ earlier) = (read_after earlier, as_seen earlier, inr refl)
as_seen (cuts to false ∷ earlier) = (read_after earlier, as_seen earlier, inl refl)
as_seen (synced true ∷ earlier) = refl
as_seen (synced false ∷ earlier) = as_seen earlier
as_seen (asked ∷ earlier) = as_seen earlier

counts_now : (calls : List Call) (t : ℕ) (c : List ℕ) → left_after calls c → left_since calls t c
counts_now [] t c left = left
counts_now (call ∷ earlier) t c left = inl left

only_now : (calls : List Call) (c : List ℕ) → left_since calls (length calls) c → left_after calls c
only_now [] c left = left
only_now (call ∷ earlier) c (inl now) = now
only_now (call ∷ earlier) c (inr before) = absurd (omega (arith, before.0))

pub told_after : (told : Bool) (calls : List Call) → IsTold (file_after told calls)
told_after told calls = record {
  as_seen = as_seen calls;
  counts_now = λ t c le left. counts_now calls t c left;
  only_now = λ c left. only_now calls c left;
}

-- a disk that tells nothing makes no claim
pub untold_is_told : IsTrue untold.tells → IsTold untold
untold_is_told told = absurd (cc told)
