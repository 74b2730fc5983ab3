-- What contracts see of the disks in memory, and what a call does to them.
use Rattle.std.specs.Prelude.{◌≡◌, ℕ, Bool, true, ◌&&◌, ◌||◌, not, IsTrue, List, ◌∷◌, if◌then◌else◌}
use Rattle.rp_outside.specs.Forms.{Troubles, fails_next, after_call}
use Rattle.rp_disk.specs.Files.{File}
use Rattle.rp_disk.specs.Histories.{Call, Past, has_room, KeepsRoom, file_after}

-- a disk without faults: whether it tells of its file, and its calls
pub record Sound : Type 0 where
  pub tells : Bool
  pub past : Past

-- A call that may write so many bytes: kept where there is room for it, else the disk tells nothing
-- from then on.
pub record Keeps (call : Call) (bytes : ℕ) (old new : Sound) : Type 0 where
  pub tells : new.tells ≡ (old.tells && has_room old.past bytes)
  pub calls : IsTrue new.tells → new.past.calls ≡ call ∷ old.past.calls
  pub room : KeepsRoom bytes old.past new.past

-- a disk of which some calls fail: its calls, and its troubles
pub record Failing : Type 0 where
  pub past : Past
  pub troubles : Troubles

-- a call that may write so many bytes fails by its number, and where there is no room for it
abbrev pub fails_now : Failing → ℕ → Bool
fails_now disk bytes = fails_next disk.troubles || not (has_room disk.past bytes)

-- Such a call, kept with whether it was done, where there is room for it, and counted.
pub record Counts (call : Bool → Call) (bytes : ℕ) (ok : Bool) (old new : Failing) : Type 0 where
  pub done : ok ≡ not (fails_now old bytes)
  pub calls : new.past.calls ≡ (if has_room old.past bytes then call ok ∷ old.past.calls else old.past.calls)
  pub room : KeepsRoom bytes old.past new.past
  pub troubles : new.troubles ≡ after_call old.troubles (not ok)

-- what they tell of their files
abbrev pub sound_file : Sound → File
sound_file disk = file_after disk.tells disk.past.calls

abbrev pub failing_file : Failing → File
failing_file disk = file_after true disk.past.calls
