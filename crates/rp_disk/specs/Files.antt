-- What a disk tells of its file, what its calls do to that, and what a crash may leave.
use Rattle.std.specs.Prelude.{◌≡◌, ◌⊎◌, ℕ, ◌+◌, ◌<◌, ◌≤◌, max, Bool, false, IsTrue, List, [], ◌++◌, length, take, drop}

-- What a disk tells of its file. Where it tells nothing, the rest means nothing.
pub record File : Type 1 where
  pub tells : Bool
  -- what a read gives
  pub seen : List ℕ
  -- whether a crash now may leave these bytes
  pub may_leave : List ℕ → Type 0
  -- a number for this moment, which never falls
  pub moment : ℕ
  -- whether a crash at some moment from that one on might have left these bytes
  pub left_since : ℕ → List ℕ → Type 0

-- what holds of each file that is told: as it reads it is one of those that a crash may leave, and
-- of the moments from now on there is just this one
pub record IsTold (file : File) : Type 0 where
  pub as_seen : file.may_leave file.seen
  pub counts_now : (t : ℕ) (c : List ℕ) → t ≤ file.moment → file.may_leave c → file.left_since t c
  pub only_now : (c : List ℕ) → file.left_since file.moment c → file.may_leave c

-- a disk that tells nothing
abbrev pub untold : File
untold = record { tells = false; seen = []; may_leave = λ c. Unit {0}; moment = 0; left_since = λ t c. Unit {0} }

-- these bytes over what stands at this place, and past the end
abbrev pub put : ℕ → List ℕ → List ℕ → List ℕ
put at bytes file = take at file ++ bytes ++ drop (at + length bytes) file

-- A write of so many bytes at this place that was not synced: any bytes in the range and past the old
-- end, the same elsewhere.
pub record Torn (at size : ℕ) (old new : List ℕ) : Type 0 where
  pub before : take at new ≡ take at old
  pub behind : drop (at + size) new ≡ drop (at + size) old
  pub no_shorter : length old ≤ length new
  pub no_longer : length new ≤ max (length old) (at + size)

-- a cut to this length that was not synced: it is there or not
abbrev pub MayBeCut : ℕ → List ℕ → List ℕ → Type 0
MayBeCut to old new = (new ≡ old) ⊎ (new ≡ take to old)

-- a file that a crash left before, and nothing else
abbrev pub Same : List ℕ → List ℕ → Type 0
Same old new = new ≡ old

-- a crash leaves this and nothing else
abbrev pub Only : List ℕ → (List ℕ → Type 0) → Type 0
Only bytes may_leave = (c : List ℕ) → may_leave c → c ≡ bytes

-- Time goes on: a crash since some moment might have left what it might have left before, or what it
-- may leave now.
pub record Elapses (old new : File) : Type 0 where
  pub later : old.moment ≤ new.moment
  pub nothing_else : (t : ℕ) (c : List ℕ) → t ≤ old.moment → new.left_since t c → old.left_since t c ⊎ new.may_leave c
  pub keeps : (t : ℕ) (c : List ℕ) → t ≤ old.moment → old.left_since t c → new.left_since t c

-- A call after which the disk tells: it told before, each file that a crash may leave now is one that
-- it might leave before, after this step, and time goes on.
pub record Changed (step : List ℕ → List ℕ → Type 0) (old new : File) : Type 0 where
  pub told : IsTrue old.tells
  pub crash : (c : List ℕ) → new.may_leave c → (d : List ℕ) × old.may_leave d × step d c
  pub time : Elapses old new

-- the same where it tells
abbrev pub Changes : (List ℕ → List ℕ → Type 0) → File → File → Type 0
Changes step old new = IsTrue new.tells → Changed step old new

-- nothing of what a read gives changes, where it tells
abbrev pub SeenStays : File → File → Type 0
SeenStays old new = IsTrue new.tells → new.seen ≡ old.seen

-- these bytes of the file came in the front of a buffer: some where it is not empty and the file has
-- some from that place on
pub record Reads (file : List ℕ) (at n : ℕ) (buffer : List ℕ) : Type 0 where
  pub within : n ≤ length (drop at file)
  pub some : at < length file → 0 < length buffer → 0 < n
  pub given : take n buffer ≡ take n (drop at file)

-- Each file that a crash at some moment since old might have left has P.
pub record LeavesOnly (old new : File) (P : List ℕ → Type 0) : Type 0 where
  pub later : old.moment ≤ new.moment
  pub each : (c : List ℕ) → new.left_since old.moment c → P c
  -- for what began earlier
  pub before : (t : ℕ) (c : List ℕ) → t ≤ old.moment → new.left_since t c → old.left_since t c ⊎ P c
