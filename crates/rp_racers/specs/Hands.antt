-- What is handed out to the threads of a race, and what comes back (this project).
use Rattle.std.specs.Prelude.{◌≡◌, ℕ, ◌+◌, ◌-◌, ◌≤◌, ◌<◌}
use Rattle.rp_bufcore.specs.declared.ends.BufferEnd.{Ghosts}
use Rattle.rp_buffer.specs.Passes as passes
use Rattle.rp_quota.specs.Shares as shares
use Rattle.rp_switch.specs.Rules.{clients_of}
use Rattle.rp_switch.specs.Seats.{terms_of, known_by, IsSeatOf}
use Rattle.rp_switch.specs.Views.{Idle}
use Rattle.rp_events.specs.Worlds.{first_world}
use Rattle.rp_serving.specs.Playing.{HandsWithin}
use Rattle.rp_bench.specs.declared.rights.WorkerRights.{WorkerRights}
use Rattle.rp_bench.specs.declared.rights.WorkerBack.{WorkerBack}
use Rattle.rp_bench.specs.Worked.{MayServe, IsWorked}
use Rattle.rp_desks.specs.declared.rights.Shared.{Shared}
use Rattle.rp_desks.specs.declared.rights.Rights.{Rights}
use Rattle.rp_desks.specs.Onward.{IsOnward}
use Rattle.rp_racers.specs.declared.backs.Back.{Back}
use Rattle.rp_racers.specs.Raced.{AreFew, IsUntried, AreUntried, AreUnserved, EndsWell, EndWell, IsWhole, HaveRun}

module _ {E : Type 0} {g : Ghosts E} where
  -- the rights are rights at these tables, and the seat has no node
  abbrev pub AreAt : Shared E → Rights E g → Type 0
  AreAt s r =
      IsSeatOf s.switch.now r.seat × ((known_by r.seat).stage ≡ Idle)
      × passes.IsPassOf s.buffers.now r.pass × shares.IsShareOf s.quota.now r.share

  -- seat, pass and share have at least so many parts
  abbrev pub HaveParts : ℕ → Rights E g → Type 0
  HaveParts n r =
      (n ≤ (known_by r.seat).parts) × (n ≤ (passes.known_by r.pass).parts) × (n ≤ (shares.known_by r.share).parts)

  -- pass and share have as many parts, and the share as many units
  abbrev pub AreKept : Rights E g → Rights E g → Type 0
  AreKept old new =
      ((passes.known_by new.pass).parts ≡ (passes.known_by old.pass).parts)
      × ((shares.known_by new.share).parts ≡ (shares.known_by old.share).parts)
      × ((shares.known_by new.share).units ≡ (shares.known_by old.share).units)

  -- a client may run with these rights; the board has so many clients
  abbrev pub MayRun : Shared E → (board : ℕ) → Rights E g → (client : ℕ) → Type 0
  MayRun s board r client =
      (board ≡ clients_of (terms_of s.switch.now)) × (1 ≤ client) × (client ≤ clients_of (terms_of s.switch.now))
      × AreFew (terms_of s.switch.now).rules × AreAt s r × IsUntried client (known_by r.seat)

  -- it has run
  abbrev pub HasRun : Shared E → Rights E g → (client : ℕ) → Back E g → Type 0
  HasRun s r client b =
      AreAt s b.rights × IsOnward client (known_by r.seat) (known_by b.rights.seat)
      × EndsWell client b.is_short (known_by b.rights.seat) × AreKept r b.rights

  -- all clients from this one on may run with these rights
  abbrev pub MayAllRun : Shared E → (board : ℕ) → Rights E g → (from : ℕ) → Type 0
  MayAllRun s board r from =
      (board ≡ clients_of (terms_of s.switch.now)) × (clients_of (terms_of s.switch.now) ≤ 64)
      × (1 ≤ from) × (from ≤ clients_of (terms_of s.switch.now) + 1) × AreFew (terms_of s.switch.now).rules
      × AreAt s r × AreUntried from (known_by r.seat)
      × HaveParts (clients_of (terms_of s.switch.now) + 2 - from) r

  -- they have run
  abbrev pub AllHaveRun : Shared E → Rights E g → (from : ℕ) → Back E g → Type 0
  AllHaveRun s r from b =
      AreAt s b.rights × HaveRun from (known_by r.seat) (known_by b.rights.seat)
      × EndWell from b.is_short (known_by b.rights.seat) × AreKept r b.rights

  -- a worker may serve by these rights
  abbrev pub MayWork : Shared E → (board : ℕ) → WorkerRights E g → (worker workers : ℕ) → Type 0
  MayWork s board r worker workers =
      (worker < workers) × (workers ≤ 8) × (board ≡ clients_of (terms_of s.switch.now))
      × HandsWithin (terms_of s.switch.now).nodes (terms_of s.switch.now).rules
      × IsSeatOf s.switch.now r.seat × ((known_by r.seat).stage ≡ Idle)
      × ((known_by r.seat).seen ≡ first_world (terms_of s.switch.now).nodes)
      × MayServe (known_by r.seat) worker workers × passes.IsPassOf s.buffers.now r.pass

  -- it has served
  abbrev pub HasWorked : Shared E → WorkerRights E g → WorkerBack E g → Type 0
  HasWorked s r b =
      IsSeatOf s.switch.now b.rights.seat × IsWorked (known_by r.seat) (known_by b.rights.seat)
      × passes.IsPassOf s.buffers.now b.rights.pass
      × ((passes.known_by b.rights.pass).parts ≡ (passes.known_by r.pass).parts)

  -- all workers from this one on and all clients may go to work by these rights
  abbrev pub MayAllWork : Shared E → (board : ℕ) → Rights E g → (from workers : ℕ) → Type 0
  MayAllWork s board r from workers =
      (board ≡ clients_of (terms_of s.switch.now)) × (clients_of (terms_of s.switch.now) ≤ 64)
      × (from ≤ workers) × (workers ≤ 8)
      × AreFew (terms_of s.switch.now).rules
      × HandsWithin (terms_of s.switch.now).nodes (terms_of s.switch.now).rules
      × AreAt s r × ((known_by r.seat).seen ≡ first_world (terms_of s.switch.now).nodes)
      × AreUntried 1 (known_by r.seat) × AreUnserved from workers (known_by r.seat)
      × (clients_of (terms_of s.switch.now) + workers < (known_by r.seat).parts + from)
      × (clients_of (terms_of s.switch.now) + workers < (passes.known_by r.pass).parts + from)
      × (clients_of (terms_of s.switch.now) < (shares.known_by r.share).parts)

  -- and they have
  abbrev pub AllHaveWorked : Shared E → Rights E g → Back E g → Type 0
  AllHaveWorked s r b =
      AreAt s b.rights × IsWhole (known_by r.seat) (known_by b.rights.seat)
      × EndWell 1 b.is_short (known_by b.rights.seat) × AreKept r b.rights
