-- What is said of a range: places, what may come later, dead maxima, honest outcomes.
use Rattle.std.specs.Prelude.{◌≡◌, ℕ, ◌<◌, ◌≤◌, ◌⊎◌, List, length, take}
use Rattle.rp_base.specs.declared.ids.CmdId.{CmdId}
use Rattle.rp_request.specs.declared.commands.Command.{Command}
use Rattle.rp_request.specs.declared.outcomes.Reply.{Reply}
use Rattle.rp_request.specs.declared.items.Place.{Place}
use Rattle.rp_request.specs.Records.{applied}
use Rattle.rp_request.specs.Applied.{AppliedState, records_of, IsBlocked}
use Rattle.rp_request.specs.Onward.{IsOnward}
use Rattle.rp_rangesafe.specs.Attempts.{Body, IsOf, IsAmong, IsOpen, IsUntaken}
use Rattle.rp_rangesafe.specs.Along.{entry, Takes}
use Rattle.rp_rangesafe.specs.World.{World, IsEvaluated, state_at, here, begin, Event, Admit, Flush, Return, Refuse, Commit, Apply, Snapshot, Remove, Restart, AllLawful, run}

-- a range as it can be: lawful events lead to it from its start
pub record IsReached (w : World) : Type 0 where
  pub start : AppliedState
  pub events : List Event
  pub lawful : AllLawful (begin start) events
  pub reached : run (begin start) events ≡ w

-- a range as it can become: lawful events lead from the one to the other
pub record IsLater (w later : World) : Type 0 where
  pub events : List Event
  pub lawful : AllLawful w events
  pub reached : run w events ≡ later

-- the node at which an event happens: its own, or that of its attempt; a commit happens at none
abbrev pub HappensAt : World → Event → ℕ → Type 0
HappensAt w (Admit id node body) m = m ≡ node
HappensAt w (Flush id max) m = m ≡ (w.attempt id).node
HappensAt w (Return id) m = m ≡ (w.attempt id).node
HappensAt w (Refuse id) m = m ≡ (w.attempt id).node
HappensAt w (Commit p) m = ⊥
HappensAt w (Apply node) m = m ≡ node
HappensAt w (Snapshot node to) m = m ≡ node
HappensAt w (Remove node) m = m ≡ node
HappensAt w (Restart node) m = m ≡ node

-- from the one state on to the other no number fell, one lease sequence has one holder, and the
-- range kept its number
pub record IsFurther (s t : AppliedState) : Type 0 where
  pub numbers : IsOnward s t
  pub level : s.desc.level ≤ t.desc.level
  pub id : s.desc.id ≡ t.desc.id

-- the attempt has a place: the entry with this index is a command of it, and is taken
pub record IsPlace (w : World) (id : CmdId) (k : ℕ) (c : Command) : Type 0 where
  pub within : k < length w.log
  pub takes : Takes w.start (entry w.log) k c
  pub named : c.id ≡ id

-- in these stages the attempt has no place that its node has applied; and each maximum that it ever
-- had is open, or blocked where its node stands
pub record IsDeadByStage (w : World) (id : CmdId) : Type 0 where
  pub untaken : IsUntaken (w.attempt id).stage → (k : ℕ) (c : Command)
      → k < w.index (w.attempt id).node → IsPlace w id k c → ⊥
  pub blocked : (m : ℕ) → IsAmong (w.attempt id).maxima m
      → IsOpen (w.attempt id).stage m ⊎ IsBlocked (here w (w.attempt id).node) (w.attempt id).seq m

-- a maximum of the attempt is dead for good: whatever comes, no place has it but one that its node
-- has applied
abbrev pub IsDeadForGood : World → CmdId → ℕ → Type 0
IsDeadForGood w id m = (later : World) (k : ℕ) (c : Command) → IsLater w later
    → IsPlace later id k c → c.max ≡ m → k < w.index (w.attempt id).node

-- the attempt has no place, whatever comes
abbrev pub HasNever : World → CmdId → Type 0
HasNever w id = (later : World) (k : ℕ) (c : Command) → IsLater w later → IsPlace later id k c → ⊥

-- the attempt has a place with this reply, which its node has applied
pub record IsPlacedWith (w : World) (id : CmdId) (reply : Reply) : Type 0 where
  pub index : ℕ
  pub command : Command
  pub place : IsPlace w id index command
  pub applied : index < w.index (w.attempt id).node
  pub answers : command.reply ≡ reply

-- what a command carries of its evaluation
abbrev pub body_of : Command → Body
body_of c = record { request = c.request; batch = c.batch; reply = c.reply }

-- the items of so many entries of the list
abbrev pub items_to : World → ℕ → List Place
items_to w i = applied (records_of w.start (take i w.log))

-- a place is lawful: its command is one of the attempt, which was admitted at an index at or below,
-- under the same lease sequence, whose holder admitted it; the description is that of the
-- admission; and in the state there the request lies in the bounds and is evaluated as it was
pub record IsLawfulPlace (w : World) (id : CmdId) (k : ℕ) (c : Command) : Type 0 where
  pub of : IsOf (w.attempt id) c
  pub behind : (w.attempt id).from ≤ k
  pub seq : c.seq ≡ (state_at w k).lease.seq
  pub admitted : (state_at w (w.attempt id).from).lease.seq ≡ c.seq
  pub holder : (state_at w k).lease.holder ≡ (w.attempt id).node
  pub desc : (state_at w k).desc ≡ (state_at w (w.attempt id).from).desc
  pub evaluates : IsEvaluated (state_at w k) (body_of c)
