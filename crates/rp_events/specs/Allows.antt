-- Which events may be planned at a replica.
use Rattle.std.specs.Prelude.{◌≡◌, ℕ, ◌+◌, ◌-◌, ◌<◌, ◌≤◌, ◌^◌, max, length, Option, None, Some}
use Rattle.rp_raftlog.specs.LogState.{last_index}
use Rattle.rp_raftlog.specs.declared.entries.Entry.{Entry}
use Rattle.rp_raftstep.specs.declared.messages.Message.{Message}
use Rattle.rp_raftstep.specs.Conditions.{CanRise, MessageFits}
use Rattle.rp_raftstep.specs.Step.{Draft, quiet, tick, received}
use Rattle.rp_request.specs.Applied.{AppliedState}
use Rattle.rp_request.specs.Applicable.{Fits}
use Rattle.rp_request.specs.declared.commands.Payload.{Payload}
use Rattle.rp_pending.specs.Proposals.{proposal_of}
use Rattle.rp_events.specs.declared.replica_events.ReplicaEvent.{ReplicaEvent}
use Rattle.rp_events.specs.declared.replica_events.ReplicaEvent.TheVariants.{Admit, Ask, Transfer, Collect, Flush, Tick, Deliver, Apply, Cut, Remove, Peek, Restart}
use Rattle.rp_events.specs.Applications.{next_entry, payload_of}
use Rattle.rp_events.specs.LeaseAsks.{lease_ticks}
use Rattle.rp_events.specs.Replicas.{Replica}

-- the numbers of a flush stay below their ends: its lease indexes, and the indexes of its entries
pub record MayFlush (r : Replica) : Type 0 where
  pub assigned : max r.assigned r.applied.state.lai + length r.inbox < 2 ^ 64
  pub rise : CanRise r.raft
  pub last : last_index r.raft.log + length r.inbox < 2 ^ 64

-- an event of Raft may be planned, and all that is pending can stand behind the log that it leaves
pub record MayRefresh (r : Replica) (draft : Draft AppliedState) : Type 0 where
  pub rise : CanRise r.raft
  pub last : last_index draft.state.log + length r.pending < 2 ^ 64

-- the same of a message, whose indexes stay below their ends
pub record MayDeliver (r : Replica) (from : ℕ) (message : Message AppliedState) : Type 0 where
  pub refresh : MayRefresh r (received r.raft from message)
  pub fits : MessageFits message

-- the entry carries a payload that may be applied
pub record MayApplyThis (r : Replica) (e : Entry) : Type 0 where
  pub payload : Payload
  pub carries : payload_of (Some e) ≡ Some payload
  pub split : Fits r.applied.state payload

abbrev pub MayApplyNext : Replica → Option Entry → Type 0
MayApplyNext r None = Unit {0}
MayApplyNext r (Some e) = MayApplyThis r e

-- the next committed entry, where there is one, is spelled as a payload and may be applied
pub record MayApply (r : Replica) : Type 0 where
  pub index : r.applied.index < 2 ^ 64 - 1
  pub seq : r.applied.state.lease.seq < 2 ^ 64 - 1
  pub next : MayApplyNext r (next_entry r)

-- what is applied lies in the log
pub record MayCut (r : Replica) : Type 0 where
  pub rise : CanRise r.raft
  pub behind : r.raft.log.base ≤ r.applied.index
  pub within : r.applied.index ≤ last_index r.raft.log

abbrev pub Allows : Replica → ReplicaEvent AppliedState → (ticks : ℕ) → Type 0
Allows r (Admit id request) ticks = proposal_of id r.pending ≡ None
Allows r Ask ticks = ticks + lease_ticks < 2 ^ 64
Allows r (Transfer to) ticks = ticks + lease_ticks < 2 ^ 64
Allows r Collect ticks = Unit {0}
Allows r Flush ticks = MayFlush r
Allows r Tick ticks = MayRefresh r (tick r.raft)
Allows r (Deliver from message) ticks = MayDeliver r from message
Allows r Apply ticks = MayApply r
Allows r Cut ticks = MayCut r
Allows r Remove ticks = Unit {0}
Allows r (Peek key) ticks = Unit {0}
Allows r Restart ticks = Unit {0}

-- the event of Raft that payloads go behind, where an event of the replica hands some to it
abbrev pub draft_at : Replica → ReplicaEvent AppliedState → Option (Draft AppliedState)
draft_at r (Admit id request) = None
draft_at r Ask = None
draft_at r (Transfer to) = None
draft_at r Collect = None
draft_at r Flush = Some (quiet r.raft)
draft_at r Tick = Some (tick r.raft)
draft_at r (Deliver from message) = Some (received r.raft from message)
draft_at r Apply = None
draft_at r Cut = None
draft_at r Remove = None
draft_at r (Peek key) = None
draft_at r Restart = None
