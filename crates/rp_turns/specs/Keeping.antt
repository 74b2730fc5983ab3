-- What each lawful scene keeps of widths: all that a replica holds but the numbers that grow, and all that
-- was handed to Raft.
use Rattle.std.specs.Prelude.{◌≡◌, ℕ, ◌^◌, ◌<◌, ◌≤◌, List, length, Contains, None, Some}
use Rattle.std.specs.List.{AllByRecursion}
use Rattle.rp_base.specs.declared.ids.CmdId.{CmdId}
use Rattle.rp_base.specs.declared.items.Item.{Item}
use Rattle.rp_base.specs.declared.items.Item.TheVariants as items
use Rattle.rp_base.specs.declared.leases.LeaseAsk.{LeaseAsk}
use Rattle.rp_request.specs.Covers.{HasKeys}
use Rattle.rp_request.specs.Fits.{FitsId, FitsRequest, FitsReply, FitsBatch, FitsPayload}
use Rattle.rp_pending.specs.declared.proposals.Proposal.{Proposal}
use Rattle.rp_raftsafe.specs.World as raft
use Rattle.rp_raftsafe.specs.Proposed.{payloads_of}
use Rattle.rp_events.specs.Flushes.{assigning}
use Rattle.rp_events.specs.Nodes as nodes
use Rattle.rp_events.specs.Nodes.{Node, Status, Absent, Live, seat}
use Rattle.rp_events.specs.Replicas.{Replica}
use Rattle.rp_events.specs.Worlds.{World, node_of, ended_of, outcome_at}
use Rattle.rp_seats.specs.Steps.{AreEnds}
use Rattle.rp_seats.specs.Views.{read}

-- a pending one, but for its lease sequence and index
pub record IsWideOne (p : Proposal) : Type 0 where
  pub id : FitsId p.id
  pub request : FitsRequest p.request
  pub keys : HasKeys p.request
  pub reply : FitsReply p.reply
  pub batch : FitsBatch p.batch

-- a lease ask is for a node
abbrev pub IsForNode : LeaseAsk → Type 0
IsForNode ask = (1 ≤ ask.holder) × (ask.holder ≤ 5)

abbrev pub IsWideItem : Item → Type 0
IsWideItem (items.Write id) = Unit {0}
IsWideItem (items.Lease ask) = IsForNode ask

pub record IsWide (r : Replica) : Type 0 where
  pub pending : AllByRecursion IsWideOne r.pending
  pub inbox : AllByRecursion IsWideItem r.inbox
  pub asks : AllByRecursion IsForNode r.asks

abbrev pub IsWideStatus : Status → Type 0
IsWideStatus Absent = Unit {0}
IsWideStatus (Live r) = IsWide r
IsWideStatus (nodes.Removed applied) = Unit {0}

-- there are five nodes at most; their outcomes are ends, and of attempts that they were asked; their
-- replicas hold what has its widths; and so has each payload that was handed to Raft, as it is read
pub record AreWide (w : World) (seen : ℕ → List raft.Event) : Type 0 where
  pub few : length w ≤ 5
  pub ends : (node : ℕ) (n : Node) → node_of w node ≡ Some n → AreEnds n.outcomes
  pub known : (node : ℕ) (n : Node) → node_of w node ≡ Some n → (id : CmdId)
      → outcome_at id n ≡ None → ended_of id n.outcomes ≡ None
  pub seats : (node : ℕ) (n : Node) → node_of w node ≡ Some n → (range : ℕ)
      → IsWideStatus (seat n range)
  pub handed : (range : ℕ) (bytes : List ℕ) → Contains (payloads_of (seen range)) bytes
      → FitsPayload (read bytes)

-- the numbers of a pending one and of a lease ask that grow
abbrev pub AreBelow : Proposal → Type 0
AreBelow p = (p.seq < 2 ^ 64) × (p.max < 2 ^ 64)

abbrev pub IsAskBelow : LeaseAsk → Type 0
IsAskBelow ask = (ask.prev < 2 ^ 64) × (ask.expires < 2 ^ 64)

abbrev pub IsItemBelow : Item → Type 0
IsItemBelow (items.Write id) = Unit {0}
IsItemBelow (items.Lease ask) = IsAskBelow ask

-- what grows of a replica is below its end
pub record IsBelow (r : Replica) : Type 0 where
  pub pending : AllByRecursion AreBelow r.pending
  pub inbox : AllByRecursion IsItemBelow r.inbox
  pub last : (assigning r).last < 2 ^ 64
