-- How far the numbers of a world can have grown: lease indexes, lease sequences and ticks.
use Rattle.std.specs.Prelude.{◌≡◌, ℕ, ◌+◌, ◌-◌, ◌*◌, ◌^◌, ◌≤◌, List, length, Contains, Some}
use Rattle.std.specs.List.{AllByRecursion, sum_by}
use Rattle.rp_base.specs.declared.items.Item.{Item}
use Rattle.rp_base.specs.declared.items.Item.TheVariants as items
use Rattle.rp_base.specs.declared.leases.LeaseAsk.{LeaseAsk}
use Rattle.rp_request.specs.declared.commands.Payload.{Payload}
use Rattle.rp_request.specs.declared.commands.Payload.TheVariants.{Nothing, Write, Lease}
use Rattle.rp_pending.specs.declared.proposals.Proposal.{Proposal}
use Rattle.rp_raftsafe.specs.World as raft
use Rattle.rp_raftsafe.specs.Proposed.{payloads_of}
use Rattle.rp_events.specs.Replicas.{Replica}
use Rattle.rp_events.specs.Nodes as nodes
use Rattle.rp_events.specs.Nodes.{Node, Status, Absent, Live, seat}
use Rattle.rp_events.specs.Worlds.{World, node_of}
use Rattle.rp_seats.specs.Views.{read}

-- an ask, an item, a proposal and a payload with no greater numbers than these: lease index, lease
-- sequence, tick
abbrev pub AskBelow : (seqs expiry : ℕ) → LeaseAsk → Type 0
AskBelow seqs expiry ask = (ask.prev ≤ seqs) × (ask.expires ≤ expiry)

abbrev pub ItemBelow : (seqs expiry : ℕ) → Item → Type 0
ItemBelow seqs expiry (items.Write id) = Unit {0}
ItemBelow seqs expiry (items.Lease ask) = AskBelow seqs expiry ask

abbrev pub ProposalBelow : (top seqs : ℕ) → Proposal → Type 0
ProposalBelow top seqs p = (p.max ≤ top) × (p.seq ≤ seqs)

abbrev pub PayloadBelow : (top seqs : ℕ) → Payload → Type 0
PayloadBelow top seqs Nothing = Unit {0}
PayloadBelow top seqs (Write c) = c.max ≤ top
PayloadBelow top seqs (Lease ask) = ask.prev ≤ seqs

-- a replica with no greater numbers, and with no more pending proposals
pub record ReplicaBelow (top seqs expiry most : ℕ) (r : Replica) : Type 0 where
  pub assigned : r.assigned ≤ top
  pub pending : AllByRecursion (ProposalBelow top seqs) r.pending
  pub few : length r.pending ≤ most
  pub inbox : AllByRecursion (ItemBelow seqs expiry) r.inbox
  pub asks : AllByRecursion (AskBelow seqs expiry) r.asks

abbrev pub StatusBelow : (top seqs expiry most : ℕ) → Status → Type 0
StatusBelow top seqs expiry most Absent = Unit {0}
StatusBelow top seqs expiry most (Live r) = ReplicaBelow top seqs expiry most r
StatusBelow top seqs expiry most (nodes.Removed applied) = Unit {0}

-- how many items wait in a seat's inbox: each can be given one lease index
abbrev pub items_in : Status → ℕ
items_in Absent = 0
items_in (Live r) = length r.inbox
items_in (nodes.Removed applied) = 0

abbrev pub waiting_in : (range : ℕ) → World → ℕ
waiting_in range w = sum_by (λ n. items_in (seat n range)) w

-- how many items can have come to a node's inboxes: in each event but an admission at most what a
-- buffer holds, and each of the proposals that the node admitted once again
abbrev pub work_of : Node → ℕ
work_of n = (length n.journal - length n.requests) * (length n.requests + 16)

abbrev pub all_work : World → ℕ
all_work w = sum_by work_of w

-- how many events there were: each raises the lease sequences by at most one
abbrev pub events_of : World → ℕ
events_of w = sum_by (λ n. length n.journal) w

-- a node has no more requests and ticks than events, and takes no event behind its journal's end
pub record NodeBelow (n : Node) : Type 0 where
  pub requests : length n.requests ≤ length n.journal
  pub ticks : n.ticks ≤ length n.journal
  pub journal : length n.journal ≤ 2 ^ 31

-- of one range: the greatest lease index so far, and each that what waits can still be given, is no
-- greater than the work of the nodes
pub record RangeBelow (w : World) (range : ℕ) (seen : List raft.Event) (top : ℕ) : Type 0 where
  pub room : top + waiting_in range w ≤ all_work w
  pub seats : (node : ℕ) (n : Node) → node_of w node ≡ Some n
      → StatusBelow top (events_of w) (n.ticks + 40) (length n.requests) (seat n range)
  pub handed : (bytes : List ℕ) → Contains (payloads_of seen) bytes
      → PayloadBelow top (events_of w) (read bytes)

-- so it is of each node and of each range, at five nodes at most
pub record AreSmall (w : World) (seen : ℕ → List raft.Event) : Type 0 where
  pub few : length w ≤ 5
  pub nodes : (node : ℕ) (n : Node) → node_of w node ≡ Some n → NodeBelow n
  pub ranges : (range : ℕ) → (top : ℕ) × RangeBelow w range (seen range) top
