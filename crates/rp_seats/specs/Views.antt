-- What one range sees of the nodes: Raft's world of the range.
use Rattle.std.specs.Prelude.{ℕ, ◌==◌, if◌then◌else◌, List, [], ◌∷◌, map, take, count_by, Result, Ok, Err}
use Rattle.rp_codec.specs.Reading.{payload_in}
use Rattle.rp_codec.specs.declared.faults.BadField.{BadField}
use Rattle.rp_raftlog.specs.declared.entries.Entry.{Entry}
use Rattle.rp_raftstep.specs.declared.messages.Message.{Message}
use Rattle.rp_request.specs.Applied.{AppliedState, after}
use Rattle.rp_request.specs.declared.commands.Payload.{Payload}
use Rattle.rp_request.specs.declared.commands.Payload.TheVariants.{Nothing}
use Rattle.rp_raftsafe.specs.World as raft
use Rattle.rp_events.specs.declared.parcels.Parcel.{Parcel}
use Rattle.rp_events.specs.Replicas.{Replica}
use Rattle.rp_events.specs.Nodes.{Node, Status, Absent, Live, Removed, seat}
use Rattle.rp_events.specs.Lists.{base_of}
use Rattle.rp_events.specs.Worlds.{World}

-- a replica as Raft has it: its Raft, and what it has applied
abbrev pub core : Replica → raft.Replica AppliedState
core r = record { raft = r.raft; applied = r.applied.index; state = r.applied.state }

-- what a node has of a range, as Raft has it
abbrev pub core_of : Status → raft.Status AppliedState
core_of Absent = raft.Absent
core_of (Live r) = raft.Live (core r)
core_of (Removed applied) = raft.Removed

-- the messages of one range among all that a node sent
abbrev pub sent_of : (range : ℕ) → List (Parcel AppliedState) → List (ℕ × Message AppliedState)
sent_of range [] = []
sent_of range (p ∷ ps) =
    if p.range == range then (p.to, p.message) ∷ sent_of range ps else sent_of range ps

-- the number, among those of its range, of a parcel with this number
abbrev pub number_in : (range : ℕ) → List (Parcel AppliedState) → (number : ℕ) → ℕ
number_in range sent number = count_by (λ p. p.range == range) (take number sent)

-- what one range sees of a node, and of the nodes
abbrev pub site_of : (range : ℕ) → Node → raft.Site AppliedState
site_of range n = record { status = core_of (seat n range); sent = sent_of range n.sent }

abbrev pub view : (range : ℕ) → World → raft.World AppliedState
view range w = map (site_of range) w

-- the payload that bytes spell: Nothing where they spell none
abbrev pub payload_or : Result Payload BadField → Payload
payload_or (Ok p) = p
payload_or (Err bad) = Nothing

abbrev pub read : List ℕ → Payload
read bytes = payload_or (payload_in bytes)

-- an entry is applied
abbrev pub act : AppliedState → Entry → AppliedState
act s e = after s (read e.payload)

-- a range of so many nodes that starts in this state: the holder of the lease there leads it first
abbrev pub range_at : (nodes range : ℕ) → AppliedState → raft.Range AppliedState
range_at nodes range start = record {
  nodes = nodes;
  holder = start.lease.holder;
  base = base_of range;
  start = start;
  act = act;
}
