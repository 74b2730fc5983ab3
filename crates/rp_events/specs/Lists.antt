-- What the nodes keep of a range: records, applied states, places and admissions.
use Rattle.std.specs.Prelude.{◌≡◌, ℕ, zero, suc, ◌+◌, ◌-◌, ◌<◌, ◌≤◌, IsTrue, List, [], ◌∷◌, ◌++◌, length, take, slice_get, Contains, Option, None, Some}
use Rattle.rp_base.specs.declared.ids.CmdId.{CmdId}
use Rattle.rp_request.specs.History.{Piece, History}
use Rattle.rp_request.specs.Records.{applied}
use Rattle.rp_request.specs.declared.items.Place.{Place}
use Rattle.rp_request.specs.declared.items.Place.TheVariants as places
use Rattle.rp_request.specs.declared.items.Record.{Record}
use Rattle.rp_request.specs.declared.items.Record.TheVariants.{Took}
use Rattle.rp_request.specs.declared.outcomes.Reply.{Reply}
use Rattle.rp_request.specs.declared.outcomes.Reply.TheVariants as replies
use Rattle.rp_request.specs.declared.requests.Request.{Request}
use Rattle.rp_request.specs.declared.requests.Request.TheVariants as requests
use Rattle.rp_events.specs.declared.answers.EventAnswer.TheVariants as answers
use Rattle.rp_events.specs.declared.journals.JournalEntry.{JournalEntry}
use Rattle.rp_events.specs.declared.journals.PastEvent.TheVariants as past
use Rattle.rp_events.specs.Replicas.{Replica, lease_of}
use Rattle.rp_events.specs.Nodes.{Node, Status, Absent, Live, Removed, seat, right_base}
use Rattle.rp_events.specs.Worlds.{World, node_of, is_admission_of}
use Rattle.rp_events.specs.Journals.{stood_before}

-- the index behind which a range's log begins
abbrev pub base_of : (range : ℕ) → ℕ
base_of zero = 0
base_of (suc range) = right_base

-- the node has this replica of the range
pub record IsLiveAt (w : World) (node range : ℕ) (r : Replica) : Type 0 where
  pub n : Node
  pub has : node_of w node ≡ Some n
  pub live : seat n range ≡ Live r

-- what has been applied in a seat: a tombstone keeps it
abbrev pub history_in : Status → Option History
history_in Absent = None
history_in (Live r) = Some r.applied
history_in (Removed applied) = Some applied

-- the node has applied this of the range
pub record HasApplied (w : World) (node range : ℕ) (h : History) : Type 0 where
  pub n : Node
  pub has : node_of w node ≡ Some n
  pub history : history_in (seat n range) ≡ Some h

-- the record of this index stands in a piece
pub record StandsIn (piece : Piece) (index : ℕ) (kept : Record) : Type 0 where
  pub place : ℕ
  pub here : slice_get piece.list place ≡ Some kept
  pub at : piece.first + place ≡ index

-- the node keeps this record of the range's entry with this index, from before a snapshot too
pub record Keeps (w : World) (node range index : ℕ) (kept : Record) : Type 0 where
  pub history : History
  pub applied : HasApplied w node range history
  pub piece : Piece
  pub among : Contains (history.earlier ++ history.records ∷ []) piece
  pub stands : StandsIn piece index kept

-- the records of a range from its first index on: each that a node keeps is the one of its index and no
-- later than what the node has applied; each index has one at some node; and no node has applied more
pub record IsOneList (w : World) (range : ℕ) (list : List Record) : Type 0 where
  pub agrees : (node index : ℕ) (kept : Record) → Keeps w node range index kept
      → (base_of range < index) × (slice_get list (index - base_of range - 1) ≡ Some kept)
  pub known : (node index : ℕ) (kept : Record) (h : History) → Keeps w node range index kept
      → HasApplied w node range h → index ≤ h.index
  pub whole : (place : ℕ) (kept : Record) → slice_get list place ≡ Some kept
      → (node : ℕ) × Keeps w node range (base_of range + place + 1) kept
  pub reaches : (node : ℕ) (h : History) → HasApplied w node range h
      → (base_of range ≤ h.index) × (h.index ≤ base_of range + length list)

-- the items that a node has applied of a range's list
abbrev pub prefix_of : (range : ℕ) → List Record → History → List Place
prefix_of range list h = applied (take (h.index - base_of range) list)

-- what an item says of a command: the attempt, its request, the lease sequence and the reply
pub record Claim : Type 0 where
  pub id : CmdId
  pub request : Request
  pub seq : ℕ
  pub reply : Reply

abbrev pub claim_of : Place → Option Claim
claim_of (places.Write id request seq reply) =
    Some (record { id = id; request = request; seq = seq; reply = reply })
claim_of (places.Split id key right seq) =
    Some (record { id = id; request = requests.Split key; seq = seq; reply = replies.Range right })
claim_of (places.Lease lease) = None

-- the node keeps a place of the attempt, which says this
pub record KeepsPlace (w : World) (node range index : ℕ) (claim : Claim) : Type 0 where
  pub item : Place
  pub kept : Keeps w node range index (Took item)
  pub says : claim_of item ≡ Some claim

-- the entry at this place of a node's journal, from 0
pub record IsWritten (w : World) (node place : ℕ) (e : JournalEntry) : Type 0 where
  pub n : Node
  pub has : node_of w node ≡ Some n
  pub here : slice_get n.journal place ≡ Some e

-- the attempt was admitted at this node, at this place of its journal, in the range and for the request
pub record IsAdmitted (w : World) (id : CmdId) (node place range : ℕ) (request : Request)
    : Type 0 where
  pub n : Node
  pub has : node_of w node ≡ Some n
  pub at : ℕ
  pub here : slice_get n.journal place
      ≡ Some (record { event = past.Admit range id at; answer = answers.Admitted })
  pub asked : slice_get n.requests at ≡ Some request

-- no other entry of any journal is an admission of the attempt, be it granted or refused
abbrev pub IsAskedOnceAt : World → CmdId → (node place : ℕ) → Type 0
IsAskedOnceAt w id node place =
    (other k : ℕ) (e : JournalEntry) → IsWritten w other k e → IsTrue (is_admission_of id e)
    → (other ≡ node) × (k ≡ place)

-- the node's replica of the range as it stood before the event at this place of the node's journal
pub record StoodAs (w : World) (node place range : ℕ) (r : Replica) : Type 0 where
  pub n : Node
  pub has : node_of w node ≡ Some n
  pub stood : seat (stood_before w n place) range ≡ Live r

-- just before its admission the attempt's replica held the lease under this sequence, which was above its
-- barrier
pub record IsAdmittedUnder (w : World) (id : CmdId) (range : ℕ) (request : Request) (seq : ℕ)
    : Type 0 where
  pub node : ℕ
  pub place : ℕ
  pub admitted : IsAdmitted w id node place range request
  pub only : IsAskedOnceAt w id node place
  pub replica : Replica
  pub stood : StoodAs w node place range replica
  pub holds : (lease_of replica).holder ≡ node
  pub under : (lease_of replica).seq ≡ seq
  pub passed : replica.barrier < seq
