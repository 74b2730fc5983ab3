-- The records that the nodes keep, beside the range machine: what each kept record is, and which
-- entries have one.
use Rattle.std.specs.Prelude.{◌≡◌, ℕ, ◌+◌, ◌<◌, ◌≤◌, [], ◌∷◌, ◌++◌, length, Contains, Some}
use Rattle.rp_base.specs.declared.ids.CmdId.{CmdId}
use Rattle.rp_raftstep.specs.declared.messages.Message.{Message}
use Rattle.rp_raftstep.specs.declared.messages.Message.TheVariants.{Vote, VoteReply, Append, AppendReply, Forward, Snap}
use Rattle.rp_request.specs.Applied.{AppliedState, record_of}
use Rattle.rp_request.specs.History.{Piece, History}
use Rattle.rp_request.specs.States.{right_of}
use Rattle.rp_request.specs.declared.items.Record.{Record}
use Rattle.rp_request.specs.declared.outcomes.Outcome.TheVariants.{Success}
use Rattle.rp_request.specs.declared.outcomes.Reply.{Reply}
use Rattle.rp_request.specs.declared.requests.Request.{Request}
use Rattle.rp_rangesafe.specs.Along.{entry}
use Rattle.rp_rangesafe.specs.World as machine
use Rattle.rp_rangesafe.specs.World.{state_at}
use Rattle.rp_rangesafe.specs.Ranges.{Ranges}
use Rattle.rp_events.specs.declared.answers.Ended.{Ended}
use Rattle.rp_events.specs.declared.parcels.Parcel.{Parcel}
use Rattle.rp_events.specs.Nodes.{Node}
use Rattle.rp_events.specs.Worlds.{World, node_of}
use Rattle.rp_events.specs.Lists.{base_of, HasApplied, StandsIn, Keeps, KeepsPlace}

-- the record of the machine's entry at this place of its list, from 0
abbrev pub record_at : machine.World → (place : ℕ) → Record
record_at h place = record_of (state_at h place) (entry h.log place)

-- a record of this index, behind a range's base, is that of one of the first so many entries
pub record IsRecordAt (h : machine.World) (base to index : ℕ) (kept : Record) : Type 0 where
  pub place : ℕ
  pub at : base + place + 1 ≡ index
  pub applied : place < to
  pub is : kept ≡ record_at h place

-- what was applied in a seat is the machine's: so many entries, at most those that have a record at
-- some node; the state behind them; and each record that is kept is that of its entry
pub record HistoryOk (h : machine.World) (base reach : ℕ) (past : History) : Type 0 where
  pub to : ℕ
  pub at : base + to ≡ past.index
  pub within : to ≤ reach
  pub state : state_at h to ≡ past.state
  -- the next record is that of the next index
  pub next : past.records.first + length past.records.list ≡ past.index + 1
  pub records : (piece : Piece) (index : ℕ) (kept : Record)
      → Contains (past.earlier ++ past.records ∷ []) piece → StandsIn piece index kept
      → IsRecordAt h base to index kept

-- some node has or had a replica of the range
pub record IsHad (w : World) (range : ℕ) : Type 0 where
  pub node : ℕ
  pub past : History
  pub applied : HasApplied w node range past

-- a snapshot in the message is of no later index
abbrev pub SnapUpTo : (index : ℕ) → Message AppliedState → Type 0
SnapUpTo bound (Vote term index index_term) = Unit {0}
SnapUpTo bound (VoteReply term granted) = Unit {0}
SnapUpTo bound (Append term prev_index prev_term entries commit) = Unit {0}
SnapUpTo bound (AppendReply term ok index) = Unit {0}
SnapUpTo bound (Forward payload) = Unit {0}
SnapUpTo bound (Snap term index index_term snapshot) = index ≤ bound

-- one range: the first `reach` entries of its list have a record at some node, and nothing that a
-- node has applied or that a snapshot shows goes beyond
pub record RecordsOk (w : World) (range : ℕ) (h : machine.World) (reach : ℕ) : Type 0 where
  pub within : reach ≤ length h.log
  pub histories : (node : ℕ) (past : History) → HasApplied w node range past
      → HistoryOk h (base_of range) reach past
  pub covered : (place : ℕ) → place < reach
      → (node : ℕ) × Keeps w node range (base_of range + place + 1) (record_at h place)
  pub sent : (node : ℕ) (n : Node) (p : Parcel AppliedState) → node_of w node ≡ Some n
      → Contains n.sent p → p.range ≡ range
      → SnapUpTo (base_of range + reach) p.message × IsHad w range

-- an entry that has a record at some node opened the range
pub record IsOpenedBelow (m : Ranges) (reach : ℕ → ℕ) (range : ℕ) : Type 0 where
  pub left : ℕ
  pub index : ℕ
  pub below : index < reach left
  pub right : AppliedState
  pub opens : right_of (state_at (m.range left) index) (entry (m.range left).log index) ≡ Some right
  pub numbered : right.desc.id ≡ range

-- the node keeps the place of an attempt, with this reply
pub record KeepsReply (w : World) (node : ℕ) (id : CmdId) (reply : Reply) : Type 0 where
  pub range : ℕ
  pub index : ℕ
  pub request : Request
  pub seq : ℕ
  pub kept : KeepsPlace w node range index
      (record { id = id; request = request; seq = seq; reply = reply })

-- all ranges: their records, the entries that opened them, and the places of those that were told
-- Success
pub record AllRecords (w : World) (m : Ranges) : Type 0 where
  -- of each range so many entries have a record
  pub reach : ℕ → ℕ
  pub each : (range : ℕ) → RecordsOk w range (m.range range) (reach range)
  pub origins : (range : ℕ) → 0 < range → IsHad w range → IsOpenedBelow m reach range
  pub successes : (node : ℕ) (n : Node) (id : CmdId) (reply : Reply) → node_of w node ≡ Some n
      → Contains {X = Ended} n.outcomes (record { id = id; outcome = Success reply })
      → KeepsReply w node id reply
