-- How the nodes stand beside Raft's world of a range and beside the range machine: the statements that
-- every lawful scene keeps.
use Rattle.std.specs.Prelude.{◌≡◌, ℕ, ◌+◌, true, false, List, [], ◌∷◌, ◌⊎◌, map, length, Contains, Option, None, Some}
use Rattle.std.specs.List.{AllByRecursion}
use Rattle.rp_base.specs.declared.ids.CmdId.{CmdId}
use Rattle.rp_latch.specs.declared.holds.Hold.{Hold}
use Rattle.rp_raftlog.specs.declared.entries.Entry.{Entry}
use Rattle.rp_request.specs.Applied.{AppliedState}
use Rattle.rp_request.specs.Covers.{spans_of}
use Rattle.rp_request.specs.States.{first_applied}
use Rattle.rp_request.specs.declared.outcomes.Ambiguity.TheVariants as causes
use Rattle.rp_request.specs.declared.outcomes.Outcome.{Outcome}
use Rattle.rp_request.specs.declared.outcomes.Outcome.TheVariants as outcomes
use Rattle.rp_request.specs.declared.outcomes.Refusal.{Refusal}
use Rattle.rp_pending.specs.declared.proposals.Proposal.{Proposal}
use Rattle.rp_pending.specs.declared.proposals.Stage as places
use Rattle.rp_pending.specs.declared.proposals.Stage.TheVariants as stages
use Rattle.rp_pending.specs.Proposals.{proposal_of}
use Rattle.rp_raftsafe.specs.World as raft
use Rattle.rp_raftsafe.specs.World.{IsRange, world_after}
use Rattle.rp_raftsafe.specs.Safety.{OneList, OneListOf}
use Rattle.rp_raftsafe.specs.Proposed.{payloads_of}
use Rattle.rp_rangesafe.specs.Attempts.{Body, Stage, Unborn, Waiting, Proposed, Success, Refused, Overtaken, Removed, Restarted, Attempt, Attempts, IsBorn, IsBornAt, IsAmong}
use Rattle.rp_rangesafe.specs.World as machine
use Rattle.rp_rangesafe.specs.World.{MayCommit}
use Rattle.rp_rangesafe.specs.Ranges.{Ranges, Owner, Nobody, Turned, At, AreReached}
use Rattle.rp_events.specs.Nodes as nodes
use Rattle.rp_events.specs.Nodes.{Node, Absent, Live, seat}
use Rattle.rp_events.specs.Lists.{base_of}
use Rattle.rp_events.specs.Worlds.{World, node_of, outcome_at}
use Rattle.rp_seats.specs.Views.{view, read, range_at}

-- the pending proposals of a seat, and the latches that are held there
abbrev pub pending_in : nodes.Status → List Proposal
pending_in Absent = []
pending_in (Live r) = r.pending
pending_in (nodes.Removed applied) = []

abbrev pub latches_in : nodes.Status → List Hold
latches_in Absent = []
latches_in (Live r) = r.latches
latches_in (nodes.Removed applied) = []

-- the latches of a proposal
abbrev pub hold_of : Proposal → Hold
hold_of p = record { id = p.id; spans = spans_of p.request }

-- the seat stands where the machine has its node, behind the range's base; it has its replica there
-- exactly where no tombstone is left
abbrev pub StandsAs : machine.World → (node base : ℕ) → nodes.Status → Type 0
StandsAs h node base Absent = (h.index node ≡ 0) × (h.alive node ≡ true) × (h.barrier node ≡ 0)
StandsAs h node base (Live r) =
    (h.index node + base ≡ r.applied.index) × (h.alive node ≡ true) × (h.barrier node ≡ r.barrier)
StandsAs h node base (nodes.Removed applied) =
    (h.index node + base ≡ applied.index) × (h.alive node ≡ false)

-- what was evaluated of a proposal
abbrev pub body_of : Proposal → Body
body_of p = record { request = p.request; batch = p.batch; reply = p.reply }

-- the proposal's place is the attempt's, and the maximum under which it is proposed is one that the
-- attempt was given
abbrev pub HasPlace : places.Stage → (max : ℕ) → Attempt → Type 0
HasPlace stages.Waiting max a = a.stage ≡ Waiting
HasPlace stages.Proposed max a = (a.stage ≡ Proposed max) × IsAmong a.maxima max

-- the proposal stands for the node's attempt, which was told that it is pending
pub record TellsPending (node : ℕ) (a : Attempt) (p : Proposal) (told : Option Outcome) : Type 0 where
  pub made_at : a.node ≡ node
  pub seq : a.seq ≡ p.seq
  pub body : a.body ≡ body_of p
  pub place : HasPlace p.stage p.max a
  pub pending : told ≡ Some outcomes.Pending

-- an attempt that has ended was told just that
abbrev pub IsToldAs : Stage → Option Outcome → Type 0
IsToldAs Unborn told = ⊥
IsToldAs Waiting told = ⊥
IsToldAs (Proposed own) told = ⊥
IsToldAs (Success reply) told = told ≡ Some (outcomes.Success reply)
IsToldAs Refused told = (why : Refusal) × (told ≡ Some (outcomes.Refused why))
IsToldAs (Overtaken own passed) told = told ≡ Some (outcomes.Ambiguous (causes.Snapshot own passed))
IsToldAs (Removed own) told = told ≡ Some (outcomes.Ambiguous (causes.Removed own))
IsToldAs (Restarted own) told = told ≡ Some (outcomes.Ambiguous (causes.Restarted own))

-- what a node's list of proposals answers for an attempt, beside the attempt and what it was told at the
-- node: with a proposal it is pending; without one it has ended, if it is the node's and was made
abbrev pub TellsOf : (node : ℕ) → Attempt → Option Proposal → Option Outcome → Type 0
TellsOf node a None told = IsBornAt a node → IsToldAs a.stage told
TellsOf node a (Some p) told = TellsPending node a p told

-- no proposal has the id, and no two have one
abbrev pub HasNone : CmdId → List Proposal → Type 0
HasNone id ps = AllByRecursion (λ p. id ≡ p.id → ⊥) ps

abbrev pub AreDistinct : List Proposal → Type 0
AreDistinct [] = Unit {0}
AreDistinct (p ∷ ps) = HasNone p.id ps × AreDistinct ps

-- the pending proposals of a node beside the attempts: what they stand for, each id once, and their
-- latches
pub record PendingOk (attempts : Attempts) (node : ℕ) (ps : List Proposal) (latches : List Hold)
    (told : CmdId → Option Outcome) : Type 0 where
  pub tells : (id : CmdId) → TellsOf node (attempts id) (proposal_of id ps) (told id)
  pub distinct : AreDistinct ps
  pub held : latches ≡ map hold_of ps

-- one range at one node: where it stands, and what its proposals stand for
pub record SeatOk (h : machine.World) (node range : ℕ) (status : nodes.Status)
    (told : CmdId → Option Outcome) : Type 0 where
  pub stands : StandsAs h node (base_of range) status
  pub pending : PendingOk h.attempt node (pending_in status) (latches_in status) told

-- one range: what it sees of the nodes is Raft's world after these events, whose committed list is the
-- machine's; and each payload that they hand to Raft may be committed
pub record RaftOk (nodes range : ℕ) (s : AppliedState) (one : OneListOf (range_at nodes range s))
    (seen : List raft.Event) (w : World) (h : machine.World) : Type 0 where
  pub raft : view range w ≡ world_after (range_at nodes range s) seen
  pub log : h.log ≡ map (λ (e : Entry). read e.payload) (one.committed seen)
  pub handed : (bytes : List ℕ) → Contains (payloads_of seen) bytes → MayCommit h (read bytes)
  pub start : h.start ≡ s

-- one range at all nodes. The laws of Raft give the one list
pub record RangeOk (lists : OneList AppliedState) (nodes range : ℕ) (s : AppliedState)
    (seen : List raft.Event) (w : World) (h : machine.World) : Type 0 where
  pub is : IsRange (range_at nodes range s)
  pub raft : RaftOk nodes range s (lists (range_at nodes range s) is) seen w h
  pub seats : (node : ℕ) (n : Node) → node_of w node ≡ Some n
      → SeatOk h node range (seat n range) (λ id. outcome_at id n)

-- a range that has not opened: Raft has seen nothing, no node has anything of it, and nothing was sent
pub record IsShut (range : ℕ) (seen : List raft.Event) (w : World) : Type 0 where
  pub unseen : seen ≡ []
  pub view_is : view range w ≡ raft.nowhere (range_at (length w) range first_applied)

-- the nodes are numbered from 1, know how many there are, and have eight seats
pub record IsShaped (nodes : ℕ) (node : ℕ) (n : Node) : Type 0 where
  pub number : n.node ≡ node
  pub of : n.nodes ≡ nodes
  pub eight : length n.seats ≡ 8

pub record AreShaped (w : World) : Type 0 where
  pub each : (node : ℕ) (n : Node) → node_of w node ≡ Some n → IsShaped (length w) node n

-- an attempt that was turned away: one node refused it, and no other tells of it
pub record IsTurnedAway (w : World) (id : CmdId) : Type 0 where
  pub at : ℕ
  pub n : Node
  pub has : node_of w at ≡ Some n
  pub why : Refusal
  pub told : outcome_at id n ≡ Some (outcomes.Refused why)
  pub others : (node : ℕ) (other : Node) → node_of w node ≡ Some other → (node ≡ at → ⊥)
      → outcome_at id other ≡ None

-- an attempt that was made in a range, at a node: no other node tells of it
pub record IsMadeIn (m : Ranges) (w : World) (id : CmdId) (range : ℕ) : Type 0 where
  pub there : m.opened range ≡ true
  pub born : IsBorn ((m.range range).attempt id).stage
  pub n : Node
  pub has : node_of w ((m.range range).attempt id).node ≡ Some n
  pub others : (node : ℕ) (other : Node) → node_of w node ≡ Some other
      → (node ≡ ((m.range range).attempt id).node → ⊥) → outcome_at id other ≡ None

-- where an attempt was made, and what the nodes tell of it: nothing where it was not made
abbrev pub IsOwned : Ranges → World → CmdId → Owner → Type 0
IsOwned m w id Nobody =
    (node : ℕ) (n : Node) → node_of w node ≡ Some n → outcome_at id n ≡ None
IsOwned m w id Turned = IsTurnedAway w id
IsOwned m w id (At range) = IsMadeIn m w id range

-- the nodes beside all ranges of the machine, and beside Raft's events in each so far
pub record Bound (lists : OneList AppliedState) (w : World) (m : Ranges)
    (seen : ℕ → List raft.Event) : Type 0 where
  pub reached : AreReached m
  pub shaped : AreShaped w
  pub ranges : (range : ℕ) → m.opened range ≡ true
      → RangeOk lists (length w) range (m.range range).start (seen range) w (m.range range)
  pub shut : (range : ℕ) → m.opened range ≡ false → IsShut range (seen range) w
  pub owned : (id : CmdId) → IsOwned m w id (m.owner id)
