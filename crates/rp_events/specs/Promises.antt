-- What is promised of a world of nodes, whatever was lost, repeated, reordered, split, moved or restarted.
-- It speaks of the nodes alone: of the records, items, states, journals and outcomes that they keep.
use Rattle.std.specs.Prelude.{◌≡◌, ℕ, ◌+◌, ◌<◌, ◌≤◌, IsTrue, List, take, slice_get, count_by, sum_by, Some, Ok}
use Rattle.rp_base.specs.Ids.{same_id}
use Rattle.rp_base.specs.Leases.{Follows}
use Rattle.rp_base.specs.declared.ids.CmdId.{CmdId}
use Rattle.rp_base.specs.declared.leases.Lease as leases
use Rattle.rp_raftlog.specs.LogState.{entry_at}
use Rattle.rp_raftstep.specs.declared.heads.Role.TheVariants.{Leader}
use Rattle.rp_request.specs.Covers.{in_bounds}
use Rattle.rp_request.specs.Effect.{Effect, effect}
use Rattle.rp_request.specs.History.{History, reset_to}
use Rattle.rp_request.specs.Items.{State, fold}
use Rattle.rp_request.specs.Onward.{IsOnward}
use Rattle.rp_request.specs.Places.{IsOnceInAll}
use Rattle.rp_request.specs.Records.{applied}
use Rattle.rp_request.specs.Starts.{IsStart}
use Rattle.rp_request.specs.States.{shown}
use Rattle.rp_request.specs.declared.items.Place.{Place}
use Rattle.rp_request.specs.declared.items.Place.TheVariants as places
use Rattle.rp_request.specs.declared.items.Record.{Record}
use Rattle.rp_request.specs.declared.outcomes.Ambiguity.{Ambiguity}
use Rattle.rp_request.specs.declared.outcomes.Ambiguity.TheVariants as causes
use Rattle.rp_request.specs.declared.outcomes.Outcome.TheVariants.{Success, Refused, Ambiguous, Pending}
use Rattle.rp_request.specs.declared.outcomes.Refusal.{Refusal}
use Rattle.rp_request.specs.declared.outcomes.Reply.{Reply}
use Rattle.rp_request.specs.declared.requests.Request.{Request}
use Rattle.rp_pending.specs.Proposals.{proposal_of}
use Rattle.rp_pending.specs.declared.proposals.Proposal.{Proposal}
use Rattle.rp_pending.specs.declared.proposals.Stage.TheVariants as stages
use Rattle.rp_events.specs.declared.answers.EventAnswer.{EventAnswer}
use Rattle.rp_events.specs.declared.journals.PastEvent.{PastEvent}
use Rattle.rp_events.specs.declared.journals.PastEvent.TheVariants as past
use Rattle.rp_events.specs.Replicas.{Replica}
use Rattle.rp_events.specs.Worlds.{World, outcome_of}
use Rattle.rp_events.specs.Lawful.{IsLater}
use Rattle.rp_events.specs.Journals.{Replays}
use Rattle.rp_events.specs.Lists.{IsLiveAt, HasApplied, Keeps, IsOneList, prefix_of, Claim, claim_of, KeepsPlace, IsAdmitted, IsAdmittedUnder, IsWritten, StoodAs}

-- the applied lists of ranges, by their records
abbrev pub lists_of : (ℕ → List Record) → ℕ → List Place
lists_of records range = applied (records range)

-- the node leads the range's term
pub record LeadsAt (w : World) (node range term : ℕ) : Type 0 where
  pub replica : Replica
  pub live : IsLiveAt w node range replica
  pub leads : replica.raft.head.role ≡ Leader
  pub at : replica.raft.head.term ≡ term

-- both have committed the index, and both logs show it
pub record BothShow (r s : Replica) (index : ℕ) : Type 0 where
  pub first_committed : index ≤ r.raft.head.commit
  pub second_committed : index ≤ s.raft.head.commit
  pub first_shows : r.raft.log.base < index
  pub second_shows : s.raft.log.base < index

-- a split gave this number to the right range: its item stands in a range's list
abbrev pub IsSplitAt : (ℕ → List Place) → (range place right : ℕ) → Type 0
IsSplitAt lists range place right =
    (id : CmdId) × (key : ℕ) × (seq : ℕ)
    × (slice_get (lists range) place ≡ Some (places.Split id key right seq))

-- the replicas agree, and each shows what its range's one list makes of the range's start
pub record StatesAgree (w : World) (records : ℕ → List Record) (start : ℕ → State) : Type 0 where
  -- each range has one list of records, from its first index to the last that any node has applied
  pub one_list : (range : ℕ) → IsOneList w range (records range)
  -- what a node keeps of it, it keeps
  pub grows : (later : World) (node range index : ℕ) (kept : Record) → IsLater w later
      → Keeps w node range index kept → Keeps later node range index kept
  -- a range that a node has starts from the first state, or from the split in its left range's list
  pub starts : (node range : ℕ) (h : History) → HasApplied w node range h
      → IsStart (lists_of records) range (start range)
  -- no number is given to two right ranges
  pub one_split : (range place other place' right : ℕ) → IsSplitAt (lists_of records) range place right
      → IsSplitAt (lists_of records) other place' right → (range ≡ other) × (place ≡ place')
  -- table, description and lease are the fold of a prefix of the range's applied list
  pub prefix : (node range : ℕ) (h : History) → HasApplied w node range h
      → fold (start range) (prefix_of range (records range) h) ≡ Some (shown h.state)
  -- who has applied more has no lower lease applied index and no lower lease sequence
  pub onward : (node other range : ℕ) (h k : History) → HasApplied w node range h
      → HasApplied w other range k → h.index ≤ k.index → IsOnward h.state k.state
  -- at most one node ever leads a term of a range
  pub one_leader : (later : World) (p q range term : ℕ) → IsLater w later → LeadsAt w p range term
      → LeadsAt later q range term → p ≡ q
  -- what two replicas have committed is one entry
  pub commits_agree : (later : World) (p q range index : ℕ) (r s : Replica) → IsLater w later
      → IsLiveAt w p range r → IsLiveAt later q range s → BothShow r s index
      → entry_at r.raft.log index ≡ entry_at s.raft.log index
  -- each node is what its journal says, over what the nodes have sent
  pub replays : Replays w

-- on this state the request lies in the bounds, under this lease sequence, and has this reply
pub record TakesEffect (before : State) (claim : Claim) : Type 0 where
  pub under : before.lease.seq ≡ claim.seq
  pub bounded : IsTrue (in_bounds before.desc claim.request)
  pub effect_is : Effect
  pub takes : effect before.table before.desc claim.request ≡ Ok effect_is
  pub answers : effect_is.reply ≡ claim.reply

-- the item at this place of a range's list takes effect on what the items before it make of the start
pub record IsLawfulPlace (w : World) (start : State) (list : List Place) (range place : ℕ)
    (claim : Claim) : Type 0 where
  -- what the items before it make of the range's start
  pub before : State
  pub reached : fold start (take place list) ≡ Some before
  -- there it takes effect with its reply, in the bounds and under its lease sequence
  pub takes_effect : TakesEffect before claim
  -- exactly one journal has its admission: in this range, for this request, under this sequence
  pub admitted : IsAdmittedUnder w claim.id range claim.request claim.seq

-- a lease follows the one before it
pub record IsLawfulLease (start : State) (list : List Place) (place : ℕ) (lease : leases.Lease)
    : Type 0 where
  pub before : State
  pub reached : fold start (take place list) ≡ Some before
  pub follows : Follows before.lease lease

-- each command takes effect at most once, under the lease it was proposed with and inside its range
pub record PlacesAreLawful (w : World) (records : ℕ → List Record) (start : ℕ → State) : Type 0 where
  -- each command has at most one place, over all ranges and all its attempts
  pub once : IsOnceInAll (lists_of records)
  -- at its place each item takes effect as its command was admitted to
  pub lawful : (range place : ℕ) (item : Place) (claim : Claim)
      → slice_get (lists_of records range) place ≡ Some item → claim_of item ≡ Some claim
      → IsLawfulPlace w (start range) (lists_of records range) range place claim
  -- each lease item follows the lease before it
  pub leases : (range place : ℕ) (lease : leases.Lease)
      → slice_get (lists_of records range) place ≡ Some (places.Lease lease)
      → IsLawfulLease (start range) (lists_of records range) place lease

-- the attempt is pending here under this lease index, at least 1
pub record IsProposedIn (r : Replica) (id : CmdId) (own : ℕ) : Type 0 where
  pub proposal : Proposal
  pub pending : proposal_of id r.pending ≡ Some proposal
  pub proposed : proposal.stage ≡ stages.Proposed
  pub own_is : proposal.max ≡ own
  pub given : 0 < own

-- the event at this place of the node's journal came while the attempt was proposed there under its index
pub record CameWhileProposed (w : World) (id : CmdId) (node range place own : ℕ) (e : PastEvent)
    : Type 0 where
  pub answer : EventAnswer
  pub written : IsWritten w node place (record { event = e; answer = answer })
  pub replica : Replica
  pub stood : StoodAs w node place range replica
  pub proposed : IsProposedIn replica id own

-- by this event the replica took in a snapshot with this lease applied index
pub record TookSnapshot (w : World) (node range place passed : ℕ) : Type 0 where
  pub before : Replica
  pub stood : StoodAs w node place range before
  pub after : Replica
  pub stands : StoodAs w node (place + 1) range after
  pub snapshot : after.applied
      ≡ reset_to before.applied after.applied.state after.applied.index
  pub lai : after.applied.state.lai ≡ passed

-- why nobody can tell what became of an attempt: an event of its node's journal, behind its admission,
-- while it was proposed
abbrev pub IsCaused : World → CmdId → (node range place : ℕ) → Ambiguity → Type 0
IsCaused w id node range place (causes.Snapshot own passed) =
    (own ≤ passed) × TookSnapshot w node range place passed
    × ((from : ℕ) × (number : ℕ) × CameWhileProposed w id node range place own (past.Deliver from number))
IsCaused w id node range place (causes.Removed own) =
    CameWhileProposed w id node range place own (past.Remove range)
IsCaused w id node range place (causes.Restarted own) =
    CameWhileProposed w id node range place own past.Restart

pub record HasCause (w : World) (id : CmdId) (why : Ambiguity) : Type 0 where
  pub node : ℕ
  pub admitted_at : ℕ
  pub range : ℕ
  pub request : Request
  pub admitted : IsAdmitted w id node admitted_at range request
  pub place : ℕ
  pub behind : admitted_at < place
  pub caused : IsCaused w id node range place why

-- a node keeps a place of the attempt, which its own node has applied, with this reply
pub record HasPlaceWith (w : World) (id : CmdId) (reply : Reply) : Type 0 where
  pub node : ℕ
  pub admitted_at : ℕ
  pub range : ℕ
  pub request : Request
  pub admitted : IsAdmitted w id node admitted_at range request
  pub index : ℕ
  pub seq : ℕ
  pub kept : KeepsPlace w node range index
      (record { id = id; request = request; seq = seq; reply = reply })

-- no node keeps a place of the attempt, now or at any later time
abbrev pub NeverHasAPlace : World → CmdId → Type 0
NeverHasAPlace w id =
    (later : World) (node range index : ℕ) (claim : Claim) → IsLater w later
    → KeepsPlace later node range index claim → claim.id ≡ id → ⊥

-- the attempt is a pending proposal of the replica that admitted it
pub record IsPendingThere (w : World) (id : CmdId) : Type 0 where
  pub node : ℕ
  pub admitted_at : ℕ
  pub range : ℕ
  pub request : Request
  pub admitted : IsAdmitted w id node admitted_at range request
  pub replica : Replica
  pub live : IsLiveAt w node range replica
  pub proposal : Proposal
  pub pending : proposal_of id replica.pending ≡ Some proposal
  pub asks : proposal.request ≡ request

-- how often the nodes' lists of outcomes name the attempt
abbrev pub times_ended : World → CmdId → ℕ
times_ended w id = sum_by (λ n. count_by (λ e. same_id e.id id) n.outcomes) w

-- what an attempt is told is true
pub record OutcomesAreHonest (w : World) : Type 0 where
  -- an attempt ends at most once
  pub once : (id : CmdId) → times_ended w id ≤ 1
  -- only what was admitted ends
  pub known : (id : CmdId) → 0 < times_ended w id
      → (node : ℕ) × (place : ℕ) × (range : ℕ) × (request : Request) × IsAdmitted w id node place range request
  -- Success is the reply at its place
  pub success : (id : CmdId) (reply : Reply) → outcome_of w id ≡ Some (Success reply)
      → HasPlaceWith w id reply
  -- Refused means never
  pub refused : (id : CmdId) (refusal : Refusal) → outcome_of w id ≡ Some (Refused refusal)
      → NeverHasAPlace w id
  -- Ambiguous has its cause: a snapshot that passed its lease index, a removal or a restart, while it was
  -- proposed
  pub ambiguous : (id : CmdId) (why : Ambiguity) → outcome_of w id ≡ Some (Ambiguous why)
      → HasCause w id why
  -- what has not ended is pending at its replica, and its node keeps no place of it
  pub pending : (id : CmdId) → outcome_of w id ≡ Some Pending → IsPendingThere w id
  pub unplaced : (id : CmdId) (node place range index : ℕ) (request : Request) (claim : Claim)
      → outcome_of w id ≡ Some Pending → IsAdmitted w id node place range request
      → KeepsPlace w node range index claim → claim.id ≡ id → ⊥

-- the promise of a world
pub record Promise (w : World) : Type 0 where
  -- of each range the records of its one list, and the state that it starts from
  pub records : ℕ → List Record
  pub start : ℕ → State
  -- every replica's table is the fold of a prefix of its range's one applied list
  pub states : StatesAgree w records start
  -- each command takes effect at most once, under the lease it was proposed with and inside its range
  pub places : PlacesAreLawful w records start
  -- Success is the reply at that place, Refused means never, Ambiguous has its cause
  pub outcomes : OutcomesAreHonest w
