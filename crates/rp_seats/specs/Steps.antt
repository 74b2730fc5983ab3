-- What a part of an event is in the range machine, and what it tells of the attempts that end.
use Rattle.std.specs.Prelude.{◌≡◌, ℕ, ◌<◌, if◌then◌else◌, List, [], ◌∷◌, ◌++◌, map, Option, None, Some}
use Rattle.rp_base.specs.Ids.{same_id}
use Rattle.rp_base.specs.declared.ids.CmdId.{CmdId}
use Rattle.rp_request.specs.declared.outcomes.Outcome.{Outcome}
use Rattle.rp_request.specs.declared.outcomes.Outcome.TheVariants as outcomes
use Rattle.rp_pending.specs.declared.proposals.Proposal.{Proposal}
use Rattle.rp_rangesafe.specs.Attempts.{Stage, Unborn, Attempt, Attempts}
use Rattle.rp_rangesafe.specs.World.{World, Event, Admit, Commit, AllLawful, happens, run}
use Rattle.std.specs.List.{AllByRecursion}
use Rattle.rp_rangesafe.specs.Places.{HappensAt}
use Rattle.rp_request.specs.Applied.{AppliedState}
use Rattle.rp_request.specs.declared.commands.Payload.{Payload}
use Rattle.rp_raftsafe.specs.World as raft
use Rattle.rp_raftsafe.specs.Safety.{OneListOf}
use Rattle.rp_events.specs.Nodes.{Node}
use Rattle.rp_events.specs.Worlds as worlds
use Rattle.rp_events.specs.Worlds.{node_of}
use Rattle.rp_seats.specs.Views.{range_at}
use Rattle.rp_events.specs.declared.answers.Ended.{Ended}
use Rattle.rp_events.specs.declared.moves.Move.{Move}
use Rattle.rp_events.specs.declared.moves.Move.TheVariants.{HandsOut}
use Rattle.rp_events.specs.Replicas.{Told}
use Rattle.rp_seats.specs.Standing.{HasPlace, IsToldAs, PendingOk, RaftOk}

-- each happens at this node
abbrev pub AllHappenAt : (node : ℕ) → World → List Event → Type 0
AllHappenAt node h [] = Unit {0}
AllHappenAt node h (e ∷ es) = HappensAt h e node × AllHappenAt node (happens h e) es

-- none of them is an admission
abbrev pub AdmitsNone : List Event → Type 0
AdmitsNone [] = Unit {0}
AdmitsNone (Admit id node body ∷ es) = ⊥
AdmitsNone (e ∷ es) = AdmitsNone es

-- each happens at another node, or at none
abbrev pub AreElsewhere : (node : ℕ) → World → List Event → Type 0
AreElsewhere node h [] = Unit {0}
AreElsewhere node h (e ∷ es) = (HappensAt h e node → ⊥) × AreElsewhere node (happens h e) es

-- lawful steps of the node lead to these attempts, and leave all else
pub record StepsTo (node : ℕ) (h : World) (attempts : Attempts) : Type 0 where
  pub events : List Event
  pub lawful : AllLawful h events
  pub own : AllHappenAt node h events
  pub quiet : AdmitsNone events
  pub leads : run h events ≡ record h { attempt = attempts }

-- what attempts are told once one has ended, and once these have
abbrev pub tell : (CmdId → Option Outcome) → Ended → CmdId → Option Outcome
tell told e id = if same_id id e.id then Some e.outcome else told id

abbrev pub told_after : (CmdId → Option Outcome) → List Ended → CmdId → Option Outcome
told_after told [] = told
told_after told (e ∷ es) = told_after (tell told e) es

-- an end
abbrev pub IsEnd : Outcome → Type 0
IsEnd (outcomes.Success reply) = Unit {0}
IsEnd (outcomes.Refused why) = Unit {0}
IsEnd (outcomes.Ambiguous why) = Unit {0}
IsEnd outcomes.Pending = ⊥

-- each of these was pending until it ended
abbrev pub EndEach : (CmdId → Option Outcome) → List Ended → Type 0
EndEach told [] = Unit {0}
EndEach told (e ∷ es) =
    (told e.id ≡ Some outcomes.Pending) × IsEnd e.outcome × EndEach (tell told e) es

-- the outcomes that a node keeps are ends
abbrev pub AreEnds : List Ended → Type 0
AreEnds ended = AllByRecursion (λ e. IsEnd e.outcome) ended

-- the node with these outcomes behind its own
abbrev pub with_outcomes : Node → List Ended → Node
with_outcomes n more = record n { outcomes = n.outcomes ++ more }

-- a hand-out gives a maximum above 0
abbrev pub GivesAbove : List Move → Type 0
GivesAbove [] = Unit {0}
GivesAbove (HandsOut id max ∷ moves) = (0 < max) × GivesAbove moves
GivesAbove (move ∷ moves) = GivesAbove moves

-- the node's part of an event so far is lawful steps of the node, behind which its pending proposals
-- stand for the attempts
pub record IsSteps (node : ℕ) (h : World) (told : CmdId → Option Outcome) (t : Told) : Type 0 where
  pub attempts : Attempts
  pub steps : StepsTo node h attempts
  pub pending : PendingOk attempts node t.replica.pending t.replica.latches (told_after told t.ended)
  pub ended : EndEach told t.ended

-- how a proposal ends is how a change of stages ends its attempt; one that does not end keeps its stage
abbrev pub EndsSo : (Stage → Stage) → Proposal → Attempt → Option Outcome → Type 0
EndsSo change p a None = change a.stage ≡ a.stage
EndsSo change p a (Some outcome) = IsToldAs (change a.stage) (Some outcome)

-- what ends proposals is this change of stages: it changes nothing of what has ended or was not made
pub record EndsAs (ends : Proposal → Option Outcome) (change : Stage → Stage) : Type 0 where
  pub each : (p : Proposal) (a : Attempt) → HasPlace p.stage p.max a → EndsSo change p a (ends p)
  pub closed : (s : Stage) (told : Option Outcome) → IsToldAs s told → change s ≡ s
  pub unborn : change Unborn ≡ Unborn

-- the machine's entries once Raft's committed list of a range has grown by these events: the same list
-- behind them, and all else stays
pub record RaftTurned (nodes range : ℕ) (s : AppliedState) (one : OneListOf (range_at nodes range s))
    (seen : List raft.Event) (w : worlds.World) (h : World) : Type 0 where
  pub payloads : List Payload
  pub lawful : AllLawful h (map Commit payloads)
  pub leads : run h (map Commit payloads) ≡ record h { log = h.log ++ payloads }
  pub raft : RaftOk nodes range s one seen w (record h { log = h.log ++ payloads })
