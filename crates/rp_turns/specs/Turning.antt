-- A scene as a turn of each range: what it grants, what the machine does in it, and what it tells.
use Rattle.std.specs.Prelude.{◌≡◌, ℕ, true, false, ◌==◌, if◌then◌else◌, List, [], ◌∷◌, ◌++◌, length, Option, None, Some}
use Rattle.rp_base.specs.declared.ids.CmdId.{CmdId}
use Rattle.rp_request.specs.Applied.{AppliedState}
use Rattle.rp_request.specs.declared.outcomes.Outcome.{Outcome}
use Rattle.rp_request.specs.declared.outcomes.Outcome.TheVariants as outcomes
use Rattle.rp_request.specs.declared.outcomes.Refusal.{Refusal}
use Rattle.rp_raftsafe.specs.World as raft
use Rattle.rp_raftsafe.specs.Safety.{OneList}
use Rattle.rp_rangesafe.specs.Attempts.{Body}
use Rattle.rp_rangesafe.specs.World as machine
use Rattle.rp_rangesafe.specs.World.{Event, AllLawful}
use Rattle.rp_rangesafe.specs.Ranges.{Ranges, Nobody}
use Rattle.rp_events.specs.Nodes.{Node}
use Rattle.rp_events.specs.Worlds.{World, Happening, Admit, Scene, node_of, outcome_at, happens}
use Rattle.rp_seats.specs.Scenes.{raft_events}
use Rattle.rp_seats.specs.Standing.{RangeOk, IsShut}
use Rattle.rp_seats.specs.Steps.{AdmitsNone, AreElsewhere, IsEnd}

-- the attempt that an admission is of was made nowhere
abbrev pub IsNew : Ranges → Happening → Type 0
IsNew m (Admit range id request) = m.owner id ≡ Nobody
IsNew m _ = Unit {0}

-- an admission that is granted with this body, as an event of the machine of a range
abbrev pub admission_of : Body → (node range : ℕ) → Happening → List Event
admission_of body node range (Admit at id request) =
    if at == range then machine.Admit id node body ∷ [] else []
admission_of body node range _ = []

abbrev pub admission : Option Body → (node range : ℕ) → Happening → List Event
admission None node range what = []
admission (Some body) node range what = admission_of body node range what

-- who is not granted an admission is told at the node that it is refused; one that is granted is of the
-- request, in a range that there is
abbrev pub IsAnswered : Ranges → World → Option Body → (node : ℕ) → Happening → Type 0
IsAnswered m after None node (Admit at id request) =
    (why : Refusal) × ((n : Node) → node_of after node ≡ Some n
    → outcome_at id n ≡ Some (outcomes.Refused why))
IsAnswered m after (Some body) node (Admit at id request) =
    (m.opened at ≡ true) × (body.request ≡ request)
IsAnswered m after None node _ = Unit {0}
IsAnswered m after (Some body) node _ = ⊥

-- one range after a scene at this node: behind what was admitted lawful steps of the machine, none of
-- which admits, at the node or at none; behind them the range stands at all nodes
pub record RangeTurned (lists : OneList AppliedState) (range : ℕ) (s : AppliedState)
    (seen : List raft.Event) (after : World) (h : machine.World) (node : ℕ) (first : List Event)
    : Type 0 where
  pub rest : List Event
  pub lawful : AllLawful h (first ++ rest)
  pub quiet : AdmitsNone rest
  pub elsewhere : (other : ℕ) → (other ≡ node → ⊥) → AreElsewhere other h (first ++ rest)
  pub range_ok : RangeOk lists (length after) range s seen after (machine.run h (first ++ rest))

-- the scene is an admission of the attempt
abbrev pub AsksFor : CmdId → Happening → Type 0
AsksFor id (Admit range other request) = other ≡ id
AsksFor id _ = ⊥

-- what a node tells after a scene: nothing of an attempt of which it told nothing and that the scene
-- does not ask it to admit; and an end stays
pub record TellsOn (x : Scene) (node : ℕ) (n new : Node) : Type 0 where
  pub nothing : (id : CmdId) → (x.node ≡ node → AsksFor id x.what → ⊥) → outcome_at id n ≡ None
      → outcome_at id new ≡ None
  pub ended : (id : CmdId) (o : Outcome) → outcome_at id n ≡ Some o → IsEnd o
      → outcome_at id new ≡ Some o

-- each node of the world after a scene was one before it
pub record WasThere (w : World) (x : Scene) (node : ℕ) (new : Node) : Type 0 where
  pub n : Node
  pub was : node_of w node ≡ Some n
  pub tells : TellsOn x node n new

-- a scene turns each range that there is, and leaves each other one shut
pub record SceneTurned (lists : OneList AppliedState) (w : World) (m : Ranges)
    (seen : ℕ → List raft.Event) (x : Scene) : Type 0 where
  pub granted : Option Body
  pub answered : IsAnswered m (happens w x) granted x.node x.what
  pub turns : (range : ℕ) → m.opened range ≡ true
      → RangeTurned lists range (m.range range).start (seen range ++ raft_events range w x)
      (happens w x) (m.range range) x.node (admission granted x.node range x.what)
  pub shut : (range : ℕ) → m.opened range ≡ false
      → IsShut range (seen range ++ raft_events range w x) (happens w x)
  pub nodes : (node : ℕ) (new : Node) → node_of (happens w x) node ≡ Some new → WasThere w x node new
