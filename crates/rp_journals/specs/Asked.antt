-- Where attempts are asked: at most once, over all journals (this project).
use Rattle.std.specs.Prelude.{◌≡◌, ℕ, false, IsTrue, List, [], ◌∷◌, map, sum_by, count_by, Some, Ok}
use Rattle.rp_base.specs.declared.ids.CmdId.{CmdId}
use Rattle.rp_request.specs.declared.requests.Request.{Request}
use Rattle.rp_request.specs.declared.evaluations.Evaluated.{Evaluated}
use Rattle.rp_events.specs.declared.journals.JournalEntry.{JournalEntry}
use Rattle.rp_events.specs.Replicas.{Replica}
use Rattle.rp_events.specs.Admissions.{guarded}
use Rattle.rp_events.specs.Nodes.{Node}
use Rattle.rp_events.specs.Worlds.{World, Happening, Admit, Schedule, node_of, is_admission_of, asked_at}
use Rattle.rp_events.specs.Lists.{IsWritten, IsAskedOnceAt, StoodAs}
use Rattle.rp_journals.specs.Entries.{at_node}

-- how often the journals have an admission of the attempt, be it granted or refused
abbrev pub times_asked : World → CmdId → ℕ
times_asked w id = sum_by (λ n. count_by (is_admission_of id) n.journal) w

-- each attempt is asked at one place of one journal at most
abbrev pub AskedOnce : World → Type 0
AskedOnce w = (id : CmdId) (node place : ℕ) (e : JournalEntry) → IsWritten w node place e
    → IsTrue (is_admission_of id e) → IsAskedOnceAt w id node place

-- how an attempt was admitted: the replica as it stood just before, which let it through
pub record WasAdmitted (w : World) (id : CmdId) (node place range : ℕ) (request : Request)
    : Type 0 where
  pub only : IsAskedOnceAt w id node place
  pub replica : Replica
  pub stood : StoodAs w node place range replica
  pub evaluation : Evaluated
  pub passed : guarded replica request ≡ Ok evaluation

-- no other node was asked for the attempts that begin in these
abbrev pub AskedNowhereElse : World → (node : ℕ) → List Happening → Type 0
AskedNowhereElse w node [] = Unit {0}
AskedNowhereElse w node (Admit range id request ∷ xs) =
    ((other : ℕ) (m : Node) → node_of w other ≡ Some m → (other ≡ node → ⊥) → asked_at id m ≡ false)
    × AskedNowhereElse w node xs
AskedNowhereElse w node (x ∷ xs) = AskedNowhereElse w node xs

-- what happens at one node, as a schedule
abbrev pub all_at : (node : ℕ) → List Happening → Schedule
all_at node xs = map (at_node node) xs
