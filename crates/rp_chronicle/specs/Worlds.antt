-- What several nodes have of a range.
use Rattle.std.specs.Prelude.{◌≡◌, ℕ, ◌+◌, ◌≤◌, nat_lt, if◌then◌else◌, List, [], ◌∷◌, ◌++◌, fold, map, length, Option, None, Some}
use Rattle.rp_request.specs.History.{Piece, History}
use Rattle.rp_request.specs.declared.items.Record.{Record}
use Rattle.rp_events.specs.Nodes.{seat}
use Rattle.rp_events.specs.Worlds.{World}
use Rattle.rp_events.specs.Lists.{base_of, history_in, HasApplied, IsOneList}
use Rattle.rp_node.specs.Steps.{Held}

-- the world of several nodes, whatever their buffer ends
abbrev pub world_of : {B : Type 0} → List (Held B) → World
world_of nodes = map (λ h. h.node) nodes

-- the one of two histories that goes further, the first where they end alike
abbrev pub further : Option History → Option History → Option History
further None second = second
further (Some h) None = Some h
further (Some h) (Some k) = if nat_lt h.index k.index then Some k else Some h

-- what has been applied of a range by the node that has applied most of it
abbrev pub furthest_of : World → (range : ℕ) → Option History
furthest_of w range = fold further None (map (λ n. history_in (seat n range)) w)

-- one node has applied this of the range, and none has applied more
pub record IsFurthest (w : World) (range : ℕ) (h : History) : Type 0 where
  pub node : ℕ
  pub applied : HasApplied w node range h
  pub most : (other : ℕ) (k : History) → HasApplied w other range k → k.index ≤ h.index

-- no node has or had a replica of the range
abbrev pub IsUntouched : World → (range : ℕ) → Type 0
IsUntouched w range = (node : ℕ) (h : History) → HasApplied w node range h → ⊥

-- the range has one list, which ends at this index
pub record ListEndsAt (w : World) (range last : ℕ) : Type 0 where
  pub list : List Record
  pub is : IsOneList w range list
  pub ends : base_of range + length list ≡ last

-- all pieces of records that a history has, and that several nodes have of a range
abbrev pub pieces_in : Option History → List Piece
pieces_in None = []
pieces_in (Some h) = h.earlier ++ h.records ∷ []

abbrev pub pieces_of : World → (range : ℕ) → List Piece
pieces_of [] range = []
pieces_of (n ∷ w) range = pieces_in (history_in (seat n range)) ++ pieces_of w range
