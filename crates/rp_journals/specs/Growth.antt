-- What only grows: a node and a world later on (this project).
use Rattle.std.specs.Prelude.{◌≡◌, ℕ, List, ◌++◌, length, Some}
use Rattle.rp_events.specs.Nodes.{Node}
use Rattle.rp_events.specs.Worlds.{World, node_of, sent_by}

-- the list begins with this front
pub record Begins {X : Type 0} (front list : List X) : Type 0 where
  pub more : List X
  pub is : list ≡ front ++ more

-- a node later on: the same number among as many nodes, with as many seats; what it has sent, its
-- journal, the list of its requests and that of its outcomes have grown at their ends
pub record Grows (n later : Node) : Type 0 where
  pub number : later.node ≡ n.node
  pub of : later.nodes ≡ n.nodes
  pub seats : length later.seats ≡ length n.seats
  pub sent : Begins n.sent later.sent
  pub journal : Begins n.journal later.journal
  pub requests : Begins n.requests later.requests
  pub outcomes : Begins n.outcomes later.outcomes

-- the world has the node, as it is later on
pub record HasLater (later : World) (node : ℕ) (n : Node) : Type 0 where
  pub now : Node
  pub has : node_of later node ≡ Some now
  pub grows : Grows n now

-- a world later on: the same nodes, each as it is later on
pub record WorldGrows (w later : World) : Type 0 where
  pub size : length later ≡ length w
  pub each : (node : ℕ) (n : Node) → node_of w node ≡ Some n → HasLater later node n

-- what each node has sent begins with what it sent in the other world
abbrev pub SentGrows : World → World → Type 0
SentGrows w later = (from : ℕ) → Begins (sent_by w from) (sent_by later from)
