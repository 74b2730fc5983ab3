-- Worlds whose nodes have kept the same (this project).
use Rattle.std.specs.Prelude.{◌≡◌, ℕ, length, Some}
use Rattle.rp_events.specs.Nodes.{Node}
use Rattle.rp_events.specs.Worlds.{World, node_of}

-- two nodes of one number that have sent, written down and been asked the same
pub record KeepsSame (n m : Node) : Type 0 where
  pub number : m.node ≡ n.node
  pub of : m.nodes ≡ n.nodes
  pub sent : m.sent ≡ n.sent
  pub journal : m.journal ≡ n.journal
  pub requests : m.requests ≡ n.requests

-- and two worlds of such nodes
pub record AllKeepSame (w v : World) : Type 0 where
  pub size : length v ≡ length w
  pub each : (node : ℕ) (n m : Node) → node_of w node ≡ Some n → node_of v node ≡ Some m
      → KeepsSame n m
