-- Events of a node in another world, in which the node is the same (this project).
use Rattle.std.specs.Prelude.{◌≡◌, ℕ, List}
use Rattle.rp_events.specs.Worlds.{World, Happening, node_of, run}
use Rattle.rp_events.specs.Lawful.{AllLawful}
use Rattle.rp_journals.specs.Growth.{WorldGrows}
use Rattle.rp_journals.specs.Asked.{AskedOnce, all_at}

-- a world in which other nodes have gone on, and this one is the same: what each has kept, and so
-- what it has sent, begins with what it kept in the first world
pub record IsAhead (w other : World) (node : ℕ) : Type 0 where
  pub same : node_of other node ≡ node_of w node
  pub grows : WorldGrows w other
  pub once : AskedOnce other

-- the events of the node are lawful there, leave the same node, and leave every other as it is
pub record HappensThere (w other : World) (node : ℕ) (xs : List Happening) : Type 0 where
  pub lawful : AllLawful other (all_at node xs)
  pub same : node_of (run other (all_at node xs)) node ≡ node_of (run w (all_at node xs)) node
  pub others : (k : ℕ) → (k ≡ node → ⊥) → node_of (run other (all_at node xs)) k ≡ node_of other k
