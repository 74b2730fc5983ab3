-- Which call is due at a worker's bench, and what it then has copied (this project).
use Rattle.std.specs.Prelude.{◌≡◌, ◌≢◌, ℕ, ◌+◌, ◌-◌, ◌<◌, Bool, true, not, ◌&&◌, ◌==◌, nat_le, List, slice_get, Some, Result, Ok, Err}
use Rattle.rp_base.specs.declared.memory.NoMemory.{NoMemory}
use Rattle.rp_events.specs.Nodes.{Node}
use Rattle.rp_events.specs.Worlds.{World, node_of}
use Rattle.rp_rounds.specs.Rounds.{Due, pull, round, post, nothing}
use Rattle.rp_serving.specs.declared.lanes.Lane.{Lane}
use Rattle.rp_serving.specs.Mails.{lane_in, IsUpToDate}
use Rattle.rp_bench.specs.declared.calls.Call.{Call}
use Rattle.rp_bench.specs.declared.calls.Call.TheVariants.{Pull, Round, Post, Nothing}
use Rattle.rp_bench.specs.declared.stations.Station.{Station}

abbrev pub due_of : Call → Due
due_of (Pull from to) = pull from to
due_of (Round node) = round node
due_of (Post node) = post node
due_of Nothing = nothing

-- after want of memory none is due
abbrev pub next_or_nothing : Result (Unit {0}) NoMemory → Due → Due
next_or_nothing (Ok done) next = next
next_or_nothing (Err want) next = nothing

-- it names nodes that there are
abbrev pub is_within : (nodes : ℕ) → Due → Bool
is_within nodes (pull from to) = nat_le from nodes && nat_le to nodes && not (from == to)
is_within nodes (round node) = nat_le node nodes
is_within nodes (post node) = nat_le node nodes
is_within nodes nothing = true

-- the node whose round is at hand, and below which number the others were copied for it
abbrev pub served_by : Due → ℕ
served_by (pull from to) = to
served_by (round node) = node
served_by (post node) = node
served_by nothing = 0

abbrev pub copied_to : (nodes : ℕ) → Due → ℕ
copied_to nodes (pull from to) = from
copied_to nodes (round node) = nodes + 1
copied_to nodes (post node) = 0
copied_to nodes nothing = 0

-- All that the other nodes below this number had sent, as they were seen, is copied for a node whose rounds may be
-- played.
abbrev pub IsPulled : World → List Station → (to most : ℕ) → Type 0
IsPulled seen stations to most =
    (from : ℕ) (m : Node) (s : Station) (lane : Lane) → from < most → from ≢ to → node_of seen from ≡ Some m
    → slice_get stations (to - 1) ≡ Some s → s.may_play ≡ true → lane_in s.mail from ≡ Some lane → IsUpToDate m lane
