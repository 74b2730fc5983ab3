-- Which call is due at a bench (this project). A worker serves the nodes whose number, less one, is
-- its own modulo the number of workers: from its first one on, every so many. It serves them
-- ascending, again and again, and a round of a node is a pull from each other node, ascending, then
-- the round itself, then a post.
use Rattle.std.specs.Prelude.{◌≡◌, ℕ, ◌+◌, Bool, true, false, ◌==◌, nat_le, if◌then◌else◌, Result, Ok, Err}
use Rattle.rp_base.specs.declared.memory.NoMemory.{NoMemory}

-- the call that is due; none where the worker serves no node, and after want of memory
pub data Due : Type 0 where
  pull : (from to : ℕ) → Due
  round : ℕ → Due
  post : ℕ → Due
  nothing : Due

-- the worker, how many workers and nodes there are, the call that is due, and whether the bench
-- said that the work is over
pub record Standing : Type 0 where
  pub worker : ℕ
  pub workers : ℕ
  pub nodes : ℕ
  pub due : Due
  pub is_over : Bool

-- a pull from this node, if there is such a one, else the round
abbrev pub pull_or_round : (nodes to from : ℕ) → Due
pull_or_round nodes to from = if nat_le from nodes then pull from to else round to

-- the pulls to a node from this node on, the node itself left out, and then the round
abbrev pub pulls_from : (nodes to from : ℕ) → Due
pulls_from nodes to from =
    if from == to then pull_or_round nodes to (from + 1) else pull_or_round nodes to from

-- a node's round begins with the pulls from node 1 on
abbrev pub begins : (nodes node : ℕ) → Due
begins nodes node = pulls_from nodes node 1

-- the worker's first node is the one after its own number; where there is none it serves no node
abbrev pub first_due : (worker nodes : ℕ) → Due
first_due worker nodes = if nat_le (worker + 1) nodes then begins nodes (worker + 1) else nothing

-- the round of this node, if there is such a one, else that of the worker's first
abbrev pub round_from : (worker nodes node : ℕ) → Due
round_from worker nodes node =
    if nat_le node nodes then begins nodes node else first_due worker nodes

-- which call is due after the one that is
abbrev pub next_due : Standing → Due → Due
next_due s (pull from to) = pulls_from s.nodes to (from + 1)
next_due s (round node) = post node
next_due s (post node) = round_from s.worker s.nodes (node + s.workers)
next_due s nothing = nothing

-- a bench at which this call is due
abbrev pub at_due : Due → Standing → Standing
at_due due s = record s { due = due }

-- after the call that was due the next one is; after want of memory none is any more
abbrev pub after_call : Result (Unit {0}) NoMemory → Standing → Standing
after_call (Ok done) s = at_due (next_due s s.due) s
after_call (Err want) s = at_due nothing s

-- after the question whether the work is over
abbrev pub after_over : Bool → Standing → Standing
after_over true s = record s { is_over = true }
after_over false s = s

-- a bench of this worker, of so many workers and nodes
pub record IsBenchOf (worker workers nodes : ℕ) (s : Standing) : Type 0 where
  pub worker_is : s.worker ≡ worker
  pub workers_are : s.workers ≡ workers
  pub nodes_are : s.nodes ≡ nodes

-- a pass over all nodes of the worker is about to begin
abbrev pub IsAtStart : Standing → Type 0
IsAtStart s = s.due ≡ first_due s.worker s.nodes
