-- The widths of what a replica holds, so that all that it hands to Raft is read back as it was written.
use Rattle.std.specs.Prelude.{◌≡◌, ℕ, ◌^◌, ◌<◌, List, None, Some}
use Rattle.std.specs.List.{AllByRecursion}
use Rattle.rp_base.specs.declared.ids.CmdId.{CmdId}
use Rattle.rp_request.specs.Covers.{HasKeys}
use Rattle.rp_request.specs.Fits.{FitsAsk, FitsCommand}
use Rattle.rp_pending.specs.declared.proposals.Proposal.{Proposal}
use Rattle.rp_events.specs.Flushes.{assigning}
use Rattle.rp_events.specs.Moves.{command_of}
use Rattle.rp_events.specs.Nodes.{Node, Live, seat}
use Rattle.rp_events.specs.Replicas.{Replica}
use Rattle.rp_events.specs.Worlds.{World, node_of, ended_of, outcome_at}
use Rattle.rp_seats.specs.Steps.{AreEnds}

-- a pending one has the widths of a command
abbrev pub FitsOne : Proposal → Type 0
FitsOne p = FitsCommand (command_of p)

abbrev pub FitEach : List Proposal → Type 0
FitEach ps = AllByRecursion FitsOne ps

-- and its keys lie in the key space
abbrev pub HasKeysOne : Proposal → Type 0
HasKeysOne p = HasKeys p.request

-- what is pending has the widths of a command and its keys in the key space, the lease asks of the inbox
-- have those of an ask, and the indexes that a flush gives stay below their end
pub record IsFit (r : Replica) : Type 0 where
  pub pending : FitEach r.pending
  pub keys : AllByRecursion HasKeysOne r.pending
  pub asks : AllByRecursion FitsAsk (assigning r).leases
  pub numbers : (assigning r).last < 2 ^ 64

-- so it is of each replica; the outcomes that a node keeps are ends, and of attempts that it was asked
pub record AreFit (w : World) : Type 0 where
  pub ends : (node : ℕ) (n : Node) → node_of w node ≡ Some n → AreEnds n.outcomes
  pub known : (node : ℕ) (n : Node) → node_of w node ≡ Some n → (id : CmdId)
      → outcome_at id n ≡ None → ended_of id n.outcomes ≡ None
  pub replicas : (node range : ℕ) (n : Node) (r : Replica) → node_of w node ≡ Some n
      → seat n range ≡ Live r → IsFit r
