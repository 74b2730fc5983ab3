use Rattle.std.proofs.Common.{◌≡◌, take}
use Rattle.std.specs.BTreeMap.{get}
use Rattle.rp_base.specs.declared.ids.CmdId.{CmdId}
use Rattle.rp_flush.specs.Assigns.{seq_of}
use Rattle.rp_base.specs.Ids.{cmd_cmp}
use Rattle.rp_flush.proofs.waits.seqs_by_id.Given as goal

-- the sequences of those so far
abbrev pub invariant-loop-proposal : goal.invariant-loop-proposal
invariant-loop-proposal l = (id : CmdId) → get cmd_cmp l.seqs id ≡ seq_of (take l.proposal-index l.waiting) id
