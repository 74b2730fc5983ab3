use Rattle.std.proofs.Common.{◌≡◌, ◌+◌, ◌≤◌, max, cond, None, take}
use Rattle.std.specs.BTreeMap.{get}
use Rattle.rp_base.specs.Ids.{cmd_cmp}
use Rattle.rp_base.specs.declared.ids.CmdId.{CmdId}
use Rattle.rp_flush.specs.Assigns.{assigned_of, ids_of, seq_of}
use Rattle.rp_flush.specs.Counts.{stands}
use Rattle.rp_flush.proofs.assigns.assign.Given as goal

-- what the items so far make, the commands that did not stand among them, and how far the index rose
abbrev pub invariant-loop-item : goal.invariant-loop-item
invariant-loop-item l = record {
  given : l.all ≡ assigned_of (take l.item-index l.items) l.waiting l.seq l.fn.lai l.fn.assigned;
  left : (id : CmdId) → get cmd_cmp l.seqs id ≡ cond (stands id (ids_of (take l.item-index l.items))) None (seq_of l.waiting id);
  few : max l.all.last l.fn.lai ≤ max l.fn.assigned l.fn.lai + l.item-index;
}
