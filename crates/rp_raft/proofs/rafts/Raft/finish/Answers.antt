use Rattle.std.proofs.Common.{List, subst, sym}
use Rattle.rp_raftlog.specs.declared.entries.Entry.{Entry}
use Rattle.rp_raft.specs.Plans.{CanHold, behind_of}
use Rattle.rp_raft.proofs.Fills.{behind_fits}
use Rattle.rp_raft.proofs.rafts.Raft.finish.Goals as goal

pub commit_after-commit-requires-clause-hold : goal.commit_after-commit-requires-clause-hold
commit_after-commit-requires-clause-hold g c =
    subst (λ (z : List Entry). CanHold c.self.inside.log.log z) (sym c.behind_of-added.ensures)
    (subst (λ h. CanHold h.raft.log (behind_of c.args.draft.now.edit)) (sym c.self.view_is) (behind_fits c.args.self.now.raft.log c.args.draft.now.edit c.requires.edit))
