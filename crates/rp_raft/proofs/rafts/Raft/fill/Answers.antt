use Rattle.std.proofs.Common.{ℕ, ◌++◌, subst, sym}
use Rattle.rp_raftstep.specs.Step.{due_peers, sends_among, sent}
use Rattle.rp_raft.specs.declared.plans.RaftDraft.{RaftDraft}
use Rattle.rp_raft.specs.Plans.{Makes, ahead, behind_of, draft_of, with_commit}
use Rattle.rp_raft.proofs.Fills.{fills}
use Rattle.rp_raft.proofs.rafts.Raft.fill.Goals as goal

pub returns-clause-plan : goal.returns-clause-plan
returns-clause-plan g c =
    subst (λ (d : RaftDraft g.row.S.Denot). Makes c.args.self.now.raft (record { draft = d; commit = c.in_ok-plan.field-0; replies = c.len-plan.result }) (draft_of c.args.self.now.raft.log c.args.plan.now.draft) (sent (g.M.MakeSnap.index c.args.snap.now) (g.M.MakeSnap.snapshot c.args.snap.now) (draft_of c.args.self.now.raft.log c.args.plan.now.draft)))
    (sym c.in_ok-plan.ensures.draft)
    (subst (λ (n : ℕ). Makes c.args.self.now.raft (record { draft = record c.args.plan.now.draft { messages = c.args.plan.now.draft.messages ++ sends_among (g.M.MakeSnap.index c.args.snap.now) (g.M.MakeSnap.snapshot c.args.snap.now) (ahead (with_commit c.args.plan.now.draft.head c.in_ok-plan.field-0) c.args.self.now.raft.log (behind_of c.args.plan.now.draft.edit)) (due_peers (with_commit c.args.plan.now.draft.head c.in_ok-plan.field-0) c.args.plan.now.draft.due) }; commit = c.in_ok-plan.field-0; replies = n }) (draft_of c.args.self.now.raft.log c.args.plan.now.draft) (sent (g.M.MakeSnap.index c.args.snap.now) (g.M.MakeSnap.snapshot c.args.snap.now) (draft_of c.args.self.now.raft.log c.args.plan.now.draft)))
    (sym c.len-plan.ensures)
    (fills (g.M.MakeSnap.index c.args.snap.now) (g.M.MakeSnap.snapshot c.args.snap.now) c.args.self.now.raft c.args.plan.now.draft c.in_ok-plan.field-0 c.requires c.in_ok-plan.ensures.state))
