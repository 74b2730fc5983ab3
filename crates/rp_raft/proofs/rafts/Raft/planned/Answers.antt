use Rattle.std.proofs.Common.{subst, sym}
use Rattle.std.proofs.lemmas.Result.{on_ok_weaker}
use Rattle.rp_raftstep.specs.declared.events.RaftEvent.{RaftEvent}
use Rattle.rp_raft.specs.Plans.{Plans}
use Rattle.rp_raft.proofs.Fills.{proposes}
use Rattle.rp_raft.proofs.rafts.Raft.planned.Goals as goal

pub returns-in_ok-propose_behind-in-Propose-clause-plan : goal.returns-in_ok-propose_behind-in-Propose-clause-plan
returns-in_ok-propose_behind-in-Propose-clause-plan g c =
    on_ok_weaker c.fill-in-Propose.result
    (λ made. subst (λ (event : RaftEvent g.row.S.Denot). Plans (g.M.MakeSnap.index c.args.snap.now) (g.M.MakeSnap.snapshot c.args.snap.now) c.args.self.now.raft event c.fill-in-Propose.new.plan)
    (sym c.in-Propose.is)
    (proposes (g.M.MakeSnap.index c.args.snap.now) (g.M.MakeSnap.snapshot c.args.snap.now) c.args.self.now.raft c.fill-in-Propose.new.plan c.args.plan.now.draft c.propose_behind.new.draft
    c.in-Propose.payloads c.requires.begun.begun c.requires.begun.head c.in_ok-propose_behind-in-Propose.ensures.is made))
    c.fill-in-Propose.ensures.plan
