use Rattle.std.proofs.Common.{Some, ap, ◌∙◌}
use Rattle.rp_replica.proofs.Applying.{opens}
use Rattle.rp_replica.proofs.replicas.Replica.right_of.Goals as goal

pub returns : goal.returns
returns c =
    ap Some c.in_ok-right.ensures
    ∙ opens c.args.self.now.replica.applied.state c.args.request.now c.in-Split.key c.in_ok-start.start c.desc.result c.lease.result c.table.result.now.map
    c.in-Split.is
    (c.desc.ensures ∙ ap (λ h. h.replica.applied.state.desc) c.self.view_is)
    (c.lease.ensures ∙ ap (λ h. h.replica.applied.state.lease) c.self.view_is)
    (c.table.ensures ∙ ap (λ h. h.replica.applied.state.table) c.self.view_is)
    c.in_ok-start.ensures
