use Rattle.std.proofs.Common.{◌≡◌, ap, subst, ◌∙◌}
use Rattle.std.specs.Prelude.{IfOk, filter_map}
use Rattle.rp_events.specs.Ends.{end_of}
use Rattle.rp_replica.specs.Ends.{ends_by, end_by}
use Rattle.rp_replica.proofs.Ending.{ends_same}
use Rattle.rp_replica.proofs.replicas.Replica.ends.Goals as goal

pub returns : goal.returns
returns c =
    subst (λ l. IfOk c.ends_of.result (λ o. o ≡ l))
    (ap (filter_map (end_by c.args.cause.now)) (c.as_slice.ensures ∙ c.in_ok-standings.ensures)
    ∙ ends_same c.args.cause.now _
    ∙ ap (λ h. filter_map (end_of (ends_by c.args.cause.now)) h.replica.pending) c.self.view_is)
    c.ends_of.ensures
