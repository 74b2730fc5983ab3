use Rattle.std.proofs.Common.{true, option_copied, ap, sym, ◌∙◌}
use Rattle.std.specs.Option.{option_map}
use Rattle.rp_pending.specs.Refreshes.{to_refresh}
use Rattle.rp_raft.specs.Plans.{taken_in}
use Rattle.rp_replica.proofs.Refreshing.{refreshed_where}
use Rattle.rp_replica.proofs.replicas.Replica.refresh_all.Goals as goal

pub returns-in_ok-refresh-in-Some : goal.returns-in_ok-refresh-in-Some
returns-in_ok-refresh-in-Some c =
    ap (λ ids. record { again = c.in_ok-refresh-in-Some.refresh.again; back = ids }) c.new.ensures
    ∙ refreshed_where c.args.self.now.replica (taken_in c.args.raft.now) c.args.ticks c.in-Some.snapshot.now c.in_ok-refresh-in-Some.refresh
    (ap (λ p. option_map (λ taken. taken.1) (taken_in p)) (sym c.get.ensures) ∙ sym c.taken.ensures ∙ ap option_copied c.in-Some.is)
    (c.in_ok-refresh-in-Some.ensures
    ∙ ap (λ l. to_refresh l c.args.ticks true c.self.inside.pending.list) c.lai-lai.ensures
    ∙ ap (λ h. to_refresh c.in-Some.snapshot.now.lai c.args.ticks true h.replica.pending) c.self.view_is)
