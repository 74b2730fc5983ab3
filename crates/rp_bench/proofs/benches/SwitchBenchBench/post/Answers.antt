use Rattle.std.proofs.Common.{◌≡◌, ℕ, ◌+◌, subst, sym, ap, ◌∙◌}
use Rattle.rp_rounds.specs.Rounds.{round_from}
use Rattle.rp_switch.specs.declared.terms.Terms.{Terms}
use Rattle.rp_switch.specs.Seats.{known_by}
use Rattle.rp_bench.specs.Dues.{due_of, next_or_nothing}
use Rattle.rp_bench.proofs.Dueing.{Stands, round_stands, after_any}
use Rattle.rp_bench.proofs.benches.SwitchBenchBench.post.Goals as goal

pub invariant_of-self : goal.invariant_of-self
invariant_of-self g c =
    let count : ℕ = g.K.Origin.from.known.terms.nodes in
    let now = c.post-posted.new.self in
    let worker = c.args.self.now.worker in
    let workers = c.args.self.now.workers in
    let nodes_is : c.nodes-nodes.result ≡ count = c.nodes-nodes.ensures ∙ ap (λ (t : Terms). t.nodes) now.seated.terms_are in
    let next_is : due_of c.round_from-next.result ≡ round_from worker count (c.get.result + workers) =
    c.round_from-next.ensures ∙ ap (λ k. round_from worker k (c.get.result + workers)) nodes_is in
    let due_is : due_of c.due_after-due.result ≡ next_or_nothing c.post-posted.result (round_from worker count (c.get.result + workers)) =
    c.due_after-due.ensures ∙ ap (next_or_nothing c.post-posted.result) next_is in
    let stands : Stands count (known_by now.seat).seen now.stations (due_of c.due_after-due.result) =
    subst (Stands count (known_by now.seat).seen now.stations) (sym due_is)
    (after_any count (known_by now.seat).seen now.stations (round_from worker count (c.get.result + workers)) c.post-posted.result
    (round_stands count (known_by now.seat).seen now.stations worker (c.get.result + workers))) in
    record { few = c.args.self.now.few; within = stands.within; pulled = stands.pulled }
