use Rattle.std.proofs.Common.{rules, ◌≡◌, ℕ, ◌+◌, ◌≤◌, subst, sym, ap, ◌∙◌, arith}
use Rattle.rp_rounds.specs.Rounds.{pulls_from, pull}
use Rattle.rp_switch.specs.declared.terms.Terms.{Terms}
use Rattle.rp_switch.specs.Seats.{known_by}
use Rattle.rp_bench.specs.Dues.{due_of, is_within, served_by, copied_to, next_or_nothing, IsPulled}
use Rattle.rp_bench.proofs.Dueing.{Stands, after_pull, low_to}
use Rattle.rp_bench.proofs.benches.SwitchBenchBench.pull.Goals as goal

pub copy-copied-requires-clause-pulled : goal.copy-copied-requires-clause-pulled
copy-copied-requires-clause-pulled g c =
    subst (λ d. IsPulled (known_by c.args.self.now.seat.seat).seen c.args.self.now.seat.stations (served_by d) (copied_to g.K.Origin.from.known.terms.nodes d)) c.requires c.args.self.now.pulled

pub invariant_of-self : goal.invariant_of-self
invariant_of-self g c =
    let count : ℕ = g.K.Origin.from.known.terms.nodes in
    let now = c.copy-copied.new.self in
    let low : c.args.to ≤ count = low_to count c.args.from c.args.to (sym (ap (is_within count) c.requires) ∙ c.args.self.now.within) in
    let nodes_is : c.nodes-nodes.result ≡ count = c.nodes-nodes.ensures ∙ ap (λ (t : Terms). t.nodes) now.seated.terms_are in
    let to_is : c.get.result ≡ c.args.to = c.get.ensures.value in
    let from_is : c.get-2.result ≡ c.args.from = c.get-2.ensures.value in
    let next_is : due_of c.pulls_from-next.result ≡ pulls_from count c.args.to (c.args.from + 1) =
    c.pulls_from-next.ensures ∙ ap (λ k. pulls_from k c.get.result (c.get-2.result + 1)) nodes_is ∙ ap (λ k. pulls_from count k (c.get-2.result + 1)) to_is
    ∙ ap (λ k. pulls_from count c.args.to (k + 1)) from_is in
    let due_is : due_of c.due_after-due.result ≡ next_or_nothing c.copy-copied.result (pulls_from count c.args.to (c.args.from + 1)) =
    c.due_after-due.ensures ∙ ap (next_or_nothing c.copy-copied.result) next_is in
    let stands : Stands count (known_by now.seat).seen now.stations (due_of c.due_after-due.result) =
    subst (Stands count (known_by now.seat).seen now.stations) (sym due_is)
    (after_pull count (known_by now.seat).seen now.stations c.args.to c.args.from c.copy-copied.result low c.copy-copied.ensures.pulled) in
    record { few = c.args.self.now.few; within = stands.within; pulled = stands.pulled }
