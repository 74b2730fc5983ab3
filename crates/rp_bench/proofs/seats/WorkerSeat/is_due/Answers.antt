use Rattle.std.proofs.Common.{◌≡◌, ℕ, ◌+◌, sym, ap, subst, ◌∙◌}
use Rattle.rp_switch.specs.declared.terms.Terms.{Terms}
use Rattle.rp_switch.specs.Seats.{known_by}
use Rattle.rp_bench.specs.Dues.{IsPulled}
use Rattle.rp_bench.proofs.Waiting.{due_may}
use Rattle.rp_bench.proofs.seats.WorkerSeat.is_due.Goals as goal

pub returns : goal.returns
returns g c =
    let s = c.args.self.now in
    let first : c.nodes.result ≡ g.K.Origin.from.known.terms.nodes = c.nodes.ensures ∙ ap (λ (t : Terms). t.nodes) s.seated.terms_are in
    let same : c.nodes.result ≡ (known_by s.seat).terms.nodes = first ∙ sym (ap (λ (t : Terms). t.nodes) s.seated.onward.terms) in
    λ due. let found = c.is_due.ensures due in
    due_may (known_by s.seat) s.stations c.args.node c.nodes.result s.at_work same
    (subst (λ (k : ℕ). IsPulled (known_by s.seat).seen s.stations c.args.node (k + 1)) (sym first) c.requires.pulled) found.0 found.1 found.2
