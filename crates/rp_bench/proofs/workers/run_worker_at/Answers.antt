use Rattle.std.proofs.Common.{◌≡◌, ℕ, subst, sym, ap, ◌∙◌, Option, Some, IfSome}
use Rattle.rp_race.specs.declared.rules.RaceRules.{RaceRules}
use Rattle.rp_race.specs.Ends.{patience}
use Rattle.rp_switch.specs.declared.terms.Terms.{Terms}
use Rattle.rp_switch.specs.Seats.{known_by}
use Rattle.rp_bench.specs.Stations.{AreFresh}
use Rattle.rp_bench.proofs.Beginning.{begins_work}
use Rattle.rp_bench.proofs.workers.run_worker_at.Goals as goal

pub invariant_of-bench-2 : goal.invariant_of-bench-2
invariant_of-bench-2 g c =
    let o = g.K.Origin.from in
    let nodes_is : c.nodes-nodes.result ≡ o.known.terms.nodes = c.nodes-nodes.ensures ∙ ap (λ (t : Terms). t.nodes) c.requires.seated.terms_are in
    let rules_are : c.rules.result.now ≡ o.known.terms.rules = c.rules.ensures ∙ ap (λ (t : Terms). t.rules) c.requires.seated.terms_are in
    record {
      seated = c.requires.seated;
      board_is = c.requires.board;
      most_is = λ rounds is. subst (λ (z : Option ℕ). IfSome z (λ r. r ≡ patience c.rules.result.now)) is c.patience.ensures ∙ ap patience rules_are;
      hands = c.requires.hands;
      few = c.requires.few;
      at_work = begins_work (known_by c.args.rights.seat) o.known c.args.worker c.args.workers c.stations.result c.requires.known c.requires.seated.onward.idle c.requires.fresh c.requires.may
          (subst (λ k. AreFresh c.args.worker c.args.workers k c.stations.result) nodes_is c.stations.ensures);
    }
