use Rattle.std.proofs.Common.{◌≡◌, ℕ, suc, ◌+◌, ◌%◌, true, false, sym, ◌∙◌, subst, arith, Option}
use Rattle.std.specs.Prelude.{IfSome}
use Rattle.std.proofs.lemmas.Bool.{eqb-true, le-ltb}
use Rattle.rp_events.specs.Nodes.{Node}
use Rattle.rp_events.specs.Worlds.{World}
use Rattle.rp_race.specs.declared.rules.RaceRules.{RaceRules}
use Rattle.rp_serving.specs.Mails.{IsMailOf}
use Rattle.rp_bench.proofs.workers.station.Goals as goal
use Rattle.rp_bench.proofs.workers.station.Goals.{then-place-nodes, else-place-nodes}

differ : true ≡ false → ⊥
differ e = cc

pub returns : goal.returns
returns c =
    let played : c.new-2.result.may_play ≡ true → c.if-place-nodes.may_play ≡ true = λ plays. sym c.new-2.ensures.may_play ∙ plays in
    let value : c.unwrap.result ≡ c.args.place + 1 = subst (λ (o : Option ℕ). IfSome o (λ n. n ≡ c.args.place + 1)) c.unwrap.ensures c.new.ensures.value in
    let number : c.unwrap.result ≡ suc c.args.place = omega (arith, value) in
    record {
      rounds = c.new-2.ensures.looks.0;
      waited = c.new-2.ensures.looks.1;
      serves = λ plays. elim c.if-place-nodes.branch [ then-place-nodes w ↦ (w.if-place-nodes.true, eqb-true (c.args.place % c.args.workers) c.args.worker (sym w.may_play-is ∙ played plays)) | else-place-nodes w ↦ absurd (let low = w.if-place-nodes.false in let none = le-ltb c.args.place c.args.nodes low in differ (sym (played plays) ∙ w.may_play-is ∙ none)) ];
      mail = λ (r : RaceRules) (seen : World) (n : Node) none. subst (λ (k : ℕ). IsMailOf r k seen n c.new-2.result.mail) number (c.new-2.ensures.mail r seen n none);
    }
