use Rattle.std.proofs.Common.{rules, ◌≡◌, ap, sym, ◌∙◌, true, false}
use Rattle.rp_events.specs.Buffered.{is_live}
use Rattle.rp_events.specs.Nodes.{seat}
use Rattle.rp_serving.proofs.Ranging.{place_passed, place_later}
use Rattle.rp_serving.proofs.ranges.live_range.Goals as goal
use Rattle.rp_serving.proofs.ranges.live_range.Goals.{then-is_live+else-left-eq0, else-is_live}

pub loop-number-preserved : goal.loop-number-preserved
loop-number-preserved g c =
    let at : c.unwrap-range.result ≡ c.loop-number.number = search rules in
    elim c.if-is_live.branch [
      | then-is_live+else-left-eq0 w ↦
          c.loop-number.invariant
          ∙ place_passed (λ range. is_live (seat c.args.node.now.node range)) c.loop-number.number c.loop-number.left c.if-is_live.left (search rules)
          (ap (λ k. is_live (seat c.args.node.now.node k)) (sym at) ∙ sym c.is_live.ensures ∙ w.if-is_live.true) (search rules)
      | else-is_live w ↦
          c.loop-number.invariant
          ∙ place_later (λ range. is_live (seat c.args.node.now.node range)) c.loop-number.number c.loop-number.left (search rules)
          (ap (λ k. is_live (seat c.args.node.now.node k)) (sym at) ∙ sym c.is_live.ensures ∙ w.if-is_live.false)
          ∙ search rules
    ]
