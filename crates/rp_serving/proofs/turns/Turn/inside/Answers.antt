use Rattle.std.proofs.Common.{◌∙◌, sym, arith}
use Rattle.rp_serving.specs.Turns.{known_of}
use Rattle.rp_serving.proofs.Rounding.{heard_on, same_again, may_end_now}
use Rattle.rp_serving.proofs.Stepping.{ticked_heard}
use Rattle.rp_serving.proofs.turns.Turn.inside.Goals as goal

pub hand_over-requires-clause-handed : goal.hand_over-requires-clause-handed
hand_over-requires-clause-handed g c =
    c.in_ok-deliver_all.ensures.counted ∙ c.requires.mail.handed ∙ sym c.in_ok-deliver_all.ensures.handed
    ∙ sym (ticked_heard _ _ _ _ _ _ c.in_ok-happen.ensures.ok).handed ∙ sym c.in_ok-flush_all.ensures.heard.handed

pub returns-clause-heard : goal.returns-clause-heard
returns-clause-heard g c =
    let v = known_of c.args.self.now in
    let first = c.deliver_all.new.node.node in
    let second = c.happen.new.node.node in
    let third = c.flush_all.new.node.node in
    let fourth = c.hand_over.new.node.node in
    let last = c.apply_all.new.node.node in
    heard_on v.terms.rules c.args.self.now.node v.seen first last c.in_ok-deliver_all.ensures.heard
    (same_again first second last (ticked_heard _ _ _ _ _ _ c.in_ok-happen.ensures.ok).heard
    (same_again second third last c.in_ok-flush_all.ensures.heard.heard
    (same_again third fourth last c.in_ok-hand_over.ensures.heard c.in_ok-apply_all.ensures.heard.heard)))

pub returns-clause-may : goal.returns-clause-may
returns-clause-may g c = may_end_now (known_of c.args.self.now).terms.rules c.apply_all.new.node.node c.in_ok-apply_all.ensures.may c.in_ok-apply_all.ensures.none

pub returns-clause-emptied : goal.returns-clause-emptied
returns-clause-emptied g c =
    let e = c.in_ok-deliver_all.ensures.emptied in
    record { node = e.node; each = e.each }

pub returns-clause-handed : goal.returns-clause-handed
returns-clause-handed g c = c.in_ok-hand_over.ensures.handed ∙ sym c.in_ok-apply_all.ensures.heard.handed
