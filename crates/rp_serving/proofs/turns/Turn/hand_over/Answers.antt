use Rattle.std.proofs.Common.{rules, ◌∙◌, sym, subst}
use Rattle.rp_serving.specs.Playing.{HandsWithin}
use Rattle.rp_serving.specs.Turns.{known_of}
use Rattle.rp_serving.proofs.Rounding.{hand_within}
use Rattle.rp_serving.proofs.Stages.{may_transfer_now}
use Rattle.rp_serving.proofs.Stepping.{transferred_heard}
use Rattle.rp_serving.proofs.turns.Turn.hand_over.Goals as goal

pub transfer-requires-clause-may : goal.transfer-requires-clause-may
transfer-requires-clause-may g c =
    let due = sym c.due_handover.ensures ∙ c.in-Some.is in
    let v = known_of c.args.self.now in
    may_transfer_now v.terms.rules v.terms.nodes c.args.self.now.node v.seen c.args.node.now.node c.requires.flushed.ranges c.in-Some.handover c.requires.flushed.stage c.requires.flushed.all due (search rules)
    (hand_within v.terms.rules v.terms.nodes c.args.node.now.node c.in-Some.handover (subst (HandsWithin (known_of c.args.self.now).terms.nodes) c.args.self.now.rules_are c.args.self.now.hands) due)

pub returns-in-Some-asked-clause-heard : goal.returns-in-Some-asked-clause-heard
returns-in-Some-asked-clause-heard g c = transferred_heard _ _ _ _ _ _ c.in-Some.handover.range c.in-Some.handover.to c.in_ok-asked.ensures.ok

pub returns-in_default-asked-clause-heard : goal.returns-in_default-asked-clause-heard
returns-in_default-asked-clause-heard g c = transferred_heard _ _ _ _ _ _ c.in-Some.handover.range c.in-Some.handover.to c.in_ok-asked.ensures.ok
