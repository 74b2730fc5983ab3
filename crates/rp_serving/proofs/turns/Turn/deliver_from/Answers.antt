use Rattle.std.proofs.Common.{rules}
use Rattle.rp_serving.proofs.Halfway.{from_first, from_is, from_next, from_more, from_all}
use Rattle.rp_serving.proofs.turns.Turn.deliver_from.Goals as goal

pub loop-letter-init : goal.loop-letter-init
loop-letter-init g c = from_first _ _ _ _ _ _ (search rules) c.requires.under_way c.requires.left c.requires.stage

pub deliver-requires-clause-under_way : goal.deliver-requires-clause-under_way
deliver-requires-clause-under_way g c = c.loop-letter.invariant.under_way

pub deliver-requires-clause-next : goal.deliver-requires-clause-next
deliver-requires-clause-next g c = from_next _ _ _ _ _ _ c.next.new.self.rest.items (from_is _ _ _ _ _ _ _ c.in-Some.ensures.steps.0 c.loop-letter.invariant)

pub deliver-requires-clause-stage : goal.deliver-requires-clause-stage
deliver-requires-clause-stage g c = c.loop-letter.invariant.stage

pub loop-letter-preserved : goal.loop-letter-preserved
loop-letter-preserved g c =
    from_more _ _ _ _ _ _ _ c.next.new.self.rest.items (from_is _ _ _ _ _ _ _ c.in-Some.ensures.steps.0 c.loop-letter.invariant) c.in_ok-deliver.ensures.ok c.in_ok-deliver.ensures.under_way

pub returns-clause-ok : goal.returns-clause-ok
returns-clause-ok g c = from_all _ _ _ _ _ c.loop-letter.letter-iterator.rest.items (search rules) c.loop-letter.invariant

pub returns-clause-under_way : goal.returns-clause-under_way
returns-clause-under_way g c = c.loop-letter.invariant.under_way
