use Rattle.rp_node.specs.Ticks.{event_of}
use Rattle.rp_node.proofs.Ticking.{PlansSoFar}
use Rattle.rp_node.proofs.ticks.plan_all.Given as goal

-- the seats so far have planned
abbrev pub invariant-loop-seat : goal.invariant-loop-seat
invariant-loop-seat l = PlansSoFar (event_of l.happens) l.ticks l.rounds l.fn.seats l.seat-items l.seat-index l.plans.items
