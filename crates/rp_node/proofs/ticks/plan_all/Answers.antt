use Rattle.std.proofs.Common.{List, ◌+◌, Option, arith, get_or, slice_set, sym, ap, subst}
use Rattle.rp_request.specs.Applied.{AppliedState}
use Rattle.rp_events.specs.MaySteps.{SeatAllows}
use Rattle.rp_events.specs.declared.replica_events.ReplicaEvent.{ReplicaEvent}
use Rattle.rp_replica.specs.declared.plans.ReplicaPlan.{ReplicaPlan}
use Rattle.rp_node.specs.Cores.{status_of}
use Rattle.rp_node.specs.Plans.{SeatReady}
use Rattle.rp_node.specs.Ticks.{event_of}
use Rattle.rp_node.proofs.Ticking.{PlansSoFar, may_plan, plan_more, seats_stay}
use Rattle.rp_node.proofs.ticks.plan_all.Goals as goal

pub plan-requires : goal.plan-requires
plan-requires c =
    let old = get_or c.loop-seat.seat-items c.loop-seat.seat-index c.seat-item.result in
    subst (λ (e : ReplicaEvent AppliedState). SeatAllows (status_of old) e c.args.ticks) (sym c.event.ensures)
    (may_plan (event_of c.args.happens) c.args.ticks c.args.rounds c.args.seats.now c.loop-seat.seat-items c.loop-seat.seat-index old c.loop-seat.plans.items
    c.requires c.loop-seat.invariant (omega (arith, c.loop-seat.auto.seat-items, c.loop-seat-test.true)) (ap (λ d. get_or c.loop-seat.seat-items c.loop-seat.seat-index d) c.seat-item.is))

pub returns-in_err-plan-clause-seats : goal.returns-in_err-plan-clause-seats
returns-in_err-plan-clause-seats c =
    seats_stay c.args.seats.now c.loop-seat.seat-items c.loop-seat.seat-index (get_or c.loop-seat.seat-items c.loop-seat.seat-index c.seat-item.result) c.plan.new.self
    (ap (λ d. get_or c.loop-seat.seat-items c.loop-seat.seat-index d) c.seat-item.is) c.plan.ensures.status c.loop-seat.invariant.same

pub returns-in_err-push-clause-seats : goal.returns-in_err-push-clause-seats
returns-in_err-push-clause-seats c =
    seats_stay c.args.seats.now c.loop-seat.seat-items c.loop-seat.seat-index (get_or c.loop-seat.seat-items c.loop-seat.seat-index c.seat-item.result) c.plan.new.self
    (ap (λ d. get_or c.loop-seat.seat-items c.loop-seat.seat-index d) c.seat-item.is) c.plan.ensures.status c.loop-seat.invariant.same

pub loop-seat-preserved : goal.loop-seat-preserved
loop-seat-preserved c =
    let old = get_or c.loop-seat.seat-items c.loop-seat.seat-index c.seat-item.result in
    let new = c.plan.new.self in
    subst (λ (l : List (Option ReplicaPlan)). PlansSoFar (event_of c.args.happens) c.args.ticks c.args.rounds c.args.seats.now (slice_set c.loop-seat.seat-items c.loop-seat.seat-index new) (c.loop-seat.seat-index + 1) l) (sym c.in_ok-push.ensures.items)
    (plan_more (event_of c.args.happens) c.args.ticks c.args.rounds c.args.seats.now c.loop-seat.seat-items c.loop-seat.seat-index old new c.loop-seat.plans.items c.in_ok-plan.plan
    c.loop-seat.invariant (omega (arith, c.loop-seat.auto.seat-items, c.loop-seat-test.true)) (ap (λ d. get_or c.loop-seat.seat-items c.loop-seat.seat-index d) c.seat-item.is) c.plan.ensures.status
    (subst (λ (e : ReplicaEvent AppliedState). SeatReady new e c.args.ticks c.args.rounds c.in_ok-plan.plan) c.event.ensures c.in_ok-plan.ensures.plan))
