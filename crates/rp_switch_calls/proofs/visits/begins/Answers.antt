use Rattle.std.proofs.Common.{rules, ◌≡◌, ◌-◌, ◌≤◌, false, ap, subst, sym, refl, ◌∙◌}
use Rattle.rp_base.specs.declared.ids.CmdId.{CmdId}
use Rattle.rp_events.specs.declared.node_events.Event.TheVariants.{Admit}
use Rattle.rp_events.specs.MaySteps.{MayStep}
use Rattle.rp_events.specs.Nodes.{is_full}
use Rattle.rp_race.specs.Gives.{after_admission}
use Rattle.rp_request.specs.declared.requests.Request.TheVariants.{Del}
use Rattle.rp_switch.specs.Gifts.{IsGift}
use Rattle.rp_switch.specs.Seats.{known_by}
use Rattle.rp_switch.specs.Views.{Knowledge}
use Rattle.rp_switch.proofs.Backing.{may_give, may_give_back}
use Rattle.rp_switch_calls.proofs.Visiting.{rests, nothing_given, steps_may, gift_by}
use Rattle.rp_switch_calls.proofs.visits.begins.Goals as goal

pub give-requires-clause-may : goal.give-requires-clause-may
give-requires-clause-may c =
    let some : 1 ≤ c.args.aim.now.0 = search rules in
    may_give_back (known_by c.args.seat.now) (known_by c.try_take.new.seat) c.args.aim.now.0 c.in-Ok.taken some c.requires.may.low c.in-Ok.ensures.told

pub returns-then-is_full-clause-idle : goal.returns-then-is_full-clause-idle
returns-then-is_full-clause-idle c =
    let some : 1 ≤ c.args.aim.now.0 = search rules in
    (rests (known_by c.args.seat.now) (known_by c.try_take.new.seat) (known_by c.give.new.seat) c.args.aim.now.0 c.in-Ok.taken.number c.in-Ok.taken c.in-Ok.taken.node.node some
    c.requires.may.low c.in-Ok.ensures.told refl c.give.ensures.told).idle

pub returns-then-is_full-clause-parts : goal.returns-then-is_full-clause-parts
returns-then-is_full-clause-parts c =
    let some : 1 ≤ c.args.aim.now.0 = search rules in
    (rests (known_by c.args.seat.now) (known_by c.try_take.new.seat) (known_by c.give.new.seat) c.args.aim.now.0 c.in-Ok.taken.number c.in-Ok.taken c.in-Ok.taken.node.node some
    c.requires.may.low c.in-Ok.ensures.told refl c.give.ensures.told).parts

pub returns-then-is_full-clause-not : goal.returns-then-is_full-clause-not
returns-then-is_full-clause-not c =
    let some : 1 ≤ c.args.aim.now.0 = search rules in
    λ e. nothing_given (known_by c.args.seat.now) (known_by c.try_take.new.seat) (known_by c.give.new.seat) c.args.aim.now.0 c.in-Ok.taken.number c.args.client c.in-Ok.taken c.in-Ok.taken.node.node some
    c.requires.may.low c.requires.may.some c.in-Ok.ensures.told refl c.give.ensures.told refl c.requires.may.first

pub admits-done-requires : goal.admits-done-requires
admits-done-requires c =
    let some : 1 ≤ c.args.aim.now.0 = search rules in
    let room : is_full c.in-Ok.taken.node.node ≡ false = sym c.is_full.ensures ∙ c.if-is_full.false in
    record {
      may = subst (λ (i : CmdId). MayStep c.in-Ok.taken.node.node (Admit c.args.aim.now.1 i (Del c.args.aim.now.2))) (sym c.first_id.ensures) (steps_may (known_by c.args.seat.now) c.args.client c.args.aim.now.0 c.args.aim.now.1 c.args.aim.now.2 c.requires.may c.in-Ok.ensures.told.0 c.in-Ok.ensures.told.1 c.in-Ok.taken.node.node
          some c.in-Ok.ensures.told.2 room c.ranges.client.fits c.is_key.ensures);
    }

pub give-requires-2-clause-may : goal.give-requires-2-clause-may
give-requires-2-clause-may c =
    let some : 1 ≤ c.args.aim.now.0 = search rules in
    let room : is_full c.in-Ok.taken.node.node ≡ false = sym c.is_full.ensures ∙ c.if-is_full.false in
    may_give (known_by c.args.seat.now) (known_by c.try_take.new.seat) c.args.aim.now.0 c.in-Ok.taken c.admits-done.new.node.node some c.requires.may.low c.in-Ok.ensures.told
    (subst (λ (k : Knowledge). IsGift k (c.args.aim.now.0 - 1) c.in-Ok.ensures.told.0 c.in-Ok.taken.node.node c.admits-done.new.node.node) (sym c.in-Ok.ensures.told.4)
    (gift_by (known_by c.args.seat.now) c.args.client c.args.aim.now.0 c.args.aim.now.1 c.args.aim.now.2 c.requires.may c.in-Ok.ensures.told.0 c.in-Ok.ensures.told.1 c.in-Ok.taken.node.node
    some c.in-Ok.ensures.told.2 room c.ranges.client.fits c.is_key.ensures c.admits-done.result c.admits-done.new.node.node
    (λ e. c.admits-done.ensures.done e ∙ ap (λ (i : CmdId). after_admission c.in-Ok.taken.node.node c.args.aim.now.1 i (Del c.args.aim.now.2)) c.first_id.ensures)
    c.admits-done.ensures.not))

pub returns-clause-idle : goal.returns-clause-idle
returns-clause-idle c =
    let some : 1 ≤ c.args.aim.now.0 = search rules in
    (rests (known_by c.args.seat.now) (known_by c.try_take.new.seat) (known_by c.give-2.new.seat) c.args.aim.now.0 c.in-Ok.taken.number c.in-Ok.taken c.admits-done.new.node.node some
    c.requires.may.low c.in-Ok.ensures.told refl c.give-2.ensures.told).idle

pub returns-clause-parts : goal.returns-clause-parts
returns-clause-parts c =
    let some : 1 ≤ c.args.aim.now.0 = search rules in
    (rests (known_by c.args.seat.now) (known_by c.try_take.new.seat) (known_by c.give-2.new.seat) c.args.aim.now.0 c.in-Ok.taken.number c.in-Ok.taken c.admits-done.new.node.node some
    c.requires.may.low c.in-Ok.ensures.told refl c.give-2.ensures.told).parts

pub returns-clause-not : goal.returns-clause-not
returns-clause-not c =
    let some : 1 ≤ c.args.aim.now.0 = search rules in
    λ e. nothing_given (known_by c.args.seat.now) (known_by c.try_take.new.seat) (known_by c.give-2.new.seat) c.args.aim.now.0 c.in-Ok.taken.number c.args.client c.in-Ok.taken c.admits-done.new.node.node some
    c.requires.may.low c.requires.may.some c.in-Ok.ensures.told refl c.give-2.ensures.told (c.admits-done.ensures.not e) c.requires.may.first
