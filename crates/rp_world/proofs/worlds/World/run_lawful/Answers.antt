use Rattle.std.proofs.Common.{◌≡◌, length, sym, subst}
use Rattle.rp_events.specs.declared.world_events.WorldEvent.{WorldEvent}
use Rattle.rp_book.specs.declared.bookings.Booked.{Booked}
use Rattle.rp_lawful.specs.Comings.{Comes}
use Rattle.rp_world.specs.Plays.{admission, happened}
use Rattle.rp_world.proofs.Running.{admission_ran, lawful_comes, no_admission, ok_is, other_ran}
use Rattle.rp_world.proofs.worlds.World.run_lawful.Goals as goal

pub run_admission-requires-clause-comes : goal.run_admission-requires-clause-comes
run_admission-requires-clause-comes c =
    let w = c.args.self.now.world in
    subst (λ (b : Booked). Comes w (admission c.in-Admit.id b)) (sym c.booking.ensures)
    (subst (Comes w) c.in-Admit.is (lawful_comes (length w.nodes) w c.args.event.now c.requires.reached c.requires.lawful c.event_fits.ensures))

pub run_other-requires : goal.run_other-requires
run_other-requires c =
    let w = c.args.self.now.world in
    record {
      reached = c.requires.reached;
      comes = lawful_comes (length w.nodes) w c.args.event.now c.requires.reached c.requires.lawful c.event_fits.ensures;
      no_admission = no_admission c.args.event.now c.in_default.not-Admit;
    }

pub returns-in-Admit-clause-ok : goal.returns-in-Admit-clause-ok
returns-in-Admit-clause-ok c =
    ok_is c.run_admission.result c.run_admission.new.self _ _ c.run_admission.ensures.ok
    (admission_ran c.args.self.now c.args.event.now c.in-Admit.node c.in-Admit.range c.in-Admit.id c.in-Admit.request c.booking.result c.in-Admit.is c.requires.lawful c.booking.ensures)

pub returns-in_default-clause-ok : goal.returns-in_default-clause-ok
returns-in_default-clause-ok c =
    ok_is c.run_other.result c.run_other.new.self (happened c.args.event.now c.args.self.now) _ c.run_other.ensures.ok
    (other_ran c.args.self.now c.args.event.now (no_admission c.args.event.now c.in_default.not-Admit))
