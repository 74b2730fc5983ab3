use Rattle.std.proofs.Common.{◌∙◌, sym, subst}
use Rattle.rp_switch.specs.Seats.{known_by}
use Rattle.rp_switch.proofs.Backing.{may_give_back}
use Rattle.rp_desks.specs.Onward.{Looks}
use Rattle.rp_desks.proofs.Seated.{has, seated_on, named_stays}
use Rattle.rp_desks.proofs.Visits.{visited, visit_looks}
use Rattle.rp_desks.proofs.seats.ClientSeat.try_rounds.Goals as goal

pub give-requires-clause-may : goal.give-requires-clause-may
give-requires-clause-may g c =
    may_give_back (known_by c.args.self.now.seat) (known_by c.try_take.new.seat) c.args.node c.in-Ok.taken c.node_fits.ensures.from_one c.requires c.in-Ok.ensures.told

pub invariant_of-self-2 : goal.invariant_of-self-2
invariant_of-self-2 g c =
    let s = c.args.self.now in
    let is = s.seated in
    let visit = visited (known_by s.seat) (known_by c.try_take.new.seat) (known_by c.give.new.seat) c.args.node c.in-Ok.taken c.in-Ok.taken.node.node
    c.node_fits.ensures.from_one c.requires c.in-Ok.ensures.told c.give.ensures.told in
    let looks = visit_looks (known_by s.seat) (known_by c.give.new.seat) c.args.node c.in-Ok.ensures.told.0 c.in-Ok.taken.node.node s.client visit s.served.0
    (has g.K.Origin.from s.switch.now s.seat s.client s.client_is is) in
    record {
      seated = seated_on g.K.Origin.from s.switch.now s.seat s.client s.client_is is c.give.new.seat (c.give.ensures.same.0 ∙ c.try_take.ensures.same.0) looks.stays.onward;
      client_is = s.client_is;
      named = named_stays s.client (known_by s.seat) (known_by c.give.new.seat) looks.stays s.named;
      served = s.served;
    }

pub returns-clause-told : goal.returns-clause-told
returns-clause-told g c =
    let s = c.args.self.now in
    let visit = visited (known_by s.seat) (known_by c.try_take.new.seat) (known_by c.give.new.seat) c.args.node c.in-Ok.taken c.in-Ok.taken.node.node
    c.node_fits.ensures.from_one c.requires c.in-Ok.ensures.told c.give.ensures.told in
    let looks = visit_looks (known_by s.seat) (known_by c.give.new.seat) c.args.node c.in-Ok.ensures.told.0 c.in-Ok.taken.node.node s.client visit s.served.0
    (has g.K.Origin.from s.switch.now s.seat s.client s.client_is s.seated) in
    subst (λ rounds. Looks s.client (known_by s.seat) c.args.node rounds (known_by c.give.new.seat)) (sym c.rounds-rounds.ensures) looks
