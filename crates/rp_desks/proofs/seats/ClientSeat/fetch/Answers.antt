use Rattle.rp_desks.proofs.Fetching.{hears}
use Rattle.rp_desks.proofs.Seated.{has, seated_on, named_hears}
use Rattle.rp_switch.specs.Seats.{known_by}
use Rattle.rp_desks.proofs.seats.ClientSeat.fetch.Goals as goal

pub invariant_of-self : goal.invariant_of-self
invariant_of-self g c =
    let s = c.args.self.now in
    let is = s.seated in
    let told = hears (known_by s.seat) (known_by c.try_fetch.new.seat) s.client c.try_fetch.result is.onward.idle
    (has g.K.Origin.from s.switch.now s.seat s.client s.client_is is) c.try_fetch.ensures.told in
    record {
      seated = seated_on g.K.Origin.from s.switch.now s.seat s.client s.client_is is c.try_fetch.new.seat c.try_fetch.ensures.same.0 told.onward;
      client_is = s.client_is;
      named = named_hears s.client (known_by s.seat) (known_by c.try_fetch.new.seat) c.try_fetch.result told s.named;
      served = s.served;
    }

pub returns-clause-told : goal.returns-clause-told
returns-clause-told g c =
    let s = c.args.self.now in
    hears (known_by s.seat) (known_by c.try_fetch.new.seat) s.client c.try_fetch.result s.seated.onward.idle
    (has g.K.Origin.from s.switch.now s.seat s.client s.client_is s.seated) c.try_fetch.ensures.told
