use Rattle.std.proofs.Common.{◌≤◌, ◌∙◌, sym, subst}
use Rattle.rp_switch.specs.Seats.{terms_of, known_by}
use Rattle.rp_switch.proofs.Backing.{may_give_back}
use Rattle.rp_desks.specs.Onward.{Admits}
use Rattle.rp_desks.proofs.Seated.{has, seated_on, low_of, same_terms, aims, named_stays, named_admits}
use Rattle.rp_desks.proofs.Trying.{given_back, may_be_stepped, may_give_it, tried}
use Rattle.rp_desks.proofs.seats.ClientSeat.try_admit.Goals as goal

pub try_take-requires-clause-node : goal.try_take-requires-clause-node
try_take-requires-clause-node g c =
    let s = c.args.self.now in
    let v = known_by s.seat in
    let is = s.seated in
    let same = same_terms g.K.Origin.from s.switch.now s.seat s.client s.client_is is in
    let low = aims v (terms_of s.switch.now) s.client c.args.node c.args.range c.args.id c.args.request.now same (subst (λ k. 1 ≤ k) s.switch.now.nodes_are s.switch.now.some) c.requires s.named in
    low_of g.K.Origin.from s.switch.now s.seat s.client s.client_is is c.args.node low

pub give-requires-clause-node : goal.give-requires-clause-node
give-requires-clause-node g c =
    let s = c.args.self.now in
    let v = known_by s.seat in
    let is = s.seated in
    let same = same_terms g.K.Origin.from s.switch.now s.seat s.client s.client_is is in
    let low = aims v (terms_of s.switch.now) s.client c.args.node c.args.range c.args.id c.args.request.now same (subst (λ k. 1 ≤ k) s.switch.now.nodes_are s.switch.now.some) c.requires s.named in
    subst (λ k. k ≤ (terms_of s.switch.now).nodes) (sym c.in-Ok.ensures.told.3) (low_of g.K.Origin.from s.switch.now s.seat s.client s.client_is is c.args.node low)

pub give-requires-clause-may : goal.give-requires-clause-may
give-requires-clause-may g c =
    let s = c.args.self.now in
    let v = known_by s.seat in
    let is = s.seated in
    let same = same_terms g.K.Origin.from s.switch.now s.seat s.client s.client_is is in
    let low = aims v (terms_of s.switch.now) s.client c.args.node c.args.range c.args.id c.args.request.now same (subst (λ k. 1 ≤ k) s.switch.now.nodes_are s.switch.now.some) c.requires s.named in
    may_give_back v (known_by c.try_take.new.seat) c.args.node c.in-Ok.taken c.node_fits.ensures.from_one low c.in-Ok.ensures.told

pub invariant_of-self-then-is_full : goal.invariant_of-self-then-is_full
invariant_of-self-then-is_full g c =
    let s = c.args.self.now in
    let v = known_by s.seat in
    let is = s.seated in
    let same = same_terms g.K.Origin.from s.switch.now s.seat s.client s.client_is is in
    let low = aims v (terms_of s.switch.now) s.client c.args.node c.args.range c.args.id c.args.request.now same (subst (λ k. 1 ≤ k) s.switch.now.nodes_are s.switch.now.some) c.requires s.named in
    let own = has g.K.Origin.from s.switch.now s.seat s.client s.client_is is in
    let w = known_by c.try_take.new.seat in
    let stays = given_back g.E.BufferEnd.gives v w s.client c.args.node c.args.range c.args.id c.args.request.now c.in-Ok.taken s.served.0 own c.node_fits.ensures.from_one low c.in-Ok.ensures.told c.requires (known_by c.give.new.seat) c.give.ensures.told in
    record {
      seated = seated_on g.K.Origin.from s.switch.now s.seat s.client s.client_is is c.give.new.seat (c.give.ensures.same.0 ∙ c.try_take.ensures.same.0) stays.onward;
      client_is = s.client_is;
      named = named_stays s.client v (known_by c.give.new.seat) stays s.named;
      served = s.served;
    }

pub returns-then-is_full-clause-told : goal.returns-then-is_full-clause-told
returns-then-is_full-clause-told g c =
    let s = c.args.self.now in
    let v = known_by s.seat in
    let is = s.seated in
    let same = same_terms g.K.Origin.from s.switch.now s.seat s.client s.client_is is in
    let low = aims v (terms_of s.switch.now) s.client c.args.node c.args.range c.args.id c.args.request.now same (subst (λ k. 1 ≤ k) s.switch.now.nodes_are s.switch.now.some) c.requires s.named in
    let own = has g.K.Origin.from s.switch.now s.seat s.client s.client_is is in
    let w = known_by c.try_take.new.seat in
    given_back g.E.BufferEnd.gives v w s.client c.args.node c.args.range c.args.id c.args.request.now c.in-Ok.taken s.served.0 own c.node_fits.ensures.from_one low c.in-Ok.ensures.told c.requires (known_by c.give.new.seat) c.give.ensures.told

pub step-answer-requires : goal.step-answer-requires
step-answer-requires g c =
    let s = c.args.self.now in
    let v = known_by s.seat in
    let is = s.seated in
    let same = same_terms g.K.Origin.from s.switch.now s.seat s.client s.client_is is in
    let low = aims v (terms_of s.switch.now) s.client c.args.node c.args.range c.args.id c.args.request.now same (subst (λ k. 1 ≤ k) s.switch.now.nodes_are s.switch.now.some) c.requires s.named in
    let own = has g.K.Origin.from s.switch.now s.seat s.client s.client_is is in
    let w = known_by c.try_take.new.seat in
    may_be_stepped g.E.BufferEnd.gives v w s.client c.args.node c.args.range c.args.id c.args.request.now c.in-Ok.taken s.served.0 own c.node_fits.ensures.from_one low c.in-Ok.ensures.told c.requires
    (sym c.is_full.ensures ∙ c.if-is_full.false) c.id_fits.ensures c.request_fits.ensures

pub give-requires-2-clause-node : goal.give-requires-2-clause-node
give-requires-2-clause-node g c =
    let s = c.args.self.now in
    let v = known_by s.seat in
    let is = s.seated in
    let same = same_terms g.K.Origin.from s.switch.now s.seat s.client s.client_is is in
    let low = aims v (terms_of s.switch.now) s.client c.args.node c.args.range c.args.id c.args.request.now same (subst (λ k. 1 ≤ k) s.switch.now.nodes_are s.switch.now.some) c.requires s.named in
    subst (λ k. k ≤ (terms_of s.switch.now).nodes) (sym c.in-Ok.ensures.told.3) (low_of g.K.Origin.from s.switch.now s.seat s.client s.client_is is c.args.node low)

pub give-requires-2-clause-may : goal.give-requires-2-clause-may
give-requires-2-clause-may g c =
    let s = c.args.self.now in
    let v = known_by s.seat in
    let is = s.seated in
    let same = same_terms g.K.Origin.from s.switch.now s.seat s.client s.client_is is in
    let low = aims v (terms_of s.switch.now) s.client c.args.node c.args.range c.args.id c.args.request.now same (subst (λ k. 1 ≤ k) s.switch.now.nodes_are s.switch.now.some) c.requires s.named in
    let own = has g.K.Origin.from s.switch.now s.seat s.client s.client_is is in
    let w = known_by c.try_take.new.seat in
    may_give_it g.E.BufferEnd.gives v w s.client c.args.node c.args.range c.args.id c.args.request.now c.in-Ok.taken s.served.0 own c.node_fits.ensures.from_one low c.in-Ok.ensures.told c.requires
    (sym c.is_full.ensures ∙ c.if-is_full.false) c.id_fits.ensures c.request_fits.ensures c.step-answer.new.self c.step-answer.result c.step-answer.ensures.ok c.step-answer.ensures.err

pub invariant_of-self-2 : goal.invariant_of-self-2
invariant_of-self-2 g c =
    let s = c.args.self.now in
    let v = known_by s.seat in
    let is = s.seated in
    let same = same_terms g.K.Origin.from s.switch.now s.seat s.client s.client_is is in
    let low = aims v (terms_of s.switch.now) s.client c.args.node c.args.range c.args.id c.args.request.now same (subst (λ k. 1 ≤ k) s.switch.now.nodes_are s.switch.now.some) c.requires s.named in
    let own = has g.K.Origin.from s.switch.now s.seat s.client s.client_is is in
    let w = known_by c.try_take.new.seat in
    let told = tried g.E.BufferEnd.gives v w s.client c.args.node c.args.range c.args.id c.args.request.now c.in-Ok.taken s.served.0 own c.node_fits.ensures.from_one low c.in-Ok.ensures.told c.requires
    (sym c.is_full.ensures ∙ c.if-is_full.false) c.id_fits.ensures c.request_fits.ensures c.step-answer.new.self (known_by c.give-2.new.seat) c.step-answer.result c.step-answer.ensures.ok c.step-answer.ensures.err c.give-2.ensures.told in
    record {
      seated = seated_on g.K.Origin.from s.switch.now s.seat s.client s.client_is is c.give-2.new.seat (c.give-2.ensures.same.0 ∙ c.try_take.ensures.same.0) told.onward;
      client_is = s.client_is;
      named = named_admits s.client v (known_by c.give-2.new.seat) c.args.node c.args.range c.args.id _ told s.named;
      served = s.served;
    }

pub returns-clause-told : goal.returns-clause-told
returns-clause-told g c =
    let s = c.args.self.now in
    let v = known_by s.seat in
    let is = s.seated in
    let same = same_terms g.K.Origin.from s.switch.now s.seat s.client s.client_is is in
    let low = aims v (terms_of s.switch.now) s.client c.args.node c.args.range c.args.id c.args.request.now same (subst (λ k. 1 ≤ k) s.switch.now.nodes_are s.switch.now.some) c.requires s.named in
    let own = has g.K.Origin.from s.switch.now s.seat s.client s.client_is is in
    let w = known_by c.try_take.new.seat in
    let told = tried g.E.BufferEnd.gives v w s.client c.args.node c.args.range c.args.id c.args.request.now c.in-Ok.taken s.served.0 own c.node_fits.ensures.from_one low c.in-Ok.ensures.told c.requires
    (sym c.is_full.ensures ∙ c.if-is_full.false) c.id_fits.ensures c.request_fits.ensures c.step-answer.new.self (known_by c.give-2.new.seat) c.step-answer.result c.step-answer.ensures.ok c.step-answer.ensures.err c.give-2.ensures.told in
    subst (λ r. Admits s.client v c.args.node c.args.range c.args.id r (known_by c.give-2.new.seat)) (sym c.answered.ensures) told
