use Rattle.std.proofs.Common.{◌+◌, ◌≤◌, sym, subst}
use Rattle.rp_switch.specs.Seats.{known_by}
use Rattle.rp_switch.specs.Rules.{clients_of}
use Rattle.rp_racers.specs.Raced.{IsUntried, AreUntried}
use Rattle.rp_racers.proofs.Joining.{others_untried, its_untried}
use Rattle.rp_racers.proofs.clients.hand_out.Goals as goal

pub returns-clause-untried : goal.returns-clause-untried
returns-clause-untried g c =
    subst (AreUntried (c.args.client + 1)) (sym c.split-seat.ensures.old)
    (others_untried c.args.client (known_by c.args.rights.now.seat) c.requires.client.0 c.requires.untried)

pub returns-clause-its_untried : goal.returns-clause-its_untried
returns-clause-its_untried g c =
    let v = known_by c.args.rights.now.seat in
    let low : c.args.client ≤ clients_of v.terms = subst (λ t. c.args.client ≤ clients_of t) (sym c.requires.at.0.1) c.requires.client.1 in
    subst (IsUntried c.args.client) (sym c.split-seat.ensures.new) (its_untried c.args.client v low c.requires.untried)
