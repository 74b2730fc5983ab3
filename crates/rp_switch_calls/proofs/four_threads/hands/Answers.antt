use Rattle.std.proofs.Common.{ap}
use Rattle.rp_switch.specs.Seats.{known_by}
use Rattle.rp_switch.specs.Views.{Knowledge}
use Rattle.rp_switch_calls.proofs.Firsts.{handed, kept}
use Rattle.rp_switch_calls.proofs.four_threads.hands.Goals as goal

pub returns-clause-rest : goal.returns-clause-rest
returns-clause-rest c =
    kept (known_by c.args.seat.now) (known_by c.split.new.seat) c.args.client c.args.aim.now.0 c.args.aim.now.1 c.args.aim.now.2 c.split.ensures.old c.requires.client.0 c.requires.may

pub returns-clause-ready : goal.returns-clause-ready
returns-clause-ready c = record {
  of = c.split.ensures.of;
  five = c.requires.nodes;
  idle = ap (λ (v : Knowledge). v.stage) c.split.ensures.new;
  part = ap (λ (v : Knowledge). v.parts) c.split.ensures.new;
  may = handed (known_by c.args.seat.now) (known_by c.split.result) c.args.client c.args.aim.now.0 c.args.aim.now.1 c.args.aim.now.2 c.split.ensures.new c.requires.client.1 c.requires.may;
}
