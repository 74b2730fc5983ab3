use Rattle.std.proofs.Common.{◌+◌, sym, subst}
use Rattle.rp_bench.specs.Worked.{MayServe}
use Rattle.rp_switch.specs.Seats.{known_by}
use Rattle.rp_racers.specs.Raced.{AreUntried, AreUnserved}
use Rattle.rp_racers.proofs.Joining.{still_untried, others_unserved, its_rounds}
use Rattle.rp_racers.proofs.workers.hand_out.Goals as goal

pub returns-clause-untried : goal.returns-clause-untried
returns-clause-untried g c =
    subst (AreUntried 1) (sym c.split_worker-seat.ensures.old)
    (still_untried c.args.worker c.args.workers (known_by c.args.rights.now.seat) c.requires.untried)

pub returns-clause-unserved : goal.returns-clause-unserved
returns-clause-unserved g c =
    subst (AreUnserved (c.args.worker + 1) c.args.workers) (sym c.split_worker-seat.ensures.old)
    (others_unserved c.args.worker c.args.workers (known_by c.args.rights.now.seat) c.requires.unserved)

pub returns-clause-its_rounds : goal.returns-clause-its_rounds
returns-clause-its_rounds g c =
    subst (λ k. MayServe k c.args.worker c.args.workers) (sym c.split_worker-seat.ensures.new)
    (its_rounds c.args.worker c.args.workers (known_by c.args.rights.now.seat) c.requires.unserved)
