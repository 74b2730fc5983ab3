use Rattle.rp_switch.specs.Seats.{known_by}
use Rattle.rp_bench.proofs.Telling.{posted, seen_rested, work_rested, seated_rested}
use Rattle.rp_bench.proofs.seats.WorkerSeat.is_posted.Goals as goal

pub invariant_of-self : goal.invariant_of-self
invariant_of-self g c =
    let s = c.args.self.now in
    let rested = posted (known_by s.seat) (known_by c.try_post.new.seat) c.args.client c.args.answer.now c.try_post.result s.at_work.idle c.try_post.ensures.told in
    record {
      seated = seated_rested g.K.Origin.from s.switch.now s.seat c.try_post.new.seat c.try_post.ensures.same.0 rested s.seated;
      board_is = s.board_is;
      most_is = s.most_is;
      hands = s.hands;
      few = s.few;
      at_work = work_rested (known_by s.seat) (known_by c.try_post.new.seat) s.stations rested s.at_work;
    }

pub returns : goal.returns
returns g c =
    let s = c.args.self.now in
    seen_rested (known_by s.seat) (known_by c.try_post.new.seat)
    (posted (known_by s.seat) (known_by c.try_post.new.seat) c.args.client c.args.answer.now c.try_post.result s.at_work.idle c.try_post.ensures.told)
