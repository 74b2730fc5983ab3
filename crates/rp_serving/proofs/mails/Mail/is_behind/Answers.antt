use Rattle.std.proofs.Common.{rules, arith, sym, ◌+◌}
use Rattle.std.proofs.lemmas.Option.{slice_get_read}
use Rattle.rp_serving.proofs.Rounding.{none_behind, lags_in}
use Rattle.rp_serving.proofs.mails.Mail.is_behind.Goals as goal

pub returns-then-self-from-clause-some : goal.returns-then-self-from-clause-some
returns-then-self-from-clause-some c = λ due.
    let mail = c.args.self.now in
    let place = c.loop-place.place in
    let lane = c.index-self-from.result in
    let low = c.loop-place-test.true in
    let few = c.requires in (
      place + 1,
      omega (arith, low),
      lags_in mail place c.args.rounds lane (search rules)
          (slice_get_read mail.lanes 5 place lane (sym c.five.ensures) (omega (arith, low, few)) (search rules)) (search rules),
    )

pub returns-clause-none : goal.returns-clause-none
returns-clause-none c = λ seen size whole n same ended.
    let test = c.loop-place-test.false in
    none_behind c.args.self.now c.args.nodes c.args.rounds seen n size c.requires c.five.ensures whole same
    (λ k lane low ne is. c.loop-place.invariant k lane (omega (arith, low, test)) ne is)
