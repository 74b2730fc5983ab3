use Rattle.std.proofs.Common.{◌∙◌, sym}
use Rattle.rp_clients.proofs.Steps.{course_nodes, goes_again, again_less}
use Rattle.rp_clients.proofs.tries.try_aimed.Goals as goal

pub take_end-requires-clause-node : goal.take_end-requires-clause-node
take_end-requires-clause-node g c = rw (course_nodes c.requires.ready) c.requires.one

pub take_end-requires-clause-end : goal.take_end-requires-clause-end
take_end-requires-clause-end g c =
    rw (course_nodes c.requires.ready) (rw c.in-Some.is at c.in_ok-outcome.ensures.ends)

pub returns-clause-after : goal.returns-clause-after
returns-clause-after g c =
    let again = sym c.take_end.ensures.again ∙ c.if-not-take_end.false in
    let tried = rw c.in-Some.is at c.in_ok-outcome.ensures.ok in (
      goes_again c.args.command.now.client c.args.command.now.seq c.args.attempt c.args.node c.args.range tried.0
          c.rounds-rounds.result c.in-Some.outcome c.args.course.now c.take_end.new.self c.set_last.new.self
          (g.D.Desk.stands c.args.desk.now) (g.D.Desk.stands c.try_at.new.desk) (g.D.Desk.stands c.rounds-rounds.new.self)
          c.requires.ready c.requires.client tried.1 again
          c.take_end.ensures.hints c.take_end.ensures.rounds c.take_end.ensures.attempt c.take_end.ensures.end
          c.rounds-rounds.ensures.tells c.rounds-rounds.ensures.least
          c.set_last.ensures.hints c.set_last.ensures.so_far c.set_last.ensures.rounds
          c.set_last.ensures.some c.set_last.ensures.most c.set_last.ensures.five,
      again_less c.args.attempt c.in-Some.outcome again,
    )
