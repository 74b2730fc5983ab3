use Rattle.std.proofs.Common.{sym, subst, ◌∙◌}
use Rattle.std.proofs.lemmas.Result.{err_from_is_err_and}
use Rattle.rp_world.specs.Plays.{limit_of}
use Rattle.rp_world.specs.Putting.{WentAs}
use Rattle.rp_world.proofs.Merging.{full_on, full_whole, none_went, not_on, not_whole, over_by, put_on, put_whole}
use Rattle.rp_world.proofs.worlds.World.puts_booked.Goals as goal

pub returns-in_err-puts-clause-err : goal.returns-in_err-puts-clause-err
returns-in_err-puts-clause-err c = let p = err_from_is_err_and c.from_residual.result c.from_residual.ensures.1 in
    rw (p.1, p.2) (λ start u. none_went start c.args.self.now c.args.queues.now c.args.passed.now c.args.queue c.args.id c.args.booked.now (limit_of c.in_err-puts.field-0.0)
    c.requires.many c.requires.first c.requires.has c.requires.here c.in_err-puts.ensures.does u)

pub returns-in-Full-clause-ok : goal.returns-in-Full-clause-ok
returns-in-Full-clause-ok c start u =
    let went = subst (λ w. WentAs w c.args.id c.args.booked.now c.args.self.now c.puts.new.self) c.in-Full.is c.in_ok-puts.ensures.went in
    full_on start c.args.self.now c.puts.new.self c.args.queues.now c.args.queues.now c.args.passed.now c.args.queue c.args.id c.args.booked.now c.requires.has c.requires.here (c.requires.below went.0) c.in_ok-puts.ensures.does went u

pub returns-in-Full-clause-whole : goal.returns-in-Full-clause-whole
returns-in-Full-clause-whole c all whole =
    full_whole c.args.self.now c.puts.new.self c.args.queues.now c.args.queues.now c.args.queue c.args.id c.args.booked.now c.in_ok-puts.ensures.does
    (subst (λ w. WentAs w c.args.id c.args.booked.now c.args.self.now c.puts.new.self) c.in-Full.is c.in_ok-puts.ensures.went) all

pub returns-in-Put-clause-ok : goal.returns-in-Put-clause-ok
returns-in-Put-clause-ok c start u =
    put_on start c.args.self.now c.puts.new.self c.args.queues.now c.remove.new.self c.args.passed.now c.args.queue c.args.id c.args.booked.now c.requires.many c.requires.first c.requires.has c.requires.here c.remove.ensures.holds
    c.in_ok-puts.ensures.does (subst (λ w. WentAs w c.args.id c.args.booked.now c.args.self.now c.puts.new.self) c.in-Put.is c.in_ok-puts.ensures.went) c.in_ok-puts.ensures.going c.in_ok-puts.ensures.nodes u

pub returns-in-Put-clause-whole : goal.returns-in-Put-clause-whole
returns-in-Put-clause-whole c all whole =
    put_whole c.args.self.now c.puts.new.self c.args.queues.now c.remove.new.self c.args.queue c.args.id c.args.booked.now c.remove.ensures.holds
    (subst (λ w. WentAs w c.args.id c.args.booked.now c.args.self.now c.puts.new.self) c.in-Put.is c.in_ok-puts.ensures.went) all

pub returns-in-Not-clause-ok : goal.returns-in-Not-clause-ok
returns-in-Not-clause-ok c start u =
    not_on start c.args.self.now c.puts.new.self c.args.queues.now c.remove-in-Not.new.self c.args.passed.now c.args.queue c.args.id c.args.booked.now c.requires.many c.requires.first c.requires.has c.requires.here c.remove-in-Not.ensures.holds
    c.in_ok-puts.ensures.does (subst (λ w. WentAs w c.args.id c.args.booked.now c.args.self.now c.puts.new.self) c.in-Not.is c.in_ok-puts.ensures.went) c.in_ok-puts.ensures.going c.in_ok-puts.ensures.nodes u

pub returns-in-Not-clause-whole : goal.returns-in-Not-clause-whole
returns-in-Not-clause-whole c all whole =
    not_whole c.args.self.now c.puts.new.self c.args.queues.now c.remove-in-Not.new.self c.args.queue c.args.id c.args.booked.now c.remove-in-Not.ensures.holds c.in_ok-puts.ensures.does
    (subst (λ w. WentAs w c.args.id c.args.booked.now c.args.self.now c.puts.new.self) c.in-Not.is c.in_ok-puts.ensures.went) c.requires.has
    (over_by c.is_pending.result c.puts.new.self.world.nodes c.args.id whole c.is_pending.ensures) all
