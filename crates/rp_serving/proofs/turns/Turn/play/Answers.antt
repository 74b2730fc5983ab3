use Rattle.std.proofs.Common.{sym, subst}
use Rattle.rp_events.specs.Nodes.{Node}
use Rattle.rp_serving.specs.Mails.{IsMailOf, IsEmptied}
use Rattle.rp_serving.specs.Turns.{known_of}
use Rattle.rp_serving.proofs.Rounding.{begins_round, ends_round, mail_played}
use Rattle.rp_serving.proofs.turns.Turn.play.Goals as goal

pub inside-requires-clause-under_way : goal.inside-requires-clause-under_way
inside-requires-clause-under_way g c =
    begins_round _ _ _ _ _ _ c.args.mail.now c.requires.has.reached c.requires.has.past c.five.ensures c.requires.taken.has c.requires.mail c.requires.whole

pub returns-clause-whole : goal.returns-clause-whole
returns-clause-whole g c = record {
  inside = c.inside.new.node.node;
  under_way = c.in_ok-inside.ensures.under_way;
  may_end = ends_round _ _ _ _ _ c.args.node.now.node c.inside.new.node.node c.requires.has.reached c.requires.taken.has c.requires.behind c.in_ok-inside.ensures.under_way
      c.in_ok-inside.ensures.heard c.in_ok-inside.ensures.may c.in_ok-end.ensures.ok.1;
  leaves = c.in_ok-end.ensures.ok.0;
}

pub returns-clause-mail : goal.returns-clause-mail
returns-clause-mail g c =
    let v = known_of c.args.self.now in
    subst (λ (z : Node). IsMailOf v.terms.rules c.args.self.now.node v.seen z c.inside.new.mail) (sym c.in_ok-end.ensures.ok.0)
    (mail_played v.terms.rules v.terms.nodes c.args.self.now.node _ v.seen c.args.node.now.node c.inside.new.node.node c.args.mail.now c.inside.new.mail
    c.requires.has.reached c.requires.has.past c.requires.mail c.requires.whole
    (subst (λ k. IsEmptied k c.args.mail.now c.inside.new.mail) c.args.self.now.nodes_are c.in_ok-inside.ensures.emptied)
    c.in_ok-inside.ensures.handed c.in_ok-inside.ensures.heard c.five.ensures)
