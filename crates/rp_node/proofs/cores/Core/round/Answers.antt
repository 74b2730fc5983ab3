use Rattle.std.proofs.Common.{rules, refl, ◌+◌}
use Rattle.rp_node.proofs.Stepping.{round_node}
use Rattle.rp_node.proofs.cores.Core.round.Goals as goal

pub returns-clause-ok : goal.returns-clause-ok
returns-clause-ok c =
    round_node c.args.self.now c.make_room.new.self c.write.new.self (c.args.self.now.rounds + 1) c.max-self.result c.len-sent.result
    c.make_room.ensures.lists refl (search rules) (search rules)
    c.write.ensures.journal c.write.ensures.sent c.write.ensures.outcomes c.write.ensures.requests
