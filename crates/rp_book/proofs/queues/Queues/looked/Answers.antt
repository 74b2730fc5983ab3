use Rattle.std.proofs.Common.{rules}
use Rattle.rp_book.proofs.Firsts.{looked_first}
use Rattle.rp_book.proofs.queues.Queues.looked.Goals as goal

pub returns : goal.returns
returns c h =
    looked_first c.self.inside.queues.items c.args.self.now c.args.passed.now c.args.queue c.args.found c.head.result c.earlier.result c.index.result.now
    c.self.view_is c.earlier.ensures c.head.ensures c.index.ensures (search rules) (search rules) h
