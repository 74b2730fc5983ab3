use Rattle.rp_auditor.proofs.PlayLaws.{takes_split}
use Rattle.rp_auditor.proofs.standings.Standing.take.Goals as goal

pub returns-in-Split : goal.returns-in-Split
returns-in-Split c =
    takes_split c.args.self.now _ c.args.item.now c.in-Split.id c.in-Split.key c.in-Split.right c.in-Split.seq c.take_request-in-Split.result c.in-Split.is c.take_request-in-Split.ensures
