use Rattle.rp_auditor.proofs.PlayLaws.{right_so}
use Rattle.rp_auditor.proofs.standings.Standing.right.Goals as goal

pub returns : goal.returns
returns c = right_so _ c.args.self.now c.args.key c.in_ok-table.table.map _ c.self.view_is c.in_ok-table.ensures c.in-Ok.ensures
