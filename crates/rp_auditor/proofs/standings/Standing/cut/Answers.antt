use Rattle.rp_auditor.proofs.PlayLaws.{cut_so}
use Rattle.rp_auditor.proofs.standings.Standing.cut.Goals as goal

pub returns : goal.returns
returns c = cut_so _ c.args.self.now c.args.key c.cut_at.new.self.map _ c.self.view_is c.cut_at.ensures.map c.in-Ok.ensures
