use Rattle.rp_auditor.proofs.PlayLaws.{played_in, refused_in}
use Rattle.rp_auditor.proofs.standings.Standing.play.Goals as goal

pub returns-in_ok-apply-in-Ok : goal.returns-in_ok-apply-in-Ok
returns-in_ok-apply-in-Ok c =
    played_in _ c.args.self.now c.args.request c.in-Ok.done c.as_slice.result.now c.apply.new.self c.self.view_is c.in-Ok.ensures.does c.as_slice.ensures.ops c.in_ok-apply-in-Ok.ensures

pub returns-in-Err : goal.returns-in-Err
returns-in-Err c = refused_in _ c.args.self.now _ c.args.request c.in-Err.fault c.refused.result c.self.view_is c.in-Err.ensures.gives c.refused.ensures
