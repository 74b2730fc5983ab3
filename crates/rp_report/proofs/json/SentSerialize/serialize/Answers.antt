use Rattle.rp_report.proofs.ShownLaws.{view_shown}
use Rattle.rp_report.proofs.json.SentSerialize.serialize.Goals as goal

pub send_view-requires : goal.send_view-requires
send_view-requires g c = view_shown c.args.self.now.view.now c.args.self.now.shown
