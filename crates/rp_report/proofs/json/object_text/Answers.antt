use Rattle.serde_json.proofs.FreeTexts.{text_of_value}
use Rattle.rp_report.specs.Json.{view_value, json_object}
use Rattle.rp_report.proofs.ShownLaws.{view_passes}
use Rattle.rp_report.proofs.Whole.{view_whole}
use Rattle.rp_report.proofs.json.object_text.Goals as goal

pub invariant_of-sent : goal.invariant_of-sent
invariant_of-sent c = record { shown = view_passes c.args.view.now c.requires }

pub returns-in-Ok : goal.returns-in-Ok
unfolding json_object
returns-in-Ok c =
    let events = c.in-Ok.ensures.events in
    text_of_value (view_value c.args.view.now) events.0 _ events.1 events.2 (view_whole c.args.view.now)
