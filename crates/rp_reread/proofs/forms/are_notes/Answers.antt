use Rattle.std.proofs.Common.{sym, ◌∙◌}
use Rattle.serde_json.specs.View.{view}
use Rattle.rp_reread.specs.Forms.{is_note}
use Rattle.rp_reread.proofs.JsonParts.{all_mapped}
use Rattle.rp_reread.proofs.forms.are_notes.Goals as goal

pub returns : goal.returns
returns c = c.all_notes.ensures ∙ sym (all_mapped is_note view c.args.values.now)
