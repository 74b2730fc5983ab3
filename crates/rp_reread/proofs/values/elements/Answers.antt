use Rattle.std.proofs.Common.{Some, sym, ap, ◌∙◌}
use Rattle.serde_json.specs.View.{view}
use Rattle.rp_reread.proofs.JsonParts.{listed, of_array}
use Rattle.rp_reread.proofs.values.elements.Goals as goal

pub returns-in-Some : goal.returns-in-Some
returns-in-Some c = of_array (view c.args.value.now) _ (sym c.in-Some.ensures) ∙ ap Some (listed c.in-Some.list.now.items)
