use Rattle.std.proofs.Common.{◌∙◌, ap}
use Rattle.rp_racelines.specs.Judging.{whole_behind}
use Rattle.rp_racelines.proofs.race_ends.ends_whole.Goals as goal

pub returns : goal.returns
returns c = c.whole_behind.ensures ∙ ap whole_behind c.events.ensures
