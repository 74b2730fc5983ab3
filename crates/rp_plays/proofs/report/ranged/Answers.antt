use Rattle.std.proofs.lemmas.List.Elements.{All-push}
use Rattle.rp_report.specs.Shown.{IsShownRange}
use Rattle.rp_plays.proofs.report.ranged.Goals as goal

pub returns : goal.returns
returns c = record {
  replies = c.requires.shown.replies;
  ranges = rw c.in_ok-push.ensures.ok (All-push IsShownRange c.args.view.ranges c.args.range c.requires.shown.ranges c.requires.desc);
}
