use Rattle.std.proofs.Common.{sym, ◌∙◌}
use Rattle.rp_auditor.proofs.PlayLaws.{takes_none}
use Rattle.rp_auditor.proofs.Walks.{split_stops}
use Rattle.rp_auditor.proofs.entries.split_off.Goals as goal

pub returns-then-not-branch : goal.returns-then-not-branch
returns-then-not-branch c =
    split_stops c.args.range c.loop-entry.entry-index c.args.entries.now c.entry-item.result c.loop-entry.standing _ c.loop-entry-test.true c.entry-item.is
    (sym c.splits_off.ensures ∙ c.in_default.is)
    (takes_none _ c.in_ok-take_record.field-0 _ c.in_ok-take_record.ensures c.if-not-branch.true) c.loop-entry.invariant
