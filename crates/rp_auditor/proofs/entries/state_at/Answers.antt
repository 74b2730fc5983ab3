use Rattle.std.proofs.Common.{arith}
use Rattle.std.proofs.lemmas.Bool.Decides.{nat_tests}
use Rattle.rp_auditor.proofs.PlayLaws.{takes_none}
use Rattle.rp_auditor.proofs.Walks.{state_stops}
use Rattle.rp_auditor.proofs.entries.state_at.Goals as goal

pub returns-then-not-branch : goal.returns-then-not-branch
returns-then-not-branch c =
    state_stops c.args.index c.loop-entry.entry-index c.args.entries.now c.entry-item.result c.loop-entry.standing _ c.loop-entry-test.true c.entry-item.is
    (grind (arith, nat_tests))
    (takes_none _ c.in_ok-take_record.field-0 _ c.in_ok-take_record.ensures c.if-not-branch.true) c.loop-entry.invariant
