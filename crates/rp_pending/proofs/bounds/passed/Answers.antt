use Rattle.std.proofs.Common.{◌/◌, ap, sym, ◌∙◌, rules}
use Rattle.rp_pending.specs.Bounds.{bound_at, may_hold}
use Rattle.rp_pending.proofs.Blocks.{row_passed}
use Rattle.rp_pending.proofs.bounds.passed.Goals as goal

pub returns-then-not-may_hold-clause-passed : goal.returns-then-not-may_hold-clause-passed
returns-then-not-may_hold-clause-passed c es covers spans j s lt get =
    row_passed c.args.bounds.now.narrow.items c.args.bounds.now.wide.items es c.args.at c.args.wanted.now (search rules)
    (ap (may_hold c.args.wanted.now) (sym (c.bound_at.ensures ∙ ap (λ xs. bound_at xs (c.args.at / 1024)) c.deref.ensures.value)) ∙ sym c.may_hold.ensures ∙ c.if-not-may_hold.true)
    covers spans j s lt get
