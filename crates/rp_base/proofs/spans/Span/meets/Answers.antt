use Rattle.std.proofs.Common.{arith}
use Rattle.std.proofs.lemmas.Bool.Decides.{nat_tests}
use Rattle.rp_base.proofs.SpanLaws.{shared}
use Rattle.rp_base.proofs.spans.Span.meets.Goals as goal

pub returns-then-self-other-clause-overlaps : goal.returns-then-self-other-clause-overlaps
returns-then-self-other-clause-overlaps c =
    (λ test. shared c.args.self c.args.other c.if-self-other.true (grind (arith, nat_tests)), λ (n, here, there). grind (arith, nat_tests))
