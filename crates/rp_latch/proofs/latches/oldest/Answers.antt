use Rattle.std.proofs.Common.{ℕ, Option, ◌++◌, ◌||◌, subst, sym}
use Rattle.rp_latch.specs.Indexes.{latch_meets, latch_meets_one, IsOldest}
use Rattle.rp_latch.proofs.Places.{oldest_or, oldest_same}
use Rattle.rp_latch.proofs.Conflicts.{one_asked, two_asked}
use Rattle.rp_latch.proofs.latches.oldest.Goals as goal

pub returns-in-None : goal.returns-in-None
returns-in-None c =
    oldest_same (latch_meets c.args.asked.first) (latch_meets_one c.args.asked) (λ l. one_asked c.args.asked l c.in-None.is)
    (c.args.firsts.now.list ++ c.args.seconds.now.list) c.oldest_at-first.result c.oldest_at-first.ensures

pub returns-in-Some : goal.returns-in-Some
returns-in-Some c =
    let ls = c.args.firsts.now.list ++ c.args.seconds.now.list in
    oldest_same (λ l. latch_meets c.args.asked.first l || latch_meets c.in-Some.span l) (latch_meets_one c.args.asked) (λ l. two_asked c.args.asked c.in-Some.span l c.in-Some.is)
    ls c.lesser.result
    (subst (λ (o : Option ℕ). IsOldest (λ l. latch_meets c.args.asked.first l || latch_meets c.in-Some.span l) ls o) (sym c.lesser.ensures)
    (oldest_or (latch_meets c.args.asked.first) (latch_meets c.in-Some.span) ls _ _ c.oldest_at-first.ensures c.oldest_at-second.ensures))
