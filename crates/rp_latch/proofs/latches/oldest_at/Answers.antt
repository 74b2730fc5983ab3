use Rattle.std.proofs.Common.{ℕ, Option, ◌++◌, subst, sym}
use Rattle.rp_latch.specs.Indexes.{latch_meets, IsOldest}
use Rattle.rp_latch.proofs.Places.{oldest_append}
use Rattle.rp_latch.proofs.latches.oldest_at.Goals as goal

pub returns : goal.returns
returns c =
    subst (λ (o : Option ℕ). IsOldest (latch_meets c.args.span) (c.args.firsts.now.list ++ c.args.seconds.now.list) o) (sym c.lesser.ensures)
    (oldest_append (latch_meets c.args.span) c.args.firsts.now.list c.args.seconds.now.list _ _ c.oldest-first.ensures c.oldest-second.ensures)
