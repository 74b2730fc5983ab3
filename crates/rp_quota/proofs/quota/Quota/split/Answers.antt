use Rattle.std.proofs.Common.{rules, ◌≡◌, ◌+◌, ◌≤◌, IfOk, ℕ, ◌-◌, ◌*◌, ◌<◌, length, ◌/◌, ◌%◌, Bool, true, false, nat_eq, nat_lt, List, [], ◌∷◌, ◌++◌, slice_index_or, slice_set, Fits, w64, arith, subst, sym}
use Rattle.rp_quota.specs.declared.rule.Holding.{Holding}
use Rattle.rp_quota.proofs.Steps.{splits}
use Rattle.rp_quota.proofs.quota.Quota.split.Goals as goal

pub split_seat-seat-requires : goal.split_seat-seat-requires
split_seat-seat-requires c = let words = c.args.self.now.one_word.0 in
    (c.requires.of, omega (arith, words), splits _ _ _ c.requires.parts)
