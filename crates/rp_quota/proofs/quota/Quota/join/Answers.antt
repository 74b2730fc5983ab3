use Rattle.std.proofs.Common.{rules, ◌≡◌, ◌+◌, ◌≤◌, IfOk, ℕ, ◌-◌, ◌*◌, ◌<◌, length, ◌/◌, ◌%◌, Bool, true, false, nat_eq, nat_lt, List, [], ◌∷◌, ◌++◌, slice_index_or, slice_set, Fits, w64, arith, subst, sym}
use Rattle.rp_quota.specs.declared.rule.Holding.{Holding}
use Rattle.rp_quota.proofs.Steps.{joins}
use Rattle.rp_quota.proofs.quota.Quota.join.Goals as goal

pub join_seat-requires : goal.join_seat-requires
join_seat-requires c = let words = c.args.self.now.one_word.0 in
    (c.requires.of, c.requires.other, c.args.other.holds_no_slot, omega (arith, words), joins _ _ _ _ _ c.args.share.now.has_part)
