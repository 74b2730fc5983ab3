use Rattle.std.proofs.Common.{rules, ◌≡◌, ◌+◌, ◌≤◌, IfOk, ℕ, ◌-◌, ◌*◌, ◌<◌, length, ◌/◌, ◌%◌, Bool, true, false, nat_eq, nat_lt, List, [], ◌∷◌, ◌++◌, slice_index_or, slice_set, Fits, w64, arith, subst, sym}
use Rattle.rp_quota.specs.declared.rule.Holding.{Holding}
use Rattle.rp_quota.proofs.Steps.{gives}
use Rattle.rp_quota.proofs.quota.Quota.give.Goals as goal

pub fetch_add-requires : goal.fetch_add-requires
fetch_add-requires c = let words = c.args.self.now.one_word.0 in
    (c.requires.of, omega (arith, words), gives _ _ _ _ _ c.requires.held c.args.share.now.has_part)
