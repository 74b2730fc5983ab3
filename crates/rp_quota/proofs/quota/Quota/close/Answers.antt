use Rattle.std.proofs.Common.{rules, ◌≡◌, ◌+◌, ◌≤◌, IfOk, ℕ, ◌-◌, ◌*◌, ◌<◌, length, ◌/◌, ◌%◌, Bool, true, false, nat_eq, nat_lt, List, [], ◌∷◌, ◌++◌, slice_index_or, slice_set, Fits, w64, arith, subst, sym}
use Rattle.rp_quota.specs.declared.rule.Holding.{Holding}
use Rattle.rp_quota.proofs.Steps.{closes}
use Rattle.rp_quota.proofs.quota.Quota.close.Goals as goal

pub free-requires : goal.free-requires
free-requires c k below = let none_there = c.close_with-closed.ensures.counts.1 in
    let no_slot = c.args.self.one_word.1 in
    absurd (omega (arith, none_there, no_slot, below))

pub returns-clause-held : goal.returns-clause-held
returns-clause-held c =
    let sum = closes _ _ _ _ _ _ c.requires.all c.close_with-closed.ensures.values.2 c.word-free.ensures in
    let key = c.args.self.keyed in
    omega (arith, sum, key)
