use Rattle.std.proofs.Common.{rules, ◌≡◌, ◌+◌, ◌≤◌, IfOk, ℕ, ◌-◌, ◌*◌, ◌<◌, length, ◌/◌, ◌%◌, Bool, true, false, nat_eq, nat_lt, List, [], ◌∷◌, ◌++◌, slice_index_or, slice_set, Fits, w64, arith, subst, sym}
use Rattle.rp_quota.specs.declared.rule.Holding.{Holding}
use Rattle.rp_quota.proofs.Steps.{loads, takes}
use Rattle.rp_quota.proofs.quota.Quota.try_take.Goals as goal

pub load-loaded-requires : goal.load-loaded-requires
load-loaded-requires c = let words = c.args.self.now.one_word.0 in
    (c.requires.of, omega (arith, words), loads _ _ _ _ c.args.share.now.has_part)

pub compare_exchange-seen-requires : goal.compare_exchange-seen-requires
compare_exchange-seen-requires c =
    let words = c.args.self.now.one_word.0 in
    let told = c.load-loaded.ensures in
    let some_part : 0 < c.load-loaded.new.seat.me.0.parts = subst (λ (v : Holding). 0 < v.parts) (sym told.2.0) c.args.share.now.has_part in
    (search rules, omega (arith, words), takes _ _ _ _ _ _ (omega arith) some_part)
