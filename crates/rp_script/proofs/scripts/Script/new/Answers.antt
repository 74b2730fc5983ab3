use Rattle.std.proofs.Common.{ℕ, ◌≤◌, slice_index, List, sym, subst, arith}
use Rattle.rp_script.proofs.Counts.{none_sent}
use Rattle.rp_script.proofs.scripts.Script.new.Goals as goal

pub invariant_of-result : goal.invariant_of-result
invariant_of-result c =
    let few : (k : ℕ) → slice_index c.new.result k ≤ 0 = subst (λ (counts : List ℕ). (k : ℕ) → slice_index counts k ≤ 0) (sym c.new.ensures.counts) (none_sent 64) in
    (omega arith, omega arith, tt, few)
