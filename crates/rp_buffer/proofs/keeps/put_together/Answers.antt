use Rattle.std.proofs.Common.{rules, ◌≡◌, ◌<◌, ℕ, ◌+◌, ◌-◌, ◌*◌, ◌≤◌, length, List, [], ◌∷◌, ◌++◌, arith, subst, sym, ap, ◌∙◌}
use Rattle.rp_buffer.specs.declared.rights.Right.{Right}
use Rattle.rp_buffer.proofs.Ends.{merged, merged_none, merged_next, merged_all}
use Rattle.rp_buffer.proofs.keeps.put_together.Goals as goal

pub loop-number-init : goal.loop-number-init
loop-number-init c = merged_none _ _

pub loop-number-preserved : goal.loop-number-preserved
loop-number-preserved c = merged_next _ _ _ _ _ c.loop-number.invariant c.put_one.ensures

pub returns : goal.returns
returns c =
    let past = c.loop-number-test.false in
    let within = c.loop-number.auto.number-end in
    let end : c.loop-number.number ≡ 5 = omega (arith, past, within) in
    c.loop-number.invariant ∙ ap (λ (n : ℕ). merged n c.args.rights.now c.args.more.now) end ∙ merged_all _ _ c.five.ensures c.five-2.ensures
