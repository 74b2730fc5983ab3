-- Commands one after another.
use Rattle.std.proofs.Common.{◌≡◌, ℕ, suc, ◌+◌, refl, ap, ◌∙◌, arith}
use Rattle.rp_gen.specs.Scripts.{with_next, with_commands}
use Rattle.rp_gen.specs.declared.drafts.Draft.{Draft}

pub no_commands : (size : ℕ) (d : Draft) → d ≡ with_commands size 0 d
unfolding with_commands
no_commands size d = refl

next_unfolds : (size n : ℕ) (e : Draft) → with_next size n (with_commands size n e) ≡ with_commands size (suc n) e
unfolding with_commands
next_unfolds size n e = refl

-- one more command
pub one_more : (size n : ℕ) (d e : Draft) → d ≡ with_commands size n e → with_next size n d ≡ with_commands size (n + 1) e
one_more size n d e h =
    let step : suc n ≡ n + 1 = omega arith in
    ap (with_next size n) h ∙ next_unfolds size n e ∙ ap (λ m. with_commands size m e) step
