use Rattle.std.proofs.Common.{ℕ, ◌-◌, ◌++◌, length, take, drop, ap, ◌∙◌, arith}
use Rattle.rp_raft.proofs.Behind.{front_of_part}
use Rattle.rp_raft.proofs.ahead.suffix_in.Goals as goal

pub returns : goal.returns
returns c =
    let log = c.args.log.now.log in
    let most : ℕ = c.args.most in
    let held : ℕ = c.min.result - c.args.log.now.log.base - 1 in
    c.in_ok-push_copies.ensures
    ∙ ap (λ z. c.in_ok-entries.entries ++ z) c.part.ensures
    ∙ ap (λ z. z ++ take (c.args.most - c.len.result) (drop c.saturating_sub-skipped.result c.args.added.now)) c.in_ok-entries.ensures
    ∙ front_of_part c.args.log.now.log.entries c.args.added.now (c.args.from - c.args.log.now.log.base - 1) (c.min.result - c.args.log.now.log.base - 1) c.args.most (c.args.most - c.len.result) c.saturating_sub-skipped.result
    (omega arith) (omega arith) (omega (arith, ap length c.in_ok-entries.ensures))
