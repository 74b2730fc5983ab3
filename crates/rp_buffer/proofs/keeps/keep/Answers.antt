use Rattle.std.proofs.Common.{rules, ◌≡◌, ◌/◌, ◌<◌, ℕ, ◌+◌, ◌-◌, ◌*◌, ◌≤◌, length, ◌%◌, Bool, true, false, nat_eq, nat_lt, List, [], ◌∷◌, ◌++◌, slice_index_or, slice_set, bit_and, bit_or, Fits, w8, w32, w64, Bor, MutBor, arith, subst, sym, ap, ◌∙◌}
use Rattle.rp_buffer.specs.declared.rights.Right.{Right}
use Rattle.rp_buffer.specs.Hands.{right_at, IsCarried, keep_at, with_keep}
use Rattle.rp_buffer.proofs.Collecting.{kept_now, still_carried}
use Rattle.rp_buffer.proofs.keeps.keep.Goals as goal

pub returns-clause-now : goal.returns-clause-now
returns-clause-now c = λ is. ap (λ (rs : List Right). keep_at rs c.args.buffer) c.set_keep.ensures ∙ kept_now c.args.rights.now c.args.buffer c.args.keep c.carries_eight.ensures is

pub returns-clause-carried : goal.returns-clause-carried
returns-clause-carried c = λ is. subst (λ (rs : List Right). IsCarried (right_at rs (c.args.buffer / 8))) (sym c.set_keep.ensures) (still_carried c.args.rights.now c.args.buffer c.args.keep is)
