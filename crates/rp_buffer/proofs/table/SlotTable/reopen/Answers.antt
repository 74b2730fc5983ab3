use Rattle.std.proofs.Common.{rules, ◌≡◌, ◌+◌, ◌*◌, ◌/◌, ◌<◌, ◌≤◌, ◌++◌, [], length, Option, ℕ, ◌-◌, ◌%◌, Bool, true, false, nat_eq, nat_lt, List, ◌∷◌, slice_index_or, slice_set, bit_and, bit_or, Fits, w8, w32, w64, Bor, MutBor, arith, subst, sym, ap, ◌∙◌}
use Rattle.rp_buffer.specs.declared.rights.Right.{Right}
use Rattle.rp_buffer.specs.Hands.{right_at, keep_at, IsCarried}
use Rattle.rp_buffer.specs.Passes.{known_by, IsPassOf, IsSame}
use Rattle.rp_buffer.proofs.Sweeps.{reopens}
use Rattle.rp_buffer.proofs.Collecting.{gone_at}
use Rattle.rp_buffer.proofs.table.SlotTable.reopen.Goals as goal

pub swap-requires : goal.swap-requires
swap-requires c =
    let key = c.args.self.now.keyed in
    let words = c.args.self.now.counted.0 in
    let low = c.requires.sweeping.within in
    let sixteen = c.sixteen.ensures in (
      c.requires.of,
      omega (arith, words, low),
      reopens _ _ _ _ c.in-Closed.count c.in-Closed.gone _ (omega (arith, key, low)) c.requires.sweeping.carried
          (ap (λ (rs : List Right). keep_at rs c.args.buffer) (sym c.args.pass.now.same_rights) ∙ sym c.kept.ensures ∙ c.in-Closed.is)
          (λ p fits low_p. gone_at _ _ p (sym c.all_gone-all.ensures ∙ c.if-all.true) low_p (omega (arith, sixteen, fits))),
    )
