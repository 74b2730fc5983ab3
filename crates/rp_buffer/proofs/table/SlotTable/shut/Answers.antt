use Rattle.std.proofs.Common.{rules, ◌≡◌, ◌+◌, ◌*◌, ◌/◌, ◌<◌, ◌≤◌, ◌++◌, ℕ, ◌-◌, length, ◌%◌, Bool, true, false, nat_eq, nat_lt, List, [], ◌∷◌, slice_index_or, slice_set, bit_and, bit_or, Fits, w8, w32, w64, Bor, MutBor, arith, subst, sym, ap, ◌∙◌}
use Rattle.rp_buffer.specs.declared.rights.Right.{Right}
use Rattle.rp_buffer.specs.declared.rule.Hand.{Hand}
use Rattle.rp_buffer.specs.declared.rights.Keep.TheVariants.{Open, Closed}
use Rattle.rp_buffer.specs.Hands.{right_at, keep_at, with_keep, none_gone, IsCarried, IsClosed}
use Rattle.rp_buffer.specs.Passes.{known_by, IsPassOf, IsSame}
use Rattle.rp_buffer.specs.Collects.{Sweeping, Takes, Shuts}
use Rattle.rp_buffer.proofs.Sweeps.{shuts}
use Rattle.rp_buffer.proofs.table.SlotTable.shut.Goals as goal

pub swap-count-requires : goal.swap-count-requires
swap-count-requires c =
    let key = c.args.self.now.keyed in
    let words = c.args.self.now.counted.0 in
    let low = c.requires.buffer in (
      c.requires.of,
      omega (arith, words, low),
      shuts _ _ _ _ _ (omega (arith, key, low)) c.requires.carried
          (ap (λ (rs : List Right). keep_at rs c.args.buffer) (sym c.args.pass.now.same_rights) ∙ sym c.kept-before.ensures ∙ c.in-Open.is),
    )

pub returns-in-Open-clause-sweeping : goal.returns-in-Open-clause-sweeping
returns-in-Open-clause-sweeping c =
    let was : IsCarried (right_at c.args.pass.now.rights (c.args.buffer / 8)) = subst (λ (rs : List Right). IsCarried (right_at rs (c.args.buffer / 8))) (sym c.args.pass.now.same_rights) c.requires.carried in
    let now_is : c.keep.new.rights ≡ c.swap-count.new.seat.me.0.rights =
    c.keep.ensures.all ∙ ap (λ (rs : List Right). with_keep rs c.args.buffer (Closed c.swap-count.result none_gone)) c.args.pass.now.same_rights
    ∙ sym (ap (λ (v : Hand). v.rights) c.swap-count.ensures.2.1) in
    record {
      within = c.requires.buffer;
      carried = subst (λ (rs : List Right). IsCarried (right_at rs (c.args.buffer / 8))) now_is (c.keep.ensures.carried was);
      closed = subst (λ (rs : List Right). IsClosed (keep_at rs c.args.buffer)) now_is (subst IsClosed (sym (c.keep.ensures.now was)) tt);
    }
