use Rattle.std.proofs.Common.{rules, ◌≡◌, ◌+◌, ◌*◌, ◌/◌, ◌<◌, ◌≤◌, ◌++◌, ℕ, ◌-◌, length, ◌%◌, Bool, true, false, nat_eq, nat_lt, List, [], ◌∷◌, slice_index_or, slice_set, bit_and, bit_or, Fits, w8, w32, w64, Bor, MutBor, arith, subst, sym, ap, ◌∙◌}
use Rattle.rp_buffer.specs.declared.rule.Hand.{Hand}
use mathlib.Core.Option as maybe
use Rattle.atomic_table.specs.Table.{step}
use Rattle.rp_buffer.specs.Plays as plays
use Rattle.rp_buffer.specs.Hands.{right_at, keep_at, IsCarried}
use Rattle.rp_buffer.specs.Passes.{known_by, IsPassOf, IsSame}
use Rattle.rp_buffer.specs.Collects.{Sweeping, Takes, Shuts}
use Rattle.rp_buffer.proofs.Sweeps.{takes_at, returns_at}
use Rattle.rp_buffer.proofs.Taking.{is_out, emptied, closed_at, of_buffer}
use Rattle.rp_buffer.proofs.table.SlotTable.take_place.Goals as goal

pub compare_exchange-seen-requires : goal.compare_exchange-seen-requires
compare_exchange-seen-requires c =
    let key = c.args.self.now.keyed in
    let words = c.args.self.now.counted.0 in
    let slots = c.args.self.now.counted.1 in
    let low = c.requires.sweeping.within in
    let place = c.requires.place in (
      c.requires.of,
      omega (arith, words, low, place),
      takes_at _ _ _ (16 * c.args.buffer + c.args.place) _ _ (omega (arith, key)) (omega (arith, key, slots)) (omega (arith, key, low, place)) c.args.pass.now.has_part,
    )

pub exchange-item-requires : goal.exchange-item-requires
exchange-item-requires c =
    let slots = c.args.self.now.counted.1 in
    let took = subst (λ z. plays.took (step z (40 + (16 * c.args.buffer + c.args.place)) 1 0 maybe.none) c.args.pass.now.seat.me c.compare_exchange-seen.result c.compare_exchange-seen.new.seat.me) slots c.compare_exchange-seen.ensures.2 in
    (c.compare_exchange-seen.ensures.0 ∙ c.requires.of, is_out _ _ _ _ _ c.if-seen-ne1.false (omega arith) took)

pub load-requires : goal.load-requires
load-requires c =
    let key = c.args.self.now.keyed in
    let words = c.args.self.now.counted.0 in
    let slots = c.args.self.now.counted.1 in
    let low = c.requires.sweeping.within in
    let place = c.requires.place in
    let took = subst (λ z. plays.took (step z (40 + (16 * c.args.buffer + c.args.place)) 1 0 maybe.none) c.args.pass.now.seat.me c.compare_exchange-seen.result c.compare_exchange-seen.new.seat.me) slots c.compare_exchange-seen.ensures.2 in
    let out = emptied _ (16 * c.args.buffer + c.args.place) _ _ _ _ _ c.if-seen-ne1.false (omega arith) took c.exchange-item.ensures.2 c.exchange-item.ensures.3 in
    let of = of_buffer c.args.buffer c.args.place (16 * c.args.buffer + c.args.place) _ _ _ (omega arith) place out.2 c.requires.sweeping in
    let closed = closed_at _ of.1 in (
      c.exchange-item.ensures.0 ∙ c.compare_exchange-seen.ensures.0 ∙ c.requires.of,
      omega (arith, words, low, place),
      returns_at _ _ _ (16 * c.args.buffer + c.args.place) _ closed.0 closed.1 _ (omega (arith, key)) (omega (arith, key, slots))
          (ap (λ (v : Hand). v.stage) out.2) out.3 (subst (λ (v : Hand). 0 < v.parts) (sym out.2) c.args.pass.now.has_part) of.0 closed.2,
    )
