use Rattle.std.proofs.Common.{◌≡◌, ℕ, ◌-◌, ◌<◌, suc, Some, slice_get, arith, subst, sym, ap, ◌∙◌}
use Rattle.rp_switch.specs.Views.{Knowledge}
use Rattle.rp_switch.specs.Calm.{is_calm, slots_at}
use Rattle.rp_switch.specs.Plays.{giving}
use Rattle.rp_switch.proofs.Calls.{gives_at, gave_is, given_told}
use Rattle.rp_switch.proofs.switch.Switch.give.Goals as goal

pub swap-requires : goal.swap-requires
swap-requires g c =
    let number : c.args.taken.number ≡ suc (c.from-place.result - 1) = let f = c.from-place.ensures in let v = c.get.ensures.value in let o = c.get.ensures.from_one in omega (arith, f, v, o) in (
      c.exchange.ensures.0 ∙ c.requires.of.0,
      (let words = c.args.self.now.counted.0 in let low = c.requires.node in omega (arith, words, low, number)),
      gives_at c.args.self.now.table.shared.key c.args.self.now.table.shared.table_id.slots c.exchange.new.seat.id (c.from-place.result - 1) c.args.taken.number c.args.taken.node c.args.seat.now.seat.me c.exchange.new.seat.me
          number c.exchange.ensures.3 c.requires.may c.args.seat.now.has_part,
    )

pub invariant_of-seat : goal.invariant_of-seat
invariant_of-seat g c =
    let number : c.args.taken.number ≡ suc (c.from-place.result - 1) = let f = c.from-place.ensures in let v = c.get.ensures.value in let o = c.get.ensures.from_one in omega (arith, f, v, o) in
    let is = gave_is c.args.self.now.table.shared.table_id.slots (c.from-place.result - 1) c.args.taken.number c.swap.result c.args.taken.node c.args.seat.now.seat.me c.exchange.new.seat.me c.swap.new.seat.me
    number c.exchange.ensures.3 c.requires.may c.args.seat.now.slots c.swap.ensures.2 in
    record {
      calm = ap (λ (v : Knowledge). is_calm v.stage) is.known;
      slots = is.none ∙ sym (ap (λ (v : Knowledge). slots_at v.stage) is.known);
      has_part = subst (λ (v : Knowledge). 0 < v.parts) (sym is.known) c.args.seat.now.has_part;
    }

pub returns-clause-same : goal.returns-clause-same
returns-clause-same g c =
    let number : c.args.taken.number ≡ suc (c.from-place.result - 1) = let f = c.from-place.ensures in let v = c.get.ensures.value in let o = c.get.ensures.from_one in omega (arith, f, v, o) in
    let is = gave_is c.args.self.now.table.shared.table_id.slots (c.from-place.result - 1) c.args.taken.number c.swap.result c.args.taken.node c.args.seat.now.seat.me c.exchange.new.seat.me c.swap.new.seat.me
    number c.exchange.ensures.3 c.requires.may c.args.seat.now.slots c.swap.ensures.2 in
    (c.swap.ensures.0 ∙ c.exchange.ensures.0, ap (λ (v : Knowledge). v.terms) is.known)

pub returns-clause-told : goal.returns-clause-told
returns-clause-told g c =
    let number : c.args.taken.number ≡ suc (c.from-place.result - 1) = let f = c.from-place.ensures in let v = c.get.ensures.value in let o = c.get.ensures.from_one in omega (arith, f, v, o) in
    let is = gave_is c.args.self.now.table.shared.table_id.slots (c.from-place.result - 1) c.args.taken.number c.swap.result c.args.taken.node c.args.seat.now.seat.me c.exchange.new.seat.me c.swap.new.seat.me
    number c.exchange.ensures.3 c.requires.may c.args.seat.now.slots c.swap.ensures.2 in
    let same : c.from-place.result - 1 ≡ c.args.taken.number - 1 = omega (arith, number) in
    λ before took. subst (λ (i : ℕ). c.swap.new.seat.me.0 ≡ giving i before c.args.taken.node.node c.args.seat.now.seat.me.0) same
    (given_told c.args.seat.now.seat.me c.swap.new.seat.me (c.from-place.result - 1) c.args.taken.node.node is before
    (subst (λ (i : ℕ). slice_get c.args.seat.now.seat.me.0.seen i ≡ Some before) (sym same) took))
