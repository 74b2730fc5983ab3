use Rattle.std.proofs.Common.{rules, ◌≡◌, ◌<◌, ℕ, ◌+◌, ◌-◌, ◌*◌, ◌≤◌, length, ◌/◌, ◌%◌, Bool, true, false, nat_eq, nat_lt, List, [], ◌∷◌, ◌++◌, slice_index_or, slice_set, bit_and, bit_or, Fits, w8, w32, w64, Bor, MutBor, arith, subst, sym, ap, ◌∙◌}
use Rattle.rp_buffer.specs.declared.rule.Hand.{Hand}
use Rattle.rp_buffer.specs.declared.rule.Stage.TheVariants.{Idle, Drew, Taking}
use Rattle.rp_buffer.specs.Passes.{known_by, IsPassOf, IsSame, Tells}
use Rattle.rp_buffer.proofs.Steps.{loads, draws, publishes_at}
use Rattle.rp_buffer.proofs.Inserting.{ready, done, after_put}
use Rattle.rp_buffer.proofs.table.SlotTable.insert.Goals as goal

pub load-loaded-requires : goal.load-loaded-requires
load-loaded-requires c =
    let key = c.args.self.now.keyed in
    let words = c.args.self.now.counted.0 in
    let low = c.requires.buffer in
    let same = c.from-counter.ensures in
    (c.requires.of, omega (arith, words, low, same), loads _ _ _ _ _ (omega (arith, key, low, same)))

pub compare_exchange-seen-requires : goal.compare_exchange-seen-requires
compare_exchange-seen-requires c =
    let key = c.args.self.now.keyed in
    let words = c.args.self.now.counted.0 in
    let low = c.requires.buffer in
    let same = c.from-counter.ensures in
    let told = c.load-loaded.ensures.2 in
    let most = told.0 in
    let below = c.if-full.false in (
      c.load-loaded.ensures.0 ∙ c.requires.of,
      omega (arith, words, low, same),
      draws _ _ _ _ _ _ (omega (arith, key, low, same)) (omega (arith, most, below)) (ap (λ (v : Hand). v.stage) told.1 ∙ c.args.pass.now.is_idle)
          (subst (λ (v : Hand). 0 < v.parts) (sym told.1) c.args.pass.now.has_part),
    )

pub swap-requires : goal.swap-requires
swap-requires c =
    let key = c.args.self.now.keyed in
    let words = c.args.self.now.counted.0 in
    let slots = c.args.self.now.counted.1 in
    let low = c.requires.buffer in
    let same = c.from-counter.ensures in
    let most = c.load-loaded.ensures.2.0 in
    let below = c.if-full.false in
    let is = ready _ _ _ _ _ _ _ _ c.if-seen-loaded.false c.load-loaded.ensures.2 c.compare_exchange-seen.ensures.2 c.exchange.ensures.3 in (
      c.exchange.ensures.0 ∙ c.compare_exchange-seen.ensures.0 ∙ c.load-loaded.ensures.0 ∙ c.requires.of,
      omega (arith, words, low, same, most, below),
      publishes_at _ _ _ _ _ _ _ (omega (arith, key)) (omega (arith, key, slots)) (ap (λ (v : Hand). v.stage) is.0) is.1
          (subst (λ (v : Hand). 0 < v.parts) (sym is.0) c.args.pass.now.has_part),
    )

pub invariant_of-pass-2 : goal.invariant_of-pass-2
invariant_of-pass-2 c =
    let slots = c.args.self.now.counted.1 in
    let most = c.load-loaded.ensures.2.0 in
    let below = c.if-full.false in
    let same = c.from-counter.ensures in
    let is = ready _ _ _ _ _ _ _ _ c.if-seen-loaded.false c.load-loaded.ensures.2 c.compare_exchange-seen.ensures.2 c.exchange.ensures.3 in
    let end = done _ _ _ _ _ _ _ _ slots (omega arith) (omega (arith, most, below)) c.args.pass.now.holds_no_slot c.args.pass.now.is_idle is c.swap.ensures.2 in
    record {
      holds_no_slot = end.1;
      is_idle = ap (λ (v : Hand). v.stage) end.0 ∙ c.args.pass.now.is_idle;
      has_part = subst (λ (v : Hand). 0 < v.parts) (sym end.0) c.args.pass.now.has_part;
      same_rights = c.args.pass.now.same_rights ∙ sym (ap (λ (v : Hand). v.rights) end.0);
    }

pub returns-clause-parts : goal.returns-clause-parts
returns-clause-parts c =
    let slots = c.args.self.now.counted.1 in
    let most = c.load-loaded.ensures.2.0 in
    let below = c.if-full.false in
    let is = ready _ _ _ _ _ _ _ _ c.if-seen-loaded.false c.load-loaded.ensures.2 c.compare_exchange-seen.ensures.2 c.exchange.ensures.3 in
    let end = done _ _ _ _ _ _ _ _ slots (omega arith) (omega (arith, most, below)) c.args.pass.now.holds_no_slot c.args.pass.now.is_idle is c.swap.ensures.2 in
    ap (λ (v : Hand). v.parts) end.0

pub returns-clause-told : goal.returns-clause-told
returns-clause-told c =
    let slots = c.args.self.now.counted.1 in
    let most = c.load-loaded.ensures.2.0 in
    let below = c.if-full.false in
    let same = c.from-counter.ensures in
    let is = ready _ _ _ _ _ _ _ _ c.if-seen-loaded.false c.load-loaded.ensures.2 c.compare_exchange-seen.ensures.2 c.exchange.ensures.3 in
    let end = done _ _ _ _ _ _ _ _ slots (omega arith) (omega (arith, most, below)) c.args.pass.now.holds_no_slot c.args.pass.now.is_idle is c.swap.ensures.2 in
    (c.load-loaded.result, omega (arith, most, below), end.0 ∙ ap (λ b. after_put (known_by c.args.pass.now) b c.load-loaded.result c.args.item) same)
