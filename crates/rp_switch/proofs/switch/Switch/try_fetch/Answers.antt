use Rattle.std.proofs.Common.{rules, ◌≡◌, ◌≢◌, ℕ, ◌+◌, ◌-◌, suc, arith, ap, ◌∙◌}
use Rattle.rp_switch.specs.declared.terms.Terms.{Terms}
use Rattle.rp_switch.specs.Views.{Found, noting}
use Rattle.rp_switch.proofs.Calls.{fetches_at, fetch_top, fetched_is, clear_ready}
use Rattle.rp_switch.proofs.switch.Switch.try_fetch.Goals as goal

pub compare_exchange-found-requires : goal.compare_exchange-found-requires
compare_exchange-found-requires g c =
    let words = c.args.self.now.counted.0 in
    let nodes = c.args.self.now.nodes_are in
    let some = c.requires.client.0 in
    let low = c.requires.client.1 in
    let f = c.from.ensures in (
      c.requires.of.0,
      omega (arith, words, nodes, some, low, f),
      fetches_at c.args.self.now.table.shared.key c.args.self.now.table.shared.table_id.slots c.args.seat.now.seat.id (c.args.client - 1) (c.args.self.now.nodes + c.from.result - 1) c.args.seat.now.seat.me
          (omega (arith, nodes, some, low, f)) (omega (arith, some, low)) c.requires.idle c.args.seat.now.has_part,
    )

pub exchange-content-requires : goal.exchange-content-requires
exchange-content-requires g c = (
  c.compare_exchange-found.ensures.0 ∙ c.requires.of.0,
  fetch_top c.args.seat.now.seat.me c.compare_exchange-found.new.seat.me c.args.self.now.table.shared.table_id.slots (c.args.self.now.nodes + c.from.result - 1) c.compare_exchange-found.result
      c.compare_exchange-found.ensures.2 (search rules),
)

pub returns-then-found-ne-FULL-clause-told : goal.returns-then-found-ne-FULL-clause-told
returns-then-found-ne-FULL-clause-told g c =
    let nodes = c.args.self.now.nodes_are in
    let terms = ap (λ (u : Terms). u.nodes) c.requires.of.1 in
    let f = c.from.ensures in
    let word : c.args.self.now.nodes + c.from.result - 1 ≡ c.args.seat.now.seat.me.0.terms.nodes + c.args.client - 1 = omega (arith, nodes, terms, f) in
    let missed : c.compare_exchange-found.result ≢ 1 = search rules in (
      c.compare_exchange-found.result,
      missed,
      (c.compare_exchange-found.ensures.2.1 missed).0
          ∙ ap (λ (w : ℕ). noting (Found w c.compare_exchange-found.result) c.args.seat.now.seat.me.0) word,
    )

pub swap-requires : goal.swap-requires
swap-requires g c =
    let words = c.args.self.now.counted.0 in
    let nodes = c.args.self.now.nodes_are in
    let some = c.requires.client.0 in
    let low = c.requires.client.1 in
    let f = c.from.ensures in
    let r = fetched_is c.args.seat.now.seat.me c.compare_exchange-found.new.seat.me c.args.self.now.table.shared.table_id.slots (c.args.self.now.nodes + c.from.result - 1) c.compare_exchange-found.result
    c.compare_exchange-found.ensures.2 (search rules) in (
      c.exchange-content.ensures.0 ∙ c.compare_exchange-found.ensures.0 ∙ c.requires.of.0,
      omega (arith, words, nodes, some, low, f),
      clear_ready c.args.self.now.table.shared.key c.args.self.now.table.shared.table_id.slots c.exchange-content.new.seat.id (c.args.client - 1) (c.args.self.now.nodes + c.from.result - 1)
          (suc (c.args.self.now.nodes + c.from.result - 1 - c.args.seat.now.seat.me.0.terms.nodes))
          c.args.seat.now.seat.me c.compare_exchange-found.new.seat.me c.exchange-content.new.seat.me (omega (arith, nodes, some, low, f)) c.requires.of.1 r c.exchange-content.ensures.3
          c.args.seat.now.has_part,
    )
