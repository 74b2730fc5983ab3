use Rattle.std.proofs.Common.{rules, ◌≡◌, ◌≢◌, ℕ, ◌+◌, ◌-◌, ◌<◌, arith, subst, sym, ap, ◌∙◌}
use Rattle.rp_switch.specs.Calm.{is_calm, slots_at}
use Rattle.rp_switch.specs.declared.terms.Terms.{Terms}
use Rattle.rp_switch.specs.Views.{Found, Knowledge, noting, reaching, posting}
use Rattle.rp_switch.proofs.Calls.{reaches_at, reach_top, reached_is, post_ready, post_done}
use Rattle.rp_switch.proofs.switch.Switch.try_post.Goals as goal

pub compare_exchange-found-requires : goal.compare_exchange-found-requires
compare_exchange-found-requires g c =
    let words = c.args.self.now.counted.0 in
    let nodes = c.args.self.now.nodes_are in
    let some = c.requires.client.0 in
    let low = c.requires.client.1 in
    let f = c.from.ensures in (
      c.requires.of.0,
      omega (arith, words, nodes, some, low, f),
      reaches_at c.args.self.now.table.shared.key c.args.self.now.table.shared.table_id.slots c.args.seat.now.seat.id (c.args.client - 1) (c.args.self.now.nodes + c.from.result - 1) c.args.seat.now.seat.me
          (omega (arith, nodes, some, low, f)) (omega (arith, some, low)) c.requires.idle c.args.seat.now.has_part,
    )

pub exchange-requires : goal.exchange-requires
exchange-requires g c = (
  c.compare_exchange-found.ensures.0 ∙ c.requires.of.0,
  reach_top c.args.seat.now.seat.me c.compare_exchange-found.new.seat.me c.args.self.now.table.shared.table_id.slots (c.args.self.now.nodes + c.from.result - 1) c.compare_exchange-found.result
      c.compare_exchange-found.ensures.2 (search rules),
)

pub returns-then-found-ne-EMPTY-clause-told : goal.returns-then-found-ne-EMPTY-clause-told
returns-then-found-ne-EMPTY-clause-told g c =
    let nodes = c.args.self.now.nodes_are in
    let terms = ap (λ (u : Terms). u.nodes) c.requires.of.1 in
    let f = c.from.ensures in
    let word : c.args.self.now.nodes + c.from.result - 1 ≡ c.args.seat.now.seat.me.0.terms.nodes + c.args.client - 1 = omega (arith, nodes, terms, f) in
    let missed : c.compare_exchange-found.result ≢ 0 = search rules in (
      c.compare_exchange-found.result,
      missed,
      (c.compare_exchange-found.ensures.2.1 missed).0
          ∙ ap (λ (w : ℕ). noting (Found w c.compare_exchange-found.result) c.args.seat.now.seat.me.0) word,
    )

pub swap-requires : goal.swap-requires
swap-requires g c =
    let words = c.args.self.now.counted.0 in
    let nodes = c.args.self.now.nodes_are in
    let some = c.requires.client.0 in
    let low = c.requires.client.1 in
    let f = c.from.ensures in
    let r = reached_is c.args.seat.now.seat.me c.compare_exchange-found.new.seat.me c.args.self.now.table.shared.table_id.slots (c.args.self.now.nodes + c.from.result - 1) c.compare_exchange-found.result
    c.compare_exchange-found.ensures.2 (search rules) in (
      c.exchange.ensures.0 ∙ c.compare_exchange-found.ensures.0 ∙ c.requires.of.0,
      omega (arith, words, nodes, some, low, f),
      post_ready c.args.self.now.table.shared.key c.args.self.now.table.shared.table_id.slots c.exchange.new.seat.id (c.args.client - 1) (c.args.self.now.nodes + c.from.result - 1) c.args.client c.args.answer
          c.args.seat.now.seat.me c.compare_exchange-found.new.seat.me c.exchange.new.seat.me (omega (arith, nodes, some, low, f)) (omega (arith, some)) c.requires.of.1 r c.exchange.ensures.3
          c.requires.true_of c.args.seat.now.has_part,
    )

pub invariant_of-seat-2 : goal.invariant_of-seat-2
invariant_of-seat-2 g c =
    let r = reached_is c.args.seat.now.seat.me c.compare_exchange-found.new.seat.me c.args.self.now.table.shared.table_id.slots (c.args.self.now.nodes + c.from.result - 1) c.compare_exchange-found.result
    c.compare_exchange-found.ensures.2 (search rules) in
    let is = post_done c.args.self.now.table.shared.table_id.slots (c.args.self.now.nodes + c.from.result - 1) c.args.answer c.args.seat.now.seat.me c.compare_exchange-found.new.seat.me c.exchange.new.seat.me c.swap.new.seat.me c.swap.result
    c.args.seat.now.slots c.requires.idle r c.exchange.ensures.3 c.swap.ensures.2 in
    record {
      calm = ap (λ (v : Knowledge). is_calm v.stage) is.known;
      slots = is.none ∙ sym (ap (λ (v : Knowledge). slots_at v.stage) is.known);
      has_part = subst (λ (v : Knowledge). 0 < v.parts) (sym is.known) c.args.seat.now.has_part;
    }

pub returns-clause-same : goal.returns-clause-same
returns-clause-same g c =
    let r = reached_is c.args.seat.now.seat.me c.compare_exchange-found.new.seat.me c.args.self.now.table.shared.table_id.slots (c.args.self.now.nodes + c.from.result - 1) c.compare_exchange-found.result
    c.compare_exchange-found.ensures.2 (search rules) in
    let is = post_done c.args.self.now.table.shared.table_id.slots (c.args.self.now.nodes + c.from.result - 1) c.args.answer c.args.seat.now.seat.me c.compare_exchange-found.new.seat.me c.exchange.new.seat.me c.swap.new.seat.me c.swap.result
    c.args.seat.now.slots c.requires.idle r c.exchange.ensures.3 c.swap.ensures.2 in
    (c.swap.ensures.0 ∙ c.exchange.ensures.0 ∙ c.compare_exchange-found.ensures.0, ap (λ (v : Knowledge). v.terms) is.known)

pub returns-clause-told : goal.returns-clause-told
returns-clause-told g c =
    let nodes = c.args.self.now.nodes_are in
    let terms = ap (λ (u : Terms). u.nodes) c.requires.of.1 in
    let f = c.from.ensures in
    let word : c.args.self.now.nodes + c.from.result - 1 ≡ c.args.seat.now.seat.me.0.terms.nodes + c.args.client - 1 = omega (arith, nodes, terms, f) in
    let r = reached_is c.args.seat.now.seat.me c.compare_exchange-found.new.seat.me c.args.self.now.table.shared.table_id.slots (c.args.self.now.nodes + c.from.result - 1) c.compare_exchange-found.result
    c.compare_exchange-found.ensures.2 (search rules) in
    let is = post_done c.args.self.now.table.shared.table_id.slots (c.args.self.now.nodes + c.from.result - 1) c.args.answer c.args.seat.now.seat.me c.compare_exchange-found.new.seat.me c.exchange.new.seat.me c.swap.new.seat.me c.swap.result
    c.args.seat.now.slots c.requires.idle r c.exchange.ensures.3 c.swap.ensures.2 in
    is.known ∙ ap (λ (w : ℕ). posting w c.args.answer (reaching w (c.args.client - 1) c.args.seat.now.seat.me.0)) word
