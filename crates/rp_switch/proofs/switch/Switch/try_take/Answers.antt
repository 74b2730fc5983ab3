use Rattle.std.proofs.Common.{rules, ◌-◌, arith, ◌∙◌}
use Rattle.rp_switch.proofs.Taking.{takes_node}
use Rattle.rp_switch.proofs.Calls.{top_is}
use Rattle.rp_switch.proofs.switch.Switch.try_take.Goals as goal

pub compare_exchange-found-requires : goal.compare_exchange-found-requires
compare_exchange-found-requires g c =
    let words = c.args.self.now.counted.0 in
    let low = c.requires.node in
    let f = c.from-place.ensures in
    let v = c.get.ensures.value in
    let o = c.get.ensures.from_one in (
      c.requires.of.0,
      omega (arith, words, low, f, v, o),
      takes_node c.args.self.now.table.shared.key c.args.self.now.table.shared.table_id.slots c.args.seat.now.seat.id (c.from-place.result - 1) c.args.seat.now.seat.me
          (omega (arith, low, f, v, o)) c.requires.idle c.args.seat.now.has_part,
    )

pub exchange-requires : goal.exchange-requires
exchange-requires g c = (
  c.compare_exchange-found.ensures.0 ∙ c.requires.of.0,
  top_is c.args.seat.now.seat.me c.compare_exchange-found.new.seat.me c.args.self.now.table.shared.table_id.slots (c.from-place.result - 1) c.compare_exchange-found.result
      c.compare_exchange-found.ensures.2 (search rules),
)
