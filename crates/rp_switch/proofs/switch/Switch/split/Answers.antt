use Rattle.std.proofs.Common.{◌≤◌, arith, subst, sym, ap, ◌∙◌}
use Rattle.rp_switch.specs.Views.{Knowledge}
use Rattle.rp_switch.proofs.Parting.{chooses_client, splits}
use Rattle.rp_switch.proofs.switch.Switch.split.Goals as goal

pub compare_exchange-requires : goal.compare_exchange-requires
compare_exchange-requires g c =
    let words = c.args.self.now.counted.0 in
    let some = c.args.self.now.some in
    let nodes = c.args.self.now.nodes_are in
    (c.requires.of.0, omega (arith, words, some, nodes), chooses_client _ _ _ _ _ c.requires.idle c.args.seat.now.has_part)

pub split_seat-seat-requires : goal.split_seat-seat-requires
split_seat-seat-requires g c =
    let words = c.args.self.now.counted.0 in
    let some = c.args.self.now.some in
    let nodes = c.args.self.now.nodes_are in
    let chose = c.compare_exchange.ensures.2 in
    let two = c.requires.parts in (
      c.compare_exchange.ensures.0 ∙ c.requires.of.0,
      omega (arith, words, some, nodes),
      splits _ _ _ _ (ap (λ (v : Knowledge). v.stage) chose.0) (subst (λ (v : Knowledge). 2 ≤ v.parts) (sym chose.0) two),
    )
