use Rattle.std.proofs.Common.{◌≡◌, ℕ, List, ◌++◌, subst, sym, ap, ◌∙◌}
use Rattle.std.specs.Slots.{slots_items}
use Rattle.rp_node.specs.Steps.{Held}
use Rattle.rp_switch.specs.Closings.{bodies}
use Rattle.rp_switch.specs.Openings.{bare}
use Rattle.rp_switch.specs.Seats.{Closes}
use Rattle.rp_switch.proofs.Closing.{settles}
use Rattle.rp_switch.proofs.switch.Switch.close.Goals as goal

pub returns : goal.returns
returns g c =
    let slots = slots_items c.close_with-closed.result.slots in
    let list : c.from_vec.result ≡ bodies c.args.self.nodes slots =
    c.from_vec.ensures ∙ c.into_vec.ensures.list ∙ c.take_nodes.ensures.found
    ∙ ap (λ (l : List (Held g.row.E.Denot)). l ++ bodies c.args.self.nodes slots) (c.in_ok-make_room.ensures.list ∙ c.new-nodes.ensures) in
    subst (λ (l : List (Held g.row.E.Denot)). Closes c.args.seat.seat.me.0 (bare l)) (sym list)
    (subst (λ (n : ℕ). Closes c.args.seat.seat.me.0 (bare (bodies n slots))) (sym c.args.self.nodes_are)
    (settles c.args.self.table.shared.key c.args.seat.seat.id c.args.seat.seat.me.0 (slots_items c.close_with-closed.result.words) slots
    c.requires.all c.requires.idle c.close_with-closed.ensures.values.2))
