use Rattle.std.proofs.Common.{rules, ◌≡◌, ℕ, ◌+◌, List, length, replicate, arith, subst, sym, ap, ◌∙◌}
use Rattle.rp_switch.specs.declared.slots.Slot.{Slot}
use Rattle.rp_switch.specs.declared.terms.Terms.{Terms}
use Rattle.rp_switch.specs.Openings.{first_slots}
use Rattle.rp_switch.specs.Rules.{Kept, first, clients_of, size_of}
use Rattle.atomic_table.specs.Table.{opening}
use Rattle.rp_switch.proofs.Opening.{opens}
use Rattle.rp_switch.proofs.switch.Switch.new.Goals as goal

pub new-requires : goal.new-requires
new-requires g c =
    let t : Terms = record { nodes = c.len-count.result; rules = c.args.rules } in
    let size : length c.args.nodes.items ≡ c.len-count.result = search rules in
    let clients : c.len-clients.result ≡ clients_of t = search rules in
    let words : c.deref.result.now ≡ replicate (size_of t) 0 = c.deref.ensures.value ∙ c.in_ok-words.ensures ∙ ap (λ (n : ℕ). replicate (c.len-count.result + n) 0) clients in
    let slots : c.in_ok-slots.slots.items ≡ first_slots c.args.nodes.items (clients_of t) = c.in_ok-slots.ensures ∙ ap (first_slots c.args.nodes.items) clients in
    let some = c.requires.some in
    let few = c.requires.few in
    subst (λ (ws : List ℕ). Kept t (opening ws c.in_ok-slots.slots.items (first t))) (sym words)
    (subst (λ (ys : List (Slot g.row.E.Denot)). Kept t (opening (replicate (size_of t) 0) ys (first t))) (sym slots)
    (opens t c.args.nodes.items size (omega (arith, some, size)) (omega (arith, few, size)) c.requires.first))
