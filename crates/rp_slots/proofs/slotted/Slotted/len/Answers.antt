use Rattle.std.proofs.Common.{length, sym, ap, ◌∙◌}
use Rattle.rp_slots.proofs.Edits.{long}
use Rattle.rp_slots.proofs.slotted.Slotted.len.Goals as goal

pub returns : goal.returns
returns g c = sym (long _ _ _ c.self.invariant.live c.self.invariant.whole c.self.invariant.slots) ∙ ap (λ v. length v.list) c.self.view_is
