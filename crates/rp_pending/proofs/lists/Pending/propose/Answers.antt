use Rattle.std.proofs.Common.{IsSome, ap, sym, subst, ◌∙◌}
use Rattle.rp_pending.specs.declared.proposals.Change.TheVariants.{Propose}
use Rattle.rp_pending.specs.Proposals.{proposed, proposal_of, with_changed}
use Rattle.rp_pending.specs.Slots.{proposals_in, slot_of, AreSound}
use Rattle.rp_pending.proofs.Keeping.{changed_at, found_in, some_slot, sound_changed}
use Rattle.rp_pending.proofs.lists.Pending.propose.Goals as goal

pub invariant_of-self : goal.invariant_of-self
invariant_of-self c =
    let es = c.self.inside.slots.entries in
    let there = subst (λ o. IsSome o) (ap (λ v. proposal_of c.args.id v.list) (sym c.self.view_is) ∙ found_in c.args.id es _ c.self.invariant) c.requires in
    let at = some_slot (slot_of c.args.id es) there in
    subst (λ fs. AreSound fs c.self.inside.count) (sym (c.change.ensures.entries _ at.1)) (sound_changed c.args.id es _ c.self.invariant (Propose c.args.max c.args.now c.args.round) _ at.1)

pub returns-clause-list : goal.returns-clause-list
returns-clause-list c =
    let es = c.self.inside.slots.entries in
    let there = subst (λ o. IsSome o) (ap (λ v. proposal_of c.args.id v.list) (sym c.self.view_is) ∙ found_in c.args.id es _ c.self.invariant) c.requires in
    let at = some_slot (slot_of c.args.id es) there in
    ap proposals_in (c.change.ensures.entries _ at.1) ∙ changed_at c.args.id es _ c.self.invariant (Propose c.args.max c.args.now c.args.round) _ at.1
    ∙ ap (λ v. with_changed c.args.id (proposed c.args.max c.args.now c.args.round) v.list) c.self.view_is
