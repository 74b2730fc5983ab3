use Rattle.std.proofs.Common.{◌-◌, ap, sym, subst, ◌∙◌}
use Rattle.rp_pending.specs.Proposals.{proposal_of, without}
use Rattle.rp_pending.specs.Slots.{proposals_in, AreSound}
use Rattle.rp_pending.proofs.Keeping.{at_least_one, emptied_in, found_in, sound_emptied, sound_without}
use Rattle.rp_pending.proofs.lists.Pending.finish.Goals as goal

pub invariant_of-self : goal.invariant_of-self
invariant_of-self c =
    subst (λ fs. AreSound fs c.self.inside.count) (sym c.take.ensures.entries)
    (sound_without c.args.id c.self.inside.slots.entries _ c.self.invariant (sym c.in-None.ensures.taken))

pub overflow_sub-self : goal.overflow_sub-self
overflow_sub-self c = at_least_one c.args.id c.self.inside.slots.entries _ c.self.invariant _ (sym c.in-Some.ensures.taken)

pub tidy-requires : goal.tidy-requires
tidy-requires c =
    subst (λ fs. AreSound fs (c.self.inside.count - 1)) (sym c.take.ensures.entries)
    (sound_emptied c.args.id c.self.inside.slots.entries _ c.self.invariant _ (sym c.in-Some.ensures.taken))

pub returns-in-None-clause-taken : goal.returns-in-None-clause-taken
returns-in-None-clause-taken c =
    c.in-None.ensures.taken ∙ sym (found_in c.args.id c.self.inside.slots.entries _ c.self.invariant)
    ∙ ap (λ v. proposal_of c.args.id v.list) c.self.view_is

pub returns-in-None-clause-list : goal.returns-in-None-clause-list
returns-in-None-clause-list c =
    ap proposals_in c.take.ensures.entries ∙ emptied_in c.args.id c.self.inside.slots.entries _ c.self.invariant
    ∙ ap (λ v. without c.args.id v.list) c.self.view_is

pub returns-in-Some-clause-taken : goal.returns-in-Some-clause-taken
returns-in-Some-clause-taken c =
    c.in-Some.ensures.taken ∙ sym (found_in c.args.id c.self.inside.slots.entries _ c.self.invariant)
    ∙ ap (λ v. proposal_of c.args.id v.list) c.self.view_is

pub returns-in-Some-clause-list : goal.returns-in-Some-clause-list
returns-in-Some-clause-list c =
    c.tidy.ensures.same ∙ ap proposals_in c.take.ensures.entries ∙ emptied_in c.args.id c.self.inside.slots.entries _ c.self.invariant
    ∙ ap (λ v. without c.args.id v.list) c.self.view_is
