use Rattle.std.proofs.Common.{◌+◌, ◌++◌, ◌∷◌, [], ap, refl, sym, subst, ◌∙◌}
use Rattle.std.specs.List.{IsDistinct}
use Rattle.std.specs.Map.{keys_of}
use Rattle.rp_base.specs.Ids.{same_id}
use Rattle.rp_pending.specs.Proposals.{proposal_of}
use Rattle.rp_pending.specs.Slots.{proposals_in, AreSound}
use Rattle.rp_pending.proofs.Keeping.{found_in, one_more_in, sound_more}
use Rattle.rp_pending.proofs.lists.Pending.add.Goals as goal

pub clear-requires-clause-new_id : goal.clear-requires-clause-new_id
clear-requires-clause-new_id c =
    sym (found_in c.args.proposal.id c.self.inside.slots.entries _ c.self.invariant) ∙ ap (λ v. proposal_of c.args.proposal.id v.list) c.self.view_is ∙ c.requires.new_id

pub invariant_of-self : goal.invariant_of-self
invariant_of-self c =
    let e = c.put.ensures.entries in
    subst (λ fs. AreSound fs (c.self.inside.count + 1)) (sym e)
    (sound_more c.args.proposal.id c.clear.new.self.entries _ c.clear.ensures.sound c.args.proposal refl (subst (λ fs. IsDistinct same_id (keys_of fs)) e c.put.ensures.distinct))

pub returns-clause-list : goal.returns-clause-list
returns-clause-list c =
    ap proposals_in c.put.ensures.entries ∙ one_more_in c.args.proposal.id c.clear.new.self.entries _ c.clear.ensures.sound c.args.proposal
    ∙ ap (λ ps. ps ++ c.args.proposal ∷ []) (c.clear.ensures.same ∙ ap (λ v. v.list) c.self.view_is)
