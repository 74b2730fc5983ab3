use Rattle.std.proofs.Common.{ap, sym, ◌∙◌}
use Rattle.std.specs.Option.{option_flatten}
use Rattle.rp_pending.specs.Proposals.{proposal_of}
use Rattle.rp_pending.proofs.Keeping.{found_in}
use Rattle.rp_pending.proofs.lists.Pending.find.Goals as goal

pub returns-in-None : goal.returns-in-None
returns-in-None c =
    ap option_flatten c.in-None.ensures
    ∙ sym (found_in c.args.id c.self.inside.slots.entries _ c.self.invariant)
    ∙ ap (λ v. proposal_of c.args.id v.list) c.self.view_is

pub returns-in-Some : goal.returns-in-Some
returns-in-Some c =
    c.as_ref.ensures.value ∙ ap option_flatten c.in-Some.ensures
    ∙ sym (found_in c.args.id c.self.inside.slots.entries _ c.self.invariant)
    ∙ ap (λ v. proposal_of c.args.id v.list) c.self.view_is
