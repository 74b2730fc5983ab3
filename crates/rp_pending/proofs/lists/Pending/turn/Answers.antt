use Rattle.std.proofs.Common.{ap, sym, ◌∙◌}
use Rattle.rp_pending.specs.Proposals.{proposal_of}
use Rattle.rp_pending.specs.Turns.{is_made_at, turned_at}
use Rattle.rp_pending.proofs.Keeping.{found_in, turned_in}
use Rattle.rp_pending.proofs.lists.Pending.turn.Goals as goal

pub invariant_of-self : goal.invariant_of-self
invariant_of-self c = (turned_in c.args.id c.self.inside.slots.entries _ c.self.invariant c.args.change _ c.change.ensures.none c.change.ensures.entries).0

pub returns-clause-made : goal.returns-clause-made
returns-clause-made c =
    c.change.ensures.made
    ∙ ap (is_made_at c.args.change) (sym (found_in c.args.id c.self.inside.slots.entries _ c.self.invariant) ∙ ap (λ v. proposal_of c.args.id v.list) c.self.view_is)

pub returns-clause-list : goal.returns-clause-list
returns-clause-list c =
    (turned_in c.args.id c.self.inside.slots.entries _ c.self.invariant c.args.change _ c.change.ensures.none c.change.ensures.entries).1
    ∙ ap (λ v. turned_at c.args.change c.args.id v.list) c.self.view_is
