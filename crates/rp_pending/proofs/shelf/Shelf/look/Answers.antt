use Rattle.std.proofs.Common.{ap, sym, ◌∙◌}
use Rattle.std.specs.Prelude.{slice_get}
use Rattle.rp_pending.proofs.Passing.{pushed}
use Rattle.rp_pending.proofs.shelf.Shelf.look.Goals as goal

pub returns-in-Some : goal.returns-in-Some
returns-in-Some c =
    pushed c.push_wanted.result c.args.dues.now.items c.push_wanted.new.dues.items c.args.wanted.now c.args.self.now.entries c.args.at _
    (sym (c.in-Some.ensures.entry ∙ ap (λ v. slice_get v.entries c.args.at) c.self.view_is)) c.push_wanted.ensures
