use Rattle.std.proofs.Common.{◌∙◌, ap, length, sym}
use Rattle.rp_node.proofs.Journaling.{count_of}
use Rattle.rp_node.proofs.journals.Journal.len.Goals as goal

pub returns : goal.returns
returns c =
    c.len.ensures ∙ sym (count_of c.self.inside.told.entries 0 c.self.inside.events.list) ∙ ap (λ v. length v.list) c.self.view_is
