use Rattle.std.proofs.Common.{◌∙◌, ap, map, sym}
use Rattle.rp_events.specs.declared.journals.JournalEntry.{JournalEntry}
use Rattle.rp_node.proofs.Journaling.{events_of}
use Rattle.rp_node.proofs.journals.Journal.events.Goals as goal

pub returns : goal.returns
returns c =
    c.as_slice.ensures ∙ sym (events_of c.self.inside.told.entries 0 c.self.inside.events.list)
    ∙ ap (λ v. map (λ (e : JournalEntry). e.event) v.list) c.self.view_is
