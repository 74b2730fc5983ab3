use Rattle.std.proofs.Common.{◌∙◌, ◌<◌, ◌≤◌, ap, get_or, length, map, subst}
use Rattle.std.specs.Map.{lookup}
use Rattle.std.proofs.lemmas.List.{length-map}
use Rattle.rp_events.specs.declared.journals.JournalEntry.{JournalEntry}
use Rattle.rp_events.specs.Worlds.{ended_of}
use Rattle.rp_racelines.specs.Latest.{is_command, noted_event, told_in}
use Rattle.rp_racelines.proofs.Noting.{all_entries, event_more, no_entries}
use Rattle.rp_racelines.proofs.attempts.note_node.Goals as goal

pub loop-place-init : goal.loop-place-init
loop-place-init g c w h = no_entries w c.args.node.now.node _ h

pub loop-place-preserved : goal.loop-place-preserved
loop-place-preserved g c w h =
    let n = c.args.node.now.node in
    let i = c.loop-place.place in
    let same = c.events-event-items.ensures ∙ ap (map (λ (e : JournalEntry). e.event)) c.journal-journal.ensures in
    let long = ap length same ∙ length-map n.journal (λ (e : JournalEntry). e.event) in
    event_more w n i c.event-item.result (told_in c.in_ok-ends.ends.entries) c.loop-place.attempts.entries c.note_event.new.attempts.entries
    (subst (λ k. i < k) long c.loop-place-test.true)
    (c.event-item.is ∙ ap (λ l. get_or l i c.event-item.result) same)
    (λ id. c.in_ok-ends.ensures id ∙ ap (ended_of id) (c.as_slice.ensures ∙ c.outcomes.ensures))
    (λ client seq e. c.in_ok-note_event.ensures client seq e
    ∙ ap (λ l. noted_event (get_or l i e).answer (told_in c.in_ok-ends.ends.entries) client seq
    (lookup (is_command client seq) c.loop-place.attempts.entries) c.event-item.result) c.journal-journal.ensures)
    (c.loop-place.invariant w h)

pub returns : goal.returns
returns g c w h =
    let n = c.args.node.now.node in
    let same = c.events-event-items.ensures ∙ ap (map (λ (e : JournalEntry). e.event)) c.journal-journal.ensures in
    let long = ap length same ∙ length-map n.journal (λ (e : JournalEntry). e.event) in
    all_entries w n c.loop-place.place c.loop-place.attempts.entries
    (subst (λ k. k ≤ c.loop-place.place) long c.loop-place-test.false) (c.loop-place.invariant w h)
