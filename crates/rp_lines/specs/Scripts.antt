-- The lines of a script, one after another, as what they make of a world (this project's script).
use Rattle.std.specs.Prelude.{ℕ, if◌then◌else◌, List, [], ◌∷◌, Ok}
use Rattle.rp_base.specs.declared.items.Item.TheVariants as items
use Rattle.rp_base.specs.declared.leases.LeaseAsk.{LeaseAsk}
use Rattle.rp_bufcore.specs.Buffers.{can_draw}
use Rattle.rp_request.specs.declared.outcomes.Refusal.{Refusal}
use Rattle.rp_request.specs.declared.outcomes.Refusal.TheVariants as refusals
use Rattle.rp_script.specs.declared.lines.NumberedLine.{NumberedLine}
use Rattle.rp_script.specs.declared.lines.ScriptLine.{ScriptLine}
use Rattle.rp_script.specs.declared.lines.ScriptLine.TheVariants as lines
use Rattle.rp_events.specs.declared.answers.EventAnswer.{EventAnswer}
use Rattle.rp_events.specs.declared.answers.EventAnswer.TheVariants as answers
use Rattle.rp_events.specs.declared.world_events.WorldEvent.{WorldEvent}
use Rattle.rp_events.specs.declared.world_events.WorldEvent.TheVariants as events
use Rattle.rp_events.specs.Nodes.{parcel_of}
use Rattle.rp_events.specs.Worlds.{sent_by}
use Rattle.rp_events.specs.Buffered.{has_live}
use Rattle.rp_book.specs.Books.{latest_of}
use Rattle.rp_lines.specs.Players.{Player, Played, and_then, did, last_answer, noted}
use Rattle.rp_lines.specs.Commands.{buffer_at, sends, admits, tries_again, draws_latest, publishes_latest}
use Rattle.rp_lines.specs.Settling.{delivers, ticks, settles}
use Rattle.rp_report.specs.Notes.{full_text, absent_text, nothing_text, not_holder_text, held_text, peek_text}

-- an ask is put in the buffer, where there is room; else the line is told
abbrev pub puts_ask : (line node range : ℕ) → LeaseAsk → Player → Played
puts_ask line node range ask p =
    if can_draw (buffer_at p node range)
    then and_then (did (events.Draw node range) p)
    (did (events.Publish node range (buffer_at p node range).drawn (items.Lease ask)))
    else did (events.Draw node range) (noted line full_text p)

-- what a refusal tells: a transfer by another node; a range that is not there is told as the line begins
abbrev pub tells_refusal : (line : ℕ) → Refusal → Player → Player
tells_refusal line (refusals.NotLeaseHolder lease) p = noted line (not_holder_text lease) p
tells_refusal line refusal p = p

-- what follows the answer to the event of a line
abbrev pub tells : (line node range key : ℕ) → EventAnswer → Player → Played
tells line node range key answers.Done p = Ok p
tells line node range key answers.Nothing p = Ok (noted line nothing_text p)
tells line node range key answers.Admitted p = Ok p
tells line node range key (answers.Asked ask) p = puts_ask line node range ask p
tells line node range key (answers.Refused refusal) p = Ok (tells_refusal line refusal p)
tells line node range key (answers.LeaseHeld lease ticks) p = Ok (noted line (held_text lease ticks) p)
tells line node range key (answers.Value value applied) p =
    Ok (noted line (peek_text key value applied) p)

-- a line at a range that has no live replica at its node is told so, and makes its events all the same
abbrev pub told_absent : (line node range : ℕ) → Player → Player
told_absent line node range p =
    if has_live p.world.nodes node range then p else noted line absent_text p

-- a line of one event at a node and a range
abbrev pub does : (line node range key : ℕ) → WorldEvent → Player → Played
does line node range key e p =
    and_then (did e (told_absent line node range p))
    (λ q. tells line node range key (last_answer q node) q)

-- flush: what the buffer gives is collected, and the inbox flushed
abbrev pub flushes : (line node range : ℕ) → Player → Played
flushes line node range p =
    and_then (did (events.Collect node range) (told_absent line node range p))
    (did (events.Flush node range))

-- what a line makes of a world; `cluster` and `end` make nothing
abbrev pub played : (line : ℕ) → ScriptLine → Player → Played
played line (lines.Cluster nodes) p = Ok p
played line (lines.Send node range client request) p = sends line node range client request p
played line (lines.Admit node range client request) p = admits node range client request p
played line (lines.Again node range client seq) p =
    tries_again line node range (latest_of client seq p.book) p
played line (lines.Draw client seq) p = draws_latest line (latest_of client seq p.book) p
played line (lines.Publish client seq) p = publishes_latest line (latest_of client seq p.book) p
played line (lines.Ask node range) p = does line node range 0 (events.Ask node range) p
played line (lines.Transfer node range to) p =
    does line node range 0 (events.Transfer node range to) p
played line (lines.Flush node range) p = flushes line node range p
played line (lines.Apply node range) p = does line node range 0 (events.Apply node range) p
played line (lines.Cut node range) p = does line node range 0 (events.Cut node range) p
played line (lines.Remove node range) p = does line node range 0 (events.Remove node range) p
played line (lines.Restart node) p = did (events.Restart node) p
played line (lines.Tick node count) p = ticks node count p
played line (lines.Deliver node number) p =
    delivers line node number (parcel_of (sent_by p.world.nodes node) number) p
played line (lines.Peek node range key) p = does line node range key (events.Peek node range key) p
played line (lines.Loss percent salt) p =
    Ok (record p { loss = record { percent = percent; salt = salt } })
played line (lines.Settle rounds) p = settles rounds p
played line lines.End p = Ok p

-- lines one after another, each under its number
abbrev pub played_all : Player → List NumberedLine → Played
played_all p [] = Ok p
played_all p (l ∷ ls) = and_then (played l.number l.line p) (λ q. played_all q ls)
