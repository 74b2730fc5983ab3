-- A script that is worked out by hand, and what its replies must be.
use Rattle.std.specs.Prelude.{ℕ, List, [], ◌∷◌, Ok, Err}
use Rattle.rp_base.specs.Leases.{first_lease}
use Rattle.rp_base.specs.declared.values.Value.TheVariants.{Number}
use Rattle.rp_request.specs.declared.notes.Note.{Note}
use Rattle.rp_request.specs.declared.notes.ReplyLine.{ReplyLine}
use Rattle.rp_request.specs.declared.outcomes.End.TheVariants as ends
use Rattle.rp_request.specs.declared.outcomes.Outcome.TheVariants.{Refused}
use Rattle.rp_request.specs.declared.outcomes.Refusal.{Refusal}
use Rattle.rp_request.specs.declared.outcomes.Refusal.TheVariants.{NoReplica, NotLeaseHolder}
use Rattle.rp_request.specs.declared.requests.Request.TheVariants.{Put}
use Rattle.rp_script.specs.declared.lines.NumberedLine.{NumberedLine}
use Rattle.rp_script.specs.declared.lines.ScriptLine.{ScriptLine}
use Rattle.rp_script.specs.declared.lines.ScriptLine.TheVariants as lines
use Rattle.rp_events.specs.Worked.{key_a, key_b}
use Rattle.rp_report.specs.Notes.{absent_text, nothing_text, not_holder_text, held_text}
use Rattle.rp_lines.specs.Players.{Played}
use Rattle.rp_lines.specs.Views.{replies_of}

-- a line under its number
abbrev pub numbered : ℕ → ScriptLine → NumberedLine
numbered number line = record { number = number; line = line }

-- of three nodes the leaseholder is removed while a command waits; what is sent to another node, and
-- to the removed replica, is refused
abbrev pub removal : List NumberedLine
removal =
    numbered 2 (lines.Send 1 0 1 (Put key_a (Number 1)))
    ∷ numbered 3 (lines.Send 2 0 1 (Put key_b (Number 2)))
    ∷ numbered 4 (lines.Remove 1 0)
    ∷ numbered 5 (lines.Again 1 0 1 1)
    ∷ []

-- an attempt of client 1's command that was refused
abbrev pub refused_with : (seq attempt : ℕ) → Refusal → ReplyLine
refused_with seq attempt refusal =
    record { client = 1; seq = seq; attempt = attempt; end = ends.Outcome (Refused refusal) }

-- reply 1.1 1 refused no-replica, reply 1.1 2 refused no-replica, reply 1.2 1 refused
-- not-lease-holder 1 1
abbrev pub removal_replies : List ReplyLine
removal_replies =
    refused_with 1 1 NoReplica
    ∷ refused_with 1 2 NoReplica
    ∷ refused_with 2 1 (NotLeaseHolder first_lease)
    ∷ []

-- the replies of what was played
abbrev pub replies_after : Played → List ReplyLine
replies_after (Ok p) = replies_of p.world.nodes
replies_after (Err limit) = []

-- lines that find a held lease, another holder, nothing to apply, no message and no replica
abbrev pub notes_script : List NumberedLine
notes_script =
    numbered 2 (lines.Ask 2 0)
    ∷ numbered 3 (lines.Transfer 2 0 3)
    ∷ numbered 4 (lines.Apply 1 0)
    ∷ numbered 5 (lines.Deliver 1 1)
    ∷ numbered 6 (lines.Flush 1 1)
    ∷ []

-- a note under its line
abbrev pub note_at : ℕ → List ℕ → Note
note_at line text = record { line = line; text = text }

-- the notes that these lines make
abbrev pub notes_expected : List Note
notes_expected =
    note_at 2 (held_text first_lease 0)
    ∷ note_at 3 (not_holder_text first_lease)
    ∷ note_at 4 nothing_text
    ∷ note_at 5 nothing_text
    ∷ note_at 6 absent_text
    ∷ []

-- the notes of what was played
abbrev pub notes_after : Played → List Note
notes_after (Ok p) = p.notes
notes_after (Err limit) = []
