-- The report: the text of what a run shows, line after line.
use Rattle.std.specs.Prelude.{ℕ, ◌+◌, List, [], ◌∷◌, ◌++◌, flat_map, codes}
use Rattle.rp_base.specs.Keys.{key_text}
use Rattle.rp_base.specs.declared.CmdId.{CmdId}
use Rattle.rp_base.specs.declared.Desc.{Desc}
use Rattle.rp_base.specs.declared.Lease.{Lease}
use Rattle.rp_request.specs.declared.items.Record.{Record}
use Rattle.rp_request.specs.declared.notes.Note.{Note}
use Rattle.rp_request.specs.declared.notes.ReplyLine.{ReplyLine}
use Rattle.rp_report.specs.declared.views.Row.{Row}
use Rattle.rp_report.specs.declared.views.ReplicaView.{ReplicaView}
use Rattle.rp_report.specs.declared.views.ReplicaView.TheVariants.{Live, Removed, Absent}
use Rattle.rp_report.specs.declared.views.RangeView.{RangeView}
use Rattle.rp_report.specs.declared.views.View.{View}
use Rattle.rp_report.specs.Words.{newline, spaced, spaced_bound, spaced_value, attempt_text, lease_text}
use Rattle.rp_report.specs.Items.{record_line}
use Rattle.rp_report.specs.Outcomes.{end_text}

-- what a line of the script has to tell
abbrev pub note_line : Note → List ℕ
note_line note = codes "note" ++ spaced note.line ++ codes " " ++ note.text ++ newline

-- the attempt that a reply line names
abbrev pub attempt_of : ReplyLine → CmdId
attempt_of answer = record { client = answer.client; seq = answer.seq; attempt = answer.attempt }

-- how an attempt ended
abbrev pub answer_line : ReplyLine → List ℕ
answer_line answer =
    codes "reply " ++ attempt_text (attempt_of answer) ++ codes " "
    ++ end_text answer.end ++ newline

-- a range's number and its bounds
abbrev pub bounds_text : Desc → List ℕ
bounds_text desc =
    codes "range" ++ spaced desc.id ++ spaced_bound desc.start ++ spaced_bound desc.end

-- the range itself: its number, its bounds, its level and its lease
abbrev pub range_line : Desc → Lease → List ℕ
range_line desc lease =
    bounds_text desc ++ codes " level" ++ spaced desc.level
    ++ codes " lease " ++ lease_text lease ++ newline

-- the records, from this index on
abbrev pub record_lines : ℕ → List Record → List ℕ
record_lines index [] = []
record_lines index (r ∷ records) = record_line index r ++ record_lines (index + 1) records

-- a key that has a value
abbrev pub row_line : Row → List ℕ
row_line row = codes "row " ++ key_text row.key ++ spaced_value row.value ++ newline

-- how far a live replica has come: its Raft term, its applied index, its lease applied index
abbrev pub live_text : ℕ → ℕ → ℕ → List ℕ
live_text term applied lai =
    codes " live term" ++ spaced term ++ codes " applied" ++ spaced applied
    ++ codes " lai" ++ spaced lai

-- what a node has of the range, behind the node's number
abbrev pub state_text : ReplicaView → List ℕ
state_text (Live term applied lai rows) =
    live_text term applied lai ++ newline ++ flat_map row_line rows
state_text (Removed applied) = codes " removed applied" ++ spaced applied ++ newline
state_text Absent = codes " none" ++ newline

abbrev pub replica_lines_of : ℕ → ReplicaView → List ℕ
replica_lines_of node replica = codes "node" ++ spaced node ++ state_text replica

-- what the nodes have of it, from this node on
abbrev pub replica_lines : ℕ → List ReplicaView → List ℕ
replica_lines node [] = []
replica_lines node (r ∷ replicas) = replica_lines_of node r ++ replica_lines (node + 1) replicas

abbrev pub range_lines : RangeView → List ℕ
range_lines range =
    range_line range.desc range.lease ++ record_lines range.first range.records
    ++ replica_lines 1 range.replicas

-- the whole report
abbrev pub report : View → List ℕ
report view = codes "nodes" ++ spaced view.nodes ++ newline
    ++ flat_map note_line view.notes ++ flat_map answer_line view.replies
    ++ flat_map range_lines view.ranges
    ++ codes "end" ++ newline
