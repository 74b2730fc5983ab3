-- What a world of nodes shows (this project's report).
use Rattle.std.specs.Prelude.{◌≡◌, ℕ, ◌+◌, ◌<◌, List, [], ◌∷◌, map, length, sum_by, Contains}
use Rattle.std.specs.List.{AllByRecursion}
use Rattle.std.specs.BTreeMap.{insert_entry}
use Rattle.std.specs.FinMap.{entries}
use Rattle.rp_base.specs.Ids.{cmd_cmp}
use Rattle.rp_base.specs.declared.ids.CmdId.{CmdId}
use Rattle.rp_base.specs.declared.values.Value.{Value}
use Rattle.rp_request.specs.History.{History}
use Rattle.rp_request.specs.declared.notes.Note.{Note}
use Rattle.rp_request.specs.declared.notes.ReplyLine.{ReplyLine}
use Rattle.rp_request.specs.declared.outcomes.End.TheVariants as ends
use Rattle.rp_request.specs.declared.outcomes.Outcome.{Outcome}
use Rattle.rp_report.specs.declared.views.Row.{Row}
use Rattle.rp_report.specs.declared.views.ReplicaView.{ReplicaView}
use Rattle.rp_report.specs.declared.views.ReplicaView.TheVariants as views
use Rattle.rp_report.specs.declared.views.RangeView.{RangeView}
use Rattle.rp_report.specs.declared.views.View.{View}
use Rattle.rp_events.specs.declared.journals.JournalEntry.{JournalEntry}
use Rattle.rp_events.specs.declared.journals.PastEvent.{PastEvent}
use Rattle.rp_events.specs.declared.journals.PastEvent.TheVariants as past
use Rattle.rp_events.specs.Nodes.{Node, Status, Absent, Live, Removed, seat}
use Rattle.rp_events.specs.Worlds.{World, outcome_by}
use Rattle.rp_events.specs.Lists.{base_of, HasApplied, IsOneList}

-- a row as it is shown
abbrev pub row_of : ℕ × Value → Row
row_of e = record { key = e.0; value = e.1 }

-- what a node has of a range: a replica with its term, how far it has come and its rows by key
abbrev pub status_view : Status → ReplicaView
status_view Absent = views.Absent
status_view (Live r) =
    views.Live r.raft.head.term r.applied.index r.applied.state.lai
    (map row_of (entries r.applied.state.table))
status_view (Removed applied) = views.Removed applied.index

-- the node that has applied a range's whole list, and its state
pub record HasAppliedAll (w : World) (range : ℕ) (v : RangeView) : Type 0 where
  pub node : ℕ
  pub history : History
  pub applied : HasApplied w node range history
  pub all : history.index ≡ base_of range + length v.records
  pub desc : v.desc ≡ history.state.desc
  pub lease : v.lease ≡ history.state.lease

-- what is shown of a range: its one list from the first index on, the description and the lease after
-- the whole list, and what each node has of it
pub record IsRangeView (w : World) (range : ℕ) (v : RangeView) : Type 0 where
  pub number : v.desc.id ≡ range
  pub list : IsOneList w range v.records
  pub first : v.first ≡ base_of range + 1
  pub state : HasAppliedAll w range v
  pub replicas : v.replicas ≡ map (λ n. status_view (seat n range)) w

-- the outcomes of attempts, by attempt
abbrev pub Ends : Type 0
Ends = List (CmdId × Outcome)

-- an attempt that a journal names, with its outcome
abbrev pub with_end : Node → Ends → JournalEntry → Ends
with_end n ends e = by_event e.event
  where
    by_event : PastEvent → Ends
    by_event (past.Admit range id place) = insert_entry cmd_cmp ends id (outcome_by n id e.answer)
    by_event _ = ends

abbrev pub ends_in : Node → Ends → List JournalEntry → Ends
ends_in n ends [] = ends
ends_in n ends (e ∷ es) = ends_in n (with_end n ends e) es

-- the outcomes of all attempts that the journals name
abbrev pub ends_of : Ends → World → Ends
ends_of ends [] = ends
ends_of ends (n ∷ w) = ends_of (ends_in n ends n.journal) w

-- the reply lines: one for each attempt that a journal names, by client, command and attempt
abbrev pub reply_of : CmdId × Outcome → ReplyLine
reply_of e =
    record { client = e.0.client; seq = e.0.seq; attempt = e.0.attempt; end = ends.Outcome e.1 }

abbrev pub replies_of : World → List ReplyLine
replies_of w = map reply_of (ends_of [] w)

-- the ranges stand by number, ascending
abbrev pub AreAscending : List RangeView → Type 0
AreAscending [] = Unit {0}
AreAscending (v ∷ vs) = AllByRecursion (λ (later : RangeView). v.desc.id < later.desc.id) vs × AreAscending vs

-- each range that is shown is one that a node has or had, and so is each other way round
pub record ShowsRanges (w : World) (ranges : List RangeView) : Type 0 where
  pub shown : AllByRecursion (λ (v : RangeView). IsRangeView w v.desc.id v) ranges
  pub all : (node range : ℕ) (h : History) → HasApplied w node range h
      → (v : RangeView) × (Contains ranges v × (v.desc.id ≡ range))
  pub ascending : AreAscending ranges

-- what a world shows beside these replies and notes
pub record IsViewWith (w : World) (replies : List ReplyLine) (notes : List Note) (v : View)
    : Type 0 where
  pub nodes : v.nodes ≡ length w
  pub notes_are : v.notes ≡ notes
  pub replies_are : v.replies ≡ replies
  pub ranges : ShowsRanges w v.ranges
  pub messages : v.messages ≡ sum_by (λ n. length n.sent) w

-- what a world shows, with the notes of the lines that it played: beside them the outcomes of all attempts
abbrev pub IsViewOf : World → List Note → View → Type 0
IsViewOf w notes v = IsViewWith w (replies_of w) notes v
