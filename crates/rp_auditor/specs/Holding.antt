-- All checks of a report hold.
use Rattle.std.specs.Prelude.{◌≡◌, true, is_some, List, [], ◌∷◌, ◌++◌, Option}
use Rattle.std.specs.List.{list_all}
use Rattle.rp_report.specs.declared.views.ReplicaView.{ReplicaView}
use Rattle.rp_report.specs.declared.views.ReplicaView.TheVariants.{Live, Removed, Absent}
use Rattle.rp_request.specs.Items.{State}
use Rattle.rp_request.specs.declared.items.Place.{Place}
use Rattle.rp_request.specs.declared.items.Record.{Record}
use Rattle.rp_request.specs.declared.items.Record.TheVariants.{Took, Passed}
use Rattle.rp_reread.specs.declared.reports.Entry.{Entry}
use Rattle.rp_reread.specs.declared.reports.RangeRead.{RangeRead}
use Rattle.rp_reread.specs.declared.reports.Report.{Report}
use Rattle.rp_auditor.specs.Audits.{begins_at_0, are_indexed, is_left, named_in_all}
use Rattle.rp_auditor.specs.Playing.{after_record, after_entries, up_to, at_state, is_under, is_within, is_answered, has_rows}
use Rattle.rp_auditor.specs.Seen.{Seen, named_by, named_in, is_first, is_honest}
use Rattle.rp_auditor.specs.Starts.{start_of}

-- an item, in the state before it
pub record ItemHolds (seen : Seen) (s : Option State) (item : Place) : Type 0 where
  pub once : is_first seen item ≡ true
  pub lease : at_state s (λ t. is_under t item) ≡ true
  pub bounds : at_state s (λ t. is_within t item) ≡ true
  pub reply : at_state s (λ t. is_answered t item) ≡ true

abbrev pub RecordHolds : Seen → Option State → Record → Type 0
RecordHolds seen s (Took item) = ItemHolds seen s item
RecordHolds seen s (Passed why) = Unit {0}

-- each entry, in the state that those before it leave
abbrev pub EntriesHold : Seen → Option State → List Entry → Type 0
EntriesHold seen s [] = Unit {0}
EntriesHold seen s (e ∷ es) =
    RecordHolds seen s e.kept × EntriesHold (seen ++ named_by e.kept) (after_record s e.kept) es

-- each live replica has the rows that the entries up to its applied index leave
abbrev pub ReplicaHolds : Option State → List Entry → ReplicaView → Type 0
ReplicaHolds start entries (Live term applied lai rows) =
    at_state (after_entries start (up_to applied entries)) (has_rows rows) ≡ true
ReplicaHolds start entries (Removed applied) = Unit {0}
ReplicaHolds start entries Absent = Unit {0}

abbrev pub ReplicasHold : Option State → List Entry → List ReplicaView → Type 0
ReplicasHold start entries [] = Unit {0}
ReplicasHold start entries (r ∷ replicas) = ReplicaHolds start entries r × ReplicasHold start entries replicas

pub record RangeHolds (seen : Seen) (start : Option State) (x : RangeRead) : Type 0 where
  pub starts : is_some start ≡ true
  pub indexed : are_indexed x ≡ true
  pub entries : EntriesHold seen start x.entries
  pub left : at_state (after_entries start x.entries) (is_left x) ≡ true
  pub replicas : ReplicasHold start x.entries x.replicas

abbrev pub RangesHold : List RangeRead → Seen → List RangeRead → Type 0
RangesHold all seen [] = Unit {0}
RangesHold all seen (x ∷ ranges) = RangeHolds seen (start_of all x.id) x × RangesHold all (seen ++ named_in x.entries) ranges

-- all checks of a report
pub record AllHold (r : Report) : Type 0 where
  pub zero : begins_at_0 r.ranges ≡ true
  pub ranges : RangesHold r.ranges [] r.ranges
  pub honest : list_all (is_honest (named_in_all r.ranges)) r.answers ≡ true
