-- The verdict on a report: the first of the written checks that does not hold.
use Rattle.std.specs.Prelude.{ℕ, ◌+◌, ◌==◌, ◌&&◌, Bool, true, false, nat_lt, is_some, List, [], ◌∷◌, ◌++◌, length, Option}
use Rattle.std.specs.List.{list_all}
use Rattle.rp_base.specs.declared.leases.Lease as lease_type
use Rattle.rp_report.specs.declared.views.ReplicaView.{ReplicaView}
use Rattle.rp_report.specs.declared.views.ReplicaView.TheVariants.{Live, Removed, Absent}
use Rattle.rp_request.specs.Items.{State}
use Rattle.rp_request.specs.declared.items.Place.{Place}
use Rattle.rp_request.specs.declared.items.Record.{Record}
use Rattle.rp_request.specs.declared.items.Record.TheVariants.{Took, Passed}
use Rattle.rp_reread.specs.declared.reports.Entry.{Entry}
use Rattle.rp_reread.specs.declared.reports.RangeRead.{RangeRead}
use Rattle.rp_reread.specs.declared.reports.Report.{Report}
use Rattle.rp_auditor.specs.Playing.{after_record, after_entries, up_to, at_state, is_under, is_within, is_answered, has_rows}
use Rattle.rp_auditor.specs.Seen.{Seen, named_by, named_in, is_first, is_honest}
use Rattle.rp_auditor.specs.Starts.{first_index, start_of}
use Rattle.rp_auditor.specs.declared.verdicts.Check.{Check}
use Rattle.rp_auditor.specs.declared.verdicts.Check.TheVariants as checks
use Rattle.rp_auditor.specs.declared.verdicts.Verdict.{Verdict}
use Rattle.rp_auditor.specs.declared.verdicts.Verdict.TheVariants.{Yes, No}

-- a check of a range, at an index: it holds or does not
abbrev pub checked : (range index : ℕ) → Check → Bool → Verdict
checked range index check true = Yes
checked range index check false = No range index check

-- the first No of two verdicts
infixr 5 ◌before◌
abbrev pub ◌before◌ : Verdict → Verdict → Verdict
Yes before v = v
(No range index check) before v = No range index check

-- the indexes run by one from this one on
abbrev pub runs_from : ℕ → List Entry → Bool
runs_from index [] = true
runs_from index (e ∷ es) = e.index == index && runs_from (index + 1) es

-- how far a node has applied
abbrev pub applied_of : ReplicaView → ℕ
applied_of (Live term applied lai rows) = applied
applied_of (Removed applied) = applied
applied_of Absent = 0

-- no node has applied past the entries, which end before this index
abbrev pub is_covered : (end : ℕ) → ReplicaView → Bool
is_covered end replica = nat_lt (applied_of replica) end

abbrev pub are_indexed : RangeRead → Bool
are_indexed x =
    runs_from (first_index x.id) x.entries
    && list_all (is_covered (first_index x.id + length x.entries)) x.replicas

abbrev pub same_lease : lease_type.Lease → lease_type.Lease → Bool
same_lease a b = a.holder == b.holder && (a.seq == b.seq && a.expires == b.expires)

-- the range's level, bounds and lease are those of the state
abbrev pub is_left : RangeRead → State → Bool
is_left x s = (s.desc.level == x.level && (s.desc.start == x.start && s.desc.end == x.end))
    && same_lease s.lease x.lease

-- the four checks of an item, in the state before it
abbrev pub judged_item : (range index : ℕ) → Seen → Option State → Place → Verdict
judged_item range index seen s item =
    checked range index checks.Once (is_first seen item)
    before checked range index checks.Lease (at_state s (λ t. is_under t item))
    before checked range index checks.Bounds (at_state s (λ t. is_within t item))
    before checked range index checks.Reply (at_state s (λ t. is_answered t item))

abbrev pub judged_record : (range index : ℕ) → Seen → Option State → Record → Verdict
judged_record range index seen s (Took item) = judged_item range index seen s item
judged_record range index seen s (Passed why) = Yes

-- the entries one after another, each in the state that those before it leave
abbrev pub judged_entries : (range : ℕ) → Seen → Option State → List Entry → Verdict
judged_entries range seen s [] = Yes
judged_entries range seen s (e ∷ es) =
    judged_record range e.index seen s e.kept
    before judged_entries range (seen ++ named_by e.kept) (after_record s e.kept) es

-- a live replica's rows are those that the entries up to its applied index leave
abbrev pub judged_replica : (range : ℕ) → Option State → List Entry → ReplicaView → Verdict
judged_replica range start entries (Live term applied lai rows) =
    checked range applied checks.Rows (at_state (after_entries start (up_to applied entries)) (has_rows rows))
judged_replica range start entries (Removed applied) = Yes
judged_replica range start entries Absent = Yes

abbrev pub judged_replicas : (range : ℕ) → Option State → List Entry → List ReplicaView → Verdict
judged_replicas range start entries [] = Yes
judged_replicas range start entries (r ∷ replicas) =
    judged_replica range start entries r before judged_replicas range start entries replicas

-- a range that starts in this state
abbrev pub judged_range : Seen → Option State → RangeRead → Verdict
judged_range seen start x =
    checked x.id 0 checks.Start (is_some start)
    before checked x.id 0 checks.Indexes (are_indexed x)
    before judged_entries x.id seen start x.entries
    before checked x.id 0 checks.State (at_state (after_entries start x.entries) (is_left x))
    before judged_replicas x.id start x.entries x.replicas

abbrev pub judged_ranges : List RangeRead → Seen → List RangeRead → Verdict
judged_ranges all seen [] = Yes
judged_ranges all seen (x ∷ ranges) =
    judged_range seen (start_of all x.id) x
    before judged_ranges all (seen ++ named_in x.entries) ranges

-- range 0 is there first
abbrev pub begins_at_0 : List RangeRead → Bool
begins_at_0 [] = false
begins_at_0 (x ∷ ranges) = x.id == 0

-- the commands of all items of a report
abbrev pub named_in_all : List RangeRead → Seen
named_in_all [] = []
named_in_all (x ∷ ranges) = named_in x.entries ++ named_in_all ranges

-- the verdict on a report
abbrev pub judged : Report → Verdict
judged report =
    checked 0 0 checks.Start (begins_at_0 report.ranges)
    before judged_ranges report.ranges [] report.ranges
    before checked 0 0 checks.Replies (list_all (is_honest (named_in_all report.ranges)) report.answers)
