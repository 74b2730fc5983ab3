-- What a report can show: numbers of their widths, keys, bounds that are shown, notes of one line.
use Rattle.std.specs.Prelude.{◌≡◌, ℕ, ◌+◌, ◌<◌, ◌^◌, ◌==◌, false, List, [], ◌∷◌, length}
use Rattle.std.specs.List.{AllByRecursion}
use Rattle.rp_base.specs.Keys.{IsKey, IsShown}
use Rattle.rp_base.specs.Values.{IsValue}
use Rattle.rp_base.specs.declared.Desc.{Desc}
use Rattle.rp_base.specs.declared.Lease.{Lease}
use Rattle.rp_request.specs.Fits.{FitsOption, FitsRequest, FitsReply, FitsId}
use Rattle.rp_request.specs.declared.outcomes.Refusal.{Refusal}
use Rattle.rp_request.specs.declared.outcomes.Refusal.TheVariants.{NoReplica, NotLeaseHolder, RangeMismatch, Latched, ConditionFailed, IsText, Overflow, Short, TooWide, NotInside, SplitLimit}
use Rattle.rp_request.specs.declared.outcomes.Ambiguity.{Ambiguity}
use Rattle.rp_request.specs.declared.outcomes.Ambiguity.TheVariants.{Snapshot, Removed, Restarted}
use Rattle.rp_request.specs.declared.outcomes.Outcome.TheVariants.{Success, Refused, Ambiguous, Pending}
use Rattle.rp_request.specs.declared.outcomes.End.{End}
use Rattle.rp_request.specs.declared.outcomes.End.TheVariants as ends
use Rattle.rp_request.specs.declared.items.Place.{Place}
use Rattle.rp_request.specs.declared.items.Place.TheVariants as places
use Rattle.rp_request.specs.declared.items.Record.{Record}
use Rattle.rp_request.specs.declared.items.Record.TheVariants.{Took, Passed}
use Rattle.rp_request.specs.declared.notes.Note.{Note}
use Rattle.rp_request.specs.declared.notes.ReplyLine.{ReplyLine}
use Rattle.rp_report.specs.declared.views.Row.{Row}
use Rattle.rp_report.specs.declared.views.ReplicaView.{ReplicaView}
use Rattle.rp_report.specs.declared.views.ReplicaView.TheVariants.{Live, Removed as Gone, Absent}
use Rattle.rp_report.specs.declared.views.RangeView.{RangeView}
use Rattle.rp_report.specs.declared.views.View.{View}
use Rattle.rp_report.specs.Report.{attempt_of}

-- a number of 64 bits
abbrev pub Fits : ℕ → Type 0
Fits n = n < 2 ^ 64

-- the numbers of a refusal have 64 bits, its key is a key, and its bounds are shown
abbrev pub FitsRefusal : Refusal → Type 0
FitsRefusal NoReplica = Unit {0}
FitsRefusal (NotLeaseHolder lease) = Fits lease.holder × Fits lease.seq
FitsRefusal (RangeMismatch desc) =
    Fits desc.id × IsShown desc.start × IsShown desc.end × Fits desc.level
FitsRefusal (Latched by held) = FitsId by
FitsRefusal (ConditionFailed actual) = FitsOption actual
FitsRefusal (IsText key) = IsKey key
FitsRefusal (Overflow actual) = Fits actual
FitsRefusal (Short actual) = Fits actual
FitsRefusal (TooWide count) = Fits count
FitsRefusal NotInside = Unit {0}
FitsRefusal (SplitLimit level) = Fits level

-- the numbers of an ambiguity have 64 bits
abbrev pub FitsAmbiguity : Ambiguity → Type 0
FitsAmbiguity (Snapshot own passed) = Fits own × Fits passed
FitsAmbiguity (Removed own) = Fits own
FitsAmbiguity (Restarted own) = Fits own

-- what the end of an attempt names
abbrev pub FitsEnd : End → Type 0
FitsEnd (ends.Outcome (Success reply)) = FitsReply reply
FitsEnd (ends.Outcome (Refused refusal)) = FitsRefusal refusal
FitsEnd (ends.Outcome (Ambiguous ambiguity)) = FitsAmbiguity ambiguity
FitsEnd (ends.Outcome Pending) = Unit {0}
FitsEnd (ends.Tries last) = FitsRefusal last
FitsEnd ends.Unsent = Unit {0}

-- what an applied item names
abbrev pub FitsPlace : Place → Type 0
FitsPlace (places.Write id request seq reply) =
    FitsId id × FitsRequest request × Fits seq × FitsReply reply
FitsPlace (places.Split id key right seq) = FitsId id × IsKey key × Fits right × Fits seq
FitsPlace (places.Lease lease) = Fits lease.holder × Fits lease.seq × Fits lease.expires

-- what a record names
abbrev pub FitsRecord : Record → Type 0
FitsRecord (Took item) = FitsPlace item
FitsRecord (Passed why) = Unit {0}

-- no byte is the end of a line
abbrev pub IsOneLine : List ℕ → Type 0
IsOneLine [] = Unit {0}
IsOneLine (b ∷ bytes) = ((b == 10) ≡ false) × IsOneLine bytes

abbrev pub FitsNote : Note → Type 0
FitsNote note = Fits note.line × IsOneLine note.text

abbrev pub FitsReplyLine : ReplyLine → Type 0
FitsReplyLine reply = FitsId (attempt_of reply) × FitsEnd reply.end

abbrev pub FitsRow : Row → Type 0
FitsRow row = IsKey row.key × IsValue row.value

abbrev pub FitsReplica : ReplicaView → Type 0
FitsReplica (Live term applied lai rows) =
    Fits term × Fits applied × Fits lai × AllByRecursion FitsRow rows
FitsReplica (Gone applied) = Fits applied
FitsReplica Absent = Unit {0}

abbrev pub FitsRangeLine : Desc → Lease → Type 0
FitsRangeLine desc lease =
    Fits desc.id × IsShown desc.start × IsShown desc.end × Fits desc.level
    × Fits lease.holder × Fits lease.seq × Fits lease.expires

abbrev pub FitsRange : RangeView → Type 0
FitsRange range =
    FitsRangeLine range.desc range.lease
    × (range.first + length range.records < 2 ^ 64) × AllByRecursion FitsRecord range.records
    × (1 + length range.replicas < 2 ^ 64) × AllByRecursion FitsReplica range.replicas

-- what a view names, and each note is one line
pub record FitsView (view : View) : Type 0 where
  pub nodes : Fits view.nodes
  pub notes : AllByRecursion FitsNote view.notes
  pub replies : AllByRecursion FitsReplyLine view.replies
  pub ranges : AllByRecursion FitsRange view.ranges
