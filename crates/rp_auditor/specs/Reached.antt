-- What a part of an audit says, and what it leaves where it says yes.
use Rattle.std.specs.Prelude.{◌≡◌, ℕ, true, List, ◌++◌, Option, Some}
use Rattle.rp_request.specs.Items.{State, after_item}
use Rattle.rp_request.specs.declared.items.Place.{Place}
use Rattle.rp_request.specs.declared.items.Record.{Record}
use Rattle.rp_reread.specs.declared.reports.Entry.{Entry}
use Rattle.rp_reread.specs.declared.reports.RangeRead.{RangeRead}
use Rattle.rp_auditor.specs.Audits.{judged_item, judged_record, judged_entries, judged_range, judged_ranges, named_in_all}
use Rattle.rp_auditor.specs.Playing.{after_record, after_entries}
use Rattle.rp_auditor.specs.Seen.{Seen, named_by, named_in, is_first}
use Rattle.rp_auditor.specs.declared.verdicts.Verdict.{Verdict}
use Rattle.rp_auditor.specs.declared.verdicts.Verdict.TheVariants.{Yes}

pub record JudgesItem (range index : ℕ) (seen : Seen) (s : State) (item : Place) (v : Verdict) (t : State) : Type 0 where
  pub verdict : judged_item range index seen (Some s) item ≡ v
  pub first : v ≡ Yes → is_first seen item ≡ true
  pub taken : v ≡ Yes → after_item s item ≡ Some t

pub record JudgesRecord (range index : ℕ) (seen : Seen) (s : State) (kept : Record) (v : Verdict) (new : Seen) (t : State) : Type 0 where
  pub verdict : judged_record range index seen (Some s) kept ≡ v
  pub names : v ≡ Yes → new ≡ seen ++ named_by kept
  pub taken : v ≡ Yes → after_record (Some s) kept ≡ Some t

pub record JudgesEntries (range : ℕ) (seen : Seen) (s : State) (es : List Entry) (v : Verdict) (new : Seen) (t : State) : Type 0 where
  pub verdict : judged_entries range seen (Some s) es ≡ v
  pub names : v ≡ Yes → new ≡ seen ++ named_in es
  pub taken : v ≡ Yes → after_entries (Some s) es ≡ Some t

pub record JudgesRange (seen : Seen) (start : Option State) (x : RangeRead) (v : Verdict) (new : Seen) : Type 0 where
  pub verdict : judged_range seen start x ≡ v
  pub names : v ≡ Yes → new ≡ seen ++ named_in x.entries

pub record JudgesRanges (ranges : List RangeRead) (seen : Seen) (v : Verdict) (new : Seen) : Type 0 where
  pub verdict : judged_ranges ranges seen ranges ≡ v
  pub names : v ≡ Yes → new ≡ seen ++ named_in_all ranges
