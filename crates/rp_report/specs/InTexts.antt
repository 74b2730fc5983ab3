-- What a text tells of what is written: all but what it leaves out.
use Rattle.std.specs.Prelude.{ℕ, ◌+◌, List, [], ◌∷◌, ◌++◌, Some}
use Rattle.rp_base.specs.Spans.{whole}
use Rattle.rp_base.specs.declared.values.Value.TheVariants.{Number}
use Rattle.rp_request.specs.declared.outcomes.Reply.{Reply}
use Rattle.rp_request.specs.declared.outcomes.Reply.TheVariants.{Old, Now, Count}
use Rattle.rp_request.specs.declared.outcomes.Refusal.{Refusal}
use Rattle.rp_request.specs.declared.outcomes.Refusal.TheVariants.{NotLeaseHolder, Latched}
use Rattle.rp_request.specs.declared.outcomes.Outcome.TheVariants.{Success, Refused, Ambiguous, Pending}
use Rattle.rp_request.specs.declared.outcomes.End.{End}
use Rattle.rp_request.specs.declared.outcomes.End.TheVariants as ends
use Rattle.rp_request.specs.declared.items.Place.{Place}
use Rattle.rp_request.specs.declared.items.Place.TheVariants as places
use Rattle.rp_request.specs.declared.items.Record.{Record}
use Rattle.rp_request.specs.declared.items.Record.TheVariants.{Took, Passed}
use Rattle.rp_report.specs.declared.views.RangeView.{RangeView}

-- a reply as its text tells it: a number alone, without what it counts
abbrev pub reply_in_text : Reply → Reply
reply_in_text (Old (Some (Number value))) = Now value
reply_in_text (Count count) = Now count
reply_in_text reply = reply

-- a refusal as its text tells it: without the tick at which a lease expires, and without the span
-- that is held
abbrev pub refusal_in_text : Refusal → Refusal
refusal_in_text (NotLeaseHolder lease) =
    NotLeaseHolder (record { holder = lease.holder; seq = lease.seq; expires = 0 })
refusal_in_text (Latched by held) = Latched by whole
refusal_in_text refusal = refusal

-- the end of an attempt as its text tells it
abbrev pub end_in_text : End → End
end_in_text (ends.Outcome (Success reply)) = ends.Outcome (Success (reply_in_text reply))
end_in_text (ends.Outcome (Refused refusal)) = ends.Outcome (Refused (refusal_in_text refusal))
end_in_text (ends.Outcome (Ambiguous ambiguity)) = ends.Outcome (Ambiguous ambiguity)
end_in_text (ends.Outcome Pending) = ends.Outcome Pending
end_in_text (ends.Tries last) = ends.Tries (refusal_in_text last)
end_in_text ends.Unsent = ends.Unsent

-- an item as its text tells it
abbrev pub item_in_text : Place → Place
item_in_text (places.Write id request seq reply) = places.Write id request seq (reply_in_text reply)
item_in_text item = item

-- a record as its line tells it
abbrev pub record_in_text : Record → Record
record_in_text (Took item) = Took (item_in_text item)
record_in_text (Passed why) = Passed why

-- the records of a range, each with its index
abbrev pub entries_of : ℕ → List Record → List (ℕ × Record)
entries_of index [] = []
entries_of index (r ∷ records) = (index, r) ∷ entries_of (index + 1) records

-- the records of all ranges, range after range
abbrev pub entries_in : List RangeView → List (ℕ × Record)
entries_in [] = []
entries_in (r ∷ ranges) = entries_of r.first r.records ++ entries_in ranges

-- a record with its index, as its line tells it
abbrev pub entry_in_text : ℕ × Record → ℕ × Record
entry_in_text e = (e.0, record_in_text e.1)
