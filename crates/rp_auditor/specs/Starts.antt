-- From which state a range starts, by the entries of all ranges of a report.
use Rattle.std.specs.Prelude.{ℕ, zero, suc, ◌==◌, if◌then◌else◌, List, [], ◌∷◌, Option, Some, None, option_and_then, Result, Ok, Err}
use Rattle.std.specs.Option.{option_map_or}
use Rattle.rp_base.specs.Splits.{split_of}
use Rattle.rp_base.specs.Tables.{from_on}
use Rattle.rp_base.specs.declared.ranges.Desc.{Desc}
use Rattle.rp_base.specs.declared.ranges.SplitFault.{SplitFault}
use Rattle.rp_request.specs.Items.{State}
use Rattle.rp_request.specs.Starts.{first_state, left_range}
use Rattle.rp_request.specs.declared.items.Place.TheVariants.{Write, Split, Lease}
use Rattle.rp_request.specs.declared.items.Record.{Record}
use Rattle.rp_request.specs.declared.items.Record.TheVariants.{Took, Passed}
use Rattle.rp_reread.specs.declared.reports.Entry.{Entry}
use Rattle.rp_reread.specs.declared.reports.RangeRead.{RangeRead}
use Rattle.rp_auditor.specs.Playing.{after_record}

-- where the log of a range begins
abbrev pub first_index : ℕ → ℕ
first_index range = if range == 0 then 1 else 11

-- the state of the right part of a split
abbrev pub right_part : State → ℕ → Result (Desc × Desc) SplitFault → Option State
right_part s key (Ok parts) = Some (record { table = from_on s.table key; desc = parts.1; lease = s.lease })
right_part s key (Err fault) = None

abbrev pub right_state : ℕ → State → Option State
right_state key s = right_part s key (split_of s.desc key)

-- the key at which an item splits this range off, if it does
abbrev pub splits_off : ℕ → Record → Option ℕ
splits_off range (Took (Split id key right seq)) = if right == range then Some key else None
splits_off range (Took (Write id request seq reply)) = None
splits_off range (Took (Lease lease)) = None
splits_off range (Passed why) = None

-- the range starts at this key of this state, or further on
abbrev pub split_there : Option ℕ → Option State → Option State → Option State
split_there None s further = further
split_there (Some key) s further = option_and_then (right_state key) s

-- the state from which a range starts, by the entries of the range that it was split off from
abbrev pub split_off : ℕ → Option State → List Entry → Option State
split_off range s [] = None
split_off range s (e ∷ es) = split_there (splits_off range e.kept) s (split_off range (after_record s e.kept) es)

-- the range with this number, and its entries
abbrev pub range_in : List RangeRead → ℕ → Option RangeRead
range_in [] range = None
range_in (x ∷ ranges) range = if x.id == range then Some x else range_in ranges range

abbrev pub entries_of : List RangeRead → ℕ → List Entry
entries_of ranges range = option_map_or (λ x. x.entries) (range_in ranges range) []

-- the state from which a range starts, where the range that it was split off from starts from this one
abbrev pub start_step : List RangeRead → ℕ → Option State → Option State
start_step ranges range left = if range == 0
    then Some first_state
    else split_off range left (entries_of ranges (left_range range))

-- the state from which a range starts to which at most so many splits led
abbrev pub start_by : (splits : ℕ) → List RangeRead → ℕ → Option State
start_by zero ranges range = start_step ranges range None
start_by (suc splits) ranges range = start_step ranges range (start_by splits ranges (left_range range))

-- which are at most three
abbrev pub start_of : List RangeRead → ℕ → Option State
start_of ranges range = start_by 3 ranges range
