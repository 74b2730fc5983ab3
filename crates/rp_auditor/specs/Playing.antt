-- The state of a range along its entries, and what an item has to be at a state.
use Rattle.std.specs.Prelude.{◌≡◌, ℕ, ◌+◌, ◌==◌, ◌&&◌, ◌||◌, Bool, true, false, nat_le, nat_eq, List, [], ◌∷◌, filter, Option, Some, None, option_and_then, Result, Ok, Err, IsOk}
use Rattle.std.specs.Cmp.Lexicographic.{pointwise}
use Rattle.std.specs.Option.{option_map_or}
use Rattle.std.specs.FinMap.{entries}
use Rattle.rp_base.specs.Splits.{split_of}
use Rattle.rp_base.specs.Values.{value_eq}
use Rattle.rp_base.specs.declared.ranges.Desc.{Desc}
use Rattle.rp_base.specs.declared.ranges.SplitFault.{SplitFault}
use Rattle.rp_base.specs.declared.leases.Lease as lease_type
use Rattle.rp_base.specs.declared.values.Value.{Value}
use Rattle.rp_base.specs.declared.values.Value.TheVariants.{Number, Text}
use Rattle.rp_report.specs.declared.views.Row.{Row}
use Rattle.rp_request.specs.Covers.{in_bounds}
use Rattle.rp_request.specs.Effect.{Effect, effect}
use Rattle.rp_request.specs.Items.{State, after_item}
use Rattle.rp_request.specs.declared.items.Place.{Place}
use Rattle.rp_request.specs.declared.items.Place.TheVariants.{Write, Split, Lease}
use Rattle.rp_request.specs.declared.items.Record.{Record}
use Rattle.rp_request.specs.declared.items.Record.TheVariants.{Took, Passed}
use Rattle.rp_request.specs.declared.outcomes.Refusal.{Refusal}
use Rattle.rp_request.specs.declared.outcomes.Reply.{Reply}
use Rattle.rp_request.specs.declared.outcomes.Reply.TheVariants.{Old, Now, Set, Count, Range}
use Rattle.rp_request.specs.declared.requests.Request.{Request}
use Rattle.rp_request.specs.declared.requests.Request.TheVariants as requests
use Rattle.rp_reread.specs.declared.reports.Entry.{Entry}

-- the state after an entry; none where its item is refused
abbrev pub after_record : Option State → Record → Option State
after_record s (Took item) = option_and_then (λ t. after_item t item) s
after_record s (Passed why) = s

-- the state after the entries: the fold of their items
abbrev pub after_entries : Option State → List Entry → Option State
after_entries s [] = s
after_entries s (e ∷ es) = after_entries (after_record s e.kept) es

-- the entries up to an index
abbrev pub up_to : ℕ → List Entry → List Entry
up_to index entries = filter (λ e. nat_le e.index index) entries

-- whether a reply has the text of another: a number alone does not tell what it counts
abbrev pub is_number : ℕ → Reply → Bool
is_number n (Old (Some (Number m))) = n == m
is_number n (Now m) = n == m
is_number n (Count m) = n == m
is_number n told = false

abbrev pub is_text : List ℕ → Reply → Bool
is_text text (Old (Some (Text other))) = pointwise nat_eq text other
is_text text told = false

abbrev pub is_none : Reply → Bool
is_none (Old None) = true
is_none told = false

abbrev pub is_set : Reply → Bool
is_set Set = true
is_set told = false

abbrev pub is_range : ℕ → Reply → Bool
is_range r (Range right) = r == right
is_range r told = false

abbrev pub is_value : Value → Reply → Bool
is_value (Number n) told = is_number n told
is_value (Text text) told = is_text text told

abbrev pub is_told : Reply → Reply → Bool
is_told (Old None) told = is_none told
is_told (Old (Some value)) told = is_value value told
is_told (Now n) told = is_number n told
is_told Set told = is_set told
is_told (Count n) told = is_number n told
is_told (Range r) told = is_range r told

-- whether a lease follows another: holder and sequence stay and the expiry does not fall, or the
-- sequence rises by one
abbrev pub follows : lease_type.Lease → lease_type.Lease → Bool
follows old new =
    (new.holder == old.holder && (new.seq == old.seq && nat_le old.expires new.expires))
    || (new.seq == old.seq + 1)

-- the item's sequence is that of the state, and a lease follows that of the state
abbrev pub is_under : State → Place → Bool
is_under s (Write id request seq reply) = seq == s.lease.seq
is_under s (Split id key right seq) = seq == s.lease.seq
is_under s (Lease lease) = follows s.lease lease

-- the item's keys lie in the bounds of the state
abbrev pub is_within : State → Place → Bool
is_within s (Write id request seq reply) = in_bounds s.desc request
is_within s (Split id key right seq) = in_bounds s.desc (requests.Split key)
is_within s (Lease lease) = true

-- the effect of the item's request on the state gives its reply
abbrev pub replies_so : Result Effect Refusal → Reply → Bool
replies_so (Ok e) told = is_told e.reply told
replies_so (Err refusal) told = false

abbrev pub is_answered : State → Place → Bool
is_answered s (Write id request seq reply) = replies_so (effect s.table s.desc request) reply
is_answered s (Split id key right seq) = replies_so (effect s.table s.desc (requests.Split key)) (Range right)
is_answered s (Lease lease) = true

-- a test of a state, where there is one
abbrev pub at_state : Option State → (State → Bool) → Bool
at_state s p = option_map_or p s false

-- the entry of a table is this row
abbrev pub is_row : ℕ × Value → Row → Bool
is_row e row = e.0 == row.key && value_eq e.1 row.value

-- the rows are those of the table
abbrev pub same_rows : List (ℕ × Value) → List Row → Bool
same_rows [] [] = true
same_rows [] (row ∷ rows) = false
same_rows (e ∷ es) [] = false
same_rows (e ∷ es) (row ∷ rows) = is_row e row && same_rows es rows

abbrev pub has_rows : List Row → State → Bool
has_rows rows s = same_rows (entries s.table) rows

-- what the request's effect leaves, with its reply; or it is refused
abbrev pub Plays : State → Request → Option Reply → State → Type 0
Plays s request None t = (why : Refusal) × (effect s.table s.desc request ≡ Err why)
Plays s request (Some reply) t = (e : Effect) × (effect s.table s.desc request ≡ Ok e) × (reply ≡ e.reply) × (t ≡ record { table = e.table; desc = e.desc; lease = s.lease })

-- the state after an item; none where it is refused
abbrev pub Takes : Option State → Bool → State → Type 0
Takes s true t = s ≡ Some t
Takes s false t = s ≡ None

-- the description after a request: the left part of a split, and else as it was
abbrev pub left_of : Desc → Result (Desc × Desc) SplitFault → Desc
left_of d (Ok parts) = parts.0
left_of d (Err fault) = d

abbrev pub desc_after : Desc → Request → Desc
desc_after d (requests.Split key) = left_of d (split_of d key)
desc_after d request = d

-- a split has two parts
abbrev pub HasParts : Desc → Request → Type 0
HasParts d (requests.Split key) = IsOk (split_of d key)
HasParts d request = Unit {0}

-- whether the item's reply is that of its effect, and what the state is where it is
pub record Answers (s : State) (item : Place) (so : Bool) (t : State) : Type 0 where
  pub told : is_answered s item ≡ so
  pub taken : so ≡ true → after_item s item ≡ Some t
