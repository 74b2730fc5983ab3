-- The form of a report as JSON: which value is which report.
use Rattle.std.specs.Prelude.{◌≡◌, ℕ, zero, suc, ◌+◌, ◌-◌, ◌^◌, ◌==◌, ◌&&◌, Bool, true, false, nat_le, nat_lt, is_some, if◌then◌else◌, List, [], ◌∷◌, ◌++◌, length, codes, Option, None, Some, option_map, option_and_then, Result, Ok, Err, ⊤}
use Rattle.std.specs.List.{list_all, zip}
use Rattle.std.specs.Str.{bytes_eq}
use Rattle.serde_json.specs.Data.{Num, Data, null, boolean, number, string, array, object, Items, no_items, item, Members, no_members, member}
use Rattle.serde_json.specs.Find.{get, as_str, as_number, as_u64}
use Rattle.rp_base.specs.ShortTexts.{text_of}
use Rattle.rp_base.specs.declared.Lease.{Lease}
use Rattle.rp_base.specs.declared.Value.{Value}
use Rattle.rp_base.specs.declared.Value.TheVariants.{Number, Text}
use Rattle.rp_report.specs.declared.views.ReplicaView.{ReplicaView}
use Rattle.rp_report.specs.declared.views.ReplicaView.TheVariants.{Live, Removed, Absent}
use Rattle.rp_report.specs.declared.views.Row.{Row}
use Rattle.rp_reread.specs.Ends.{end_of}
use Rattle.rp_reread.specs.Readers.{key_in, bound_in, text_told}
use Rattle.rp_reread.specs.Records.{record_of}
use Rattle.rp_reread.specs.declared.faults.FormFault.{FormFault}
use Rattle.rp_reread.specs.declared.faults.FormFault.TheVariants.{NotReport, NoMemory}
use Rattle.rp_reread.specs.declared.ranges.Head.{Head}
use Rattle.rp_reread.specs.declared.reports.Answer.{Answer}
use Rattle.rp_reread.specs.declared.reports.Entry.{Entry}
use Rattle.rp_reread.specs.declared.reports.RangeRead.{RangeRead}
use Rattle.rp_reread.specs.declared.reports.Report.{Report}

-- one part, and then those behind it
infixl 10 ◌>>=◌
abbrev pub ◌>>=◌ : {A B : Type 0} → Option A → (A → Option B) → Option B
o >>= f = option_and_then f o

-- an object with so many members
abbrev pub member_count : Members → ℕ
member_count no_members = 0
member_count (member k d ms) = suc (member_count ms)

abbrev pub has_members : ℕ → Data → Bool
has_members n (object ms) = member_count ms == n
has_members n null = false
has_members n (boolean b) = false
has_members n (number x) = false
has_members n (string s) = false
has_members n (array ds) = false

abbrev pub sized : ℕ → Data → Option ⊤
sized n d = if has_members n d then Some tt else None

-- the items of a list
abbrev pub item_list : Items → List Data
item_list no_items = []
item_list (item d ds) = d ∷ item_list ds

abbrev pub elements : Data → Option (List Data)
elements (array ds) = Some (item_list ds)
elements null = None
elements (boolean b) = None
elements (number x) = None
elements (string s) = None
elements (object ms) = None

-- each item is of a form
abbrev pub each : {A : Type 0} → (Data → Option A) → List Data → Option (List A)
each f [] = Some []
each f (d ∷ ds) = option_and_then (λ x. option_map (λ xs. x ∷ xs) (each f ds)) (f d)

-- a whole number up to this one
abbrev pub up_to : ℕ → ℕ → Option ℕ
up_to high n = if nat_le n high then Some n else None

unfoldable pub whole : ℕ → Data → Option ℕ
whole high d = option_and_then (up_to high) (option_and_then as_u64 (as_number d))

abbrev pub any_whole : Data → Option ℕ
any_whole = whole (2 ^ 64 - 1)

unfoldable pub node_of : Data → Option ℕ
node_of d = do
  n ← whole 5 d
  if nat_le 1 n then Some n else None

-- the member of an object
abbrev pub whole_in : List ℕ → ℕ → Data → Option ℕ
whole_in key high d = option_and_then (whole high) (get key d)

abbrev pub text_in : List ℕ → Data → Option (List ℕ)
text_in key d = option_and_then as_str (get key d)

abbrev pub list_in : List ℕ → Data → Option (List Data)
list_in key d = option_and_then elements (get key d)

-- a note: a line, and any text
unfoldable pub note_of : Data → Option ⊤
note_of d = do
  size ← sized 2 d
  line ← whole_in (codes "line") (2 ^ 32 - 1) d
  text ← text_in (codes "text") d
  Some tt

abbrev pub is_note : Data → Bool
is_note d = is_some (note_of d)

-- what is told of an attempt
unfoldable pub answer_of : Data → Option Answer
answer_of d = do
  size ← sized 4 d
  attempt ← whole_in (codes "attempt") (2 ^ 16 - 1) d
  client ← whole_in (codes "client") (2 ^ 16 - 1) d
  text ← text_in (codes "outcome") d
  end ← end_of text
  seq ← whole_in (codes "seq") (2 ^ 32 - 1) d
  Some (record { client = client; seq = seq; attempt = attempt; end = end })

-- a lease: its holder, its number, and the tick at which it expires
abbrev pub lease_of_three : List Data → Option Lease
lease_of_three (h ∷ s ∷ e ∷ []) = do
  holder ← node_of h
  seq ← any_whole s
  expires ← any_whole e
  Some (record { holder = holder; seq = seq; expires = expires })
lease_of_three [] = None
lease_of_three (h ∷ []) = None
lease_of_three (h ∷ s ∷ []) = None
lease_of_three (h ∷ s ∷ e ∷ d ∷ ds) = None

-- an entry: its index, and the text of its record
unfoldable pub entry_of : Data → Option Entry
entry_of d = do
  size ← sized 2 d
  index ← whole_in (codes "index") (2 ^ 64 - 1) d
  text ← text_in (codes "text") d
  kept ← record_of text
  Some (record { index = index; kept = kept })

-- a value: a number, or a text as it is
abbrev pub value_of : Data → Option Value
value_of (string s) = text_told (text_of s)
value_of (number n) = option_map Number (as_u64 n)
value_of null = None
value_of (boolean b) = None
value_of (array ds) = None
value_of (object ms) = None

abbrev pub key_of_data : Data → Option ℕ
key_of_data d = option_and_then key_in (as_str d)

abbrev pub row_of_two : List Data → Option Row
row_of_two (k ∷ v ∷ []) = do
  key ← key_of_data k
  value ← value_of v
  Some (record { key = key; value = value })
row_of_two [] = None
row_of_two (k ∷ []) = None
row_of_two (k ∷ v ∷ d ∷ ds) = None

-- a key that has a value
unfoldable pub row_of : Data → Option Row
row_of d = option_and_then row_of_two (elements d)

-- the keys of rows rise
abbrev pub keys_rise : List Row → Bool
keys_rise [] = true
keys_rise (row ∷ rows) = list_all (λ p. nat_lt p.0.key p.1.key) (zip (row ∷ rows) rows)

abbrev pub in_order : List Row → Option (List Row)
in_order rows = if keys_rise rows then Some rows else None

unfoldable pub rows_in : Data → Option (List Row)
rows_in d = do
  ds ← list_in (codes "rows") d
  rows ← each row_of ds
  in_order rows

-- the node whose turn it is
abbrev pub for_node : ℕ → Data → Option ℕ
for_node node d = option_and_then (λ n. if n == node then Some n else None) (whole_in (codes "node") 5 d)

unfoldable pub live_of : ℕ → Data → Option ReplicaView
live_of node d = do
  size ← sized 6 d
  applied ← whole_in (codes "applied") (2 ^ 64 - 1) d
  lai ← whole_in (codes "lai") (2 ^ 64 - 1) d
  n ← for_node node d
  rows ← rows_in d
  term ← whole_in (codes "term") (2 ^ 64 - 1) d
  Some (Live term applied lai rows)

unfoldable pub removed_of : ℕ → Data → Option ReplicaView
removed_of node d = do
  size ← sized 3 d
  applied ← whole_in (codes "applied") (2 ^ 64 - 1) d
  n ← for_node node d
  Some (Removed applied)

unfoldable pub absent_of : ℕ → Data → Option ReplicaView
absent_of node d = do
  size ← sized 2 d
  n ← for_node node d
  Some Absent

-- what this node has of a range
unfoldable pub replica_by : List ℕ → ℕ → Data → Option ReplicaView
replica_by state node d = if bytes_eq state (codes "live") then live_of node d
    else (if bytes_eq state (codes "removed") then removed_of node d
    else (if bytes_eq state (codes "none") then absent_of node d
    else None))

unfoldable pub replica_of : ℕ → Data → Option ReplicaView
replica_of node d = do
  state ← text_in (codes "state") d
  replica_by state node d

-- what the nodes have of it, from this one on
abbrev pub replicas_from : ℕ → List Data → Option (List ReplicaView)
replicas_from node [] = Some []
replicas_from node (d ∷ ds) =
    option_and_then (λ x. option_map (λ xs. x ∷ xs) (replicas_from (node + 1) ds)) (replica_of node d)

-- one for each node
unfoldable pub replicas_in : ℕ → Data → Option (List ReplicaView)
replicas_in nodes d = do
  ds ← list_in (codes "replicas") d
  if length ds == nodes then replicas_from 1 ds else None

abbrev pub entries_in : Data → Option (List Entry)
entries_in d = option_and_then (each entry_of) (list_in (codes "list") d)

abbrev pub lease_in : Data → Option Lease
lease_in d = option_and_then lease_of_three (list_in (codes "lease") d)

abbrev pub bound_of : List ℕ → Data → Option ℕ
bound_of key d = option_and_then bound_in (text_in key d)

-- number, level and bounds of a range
unfoldable pub head_of : Data → Option Head
head_of d = do
  end ← bound_of (codes "end") d
  id ← whole_in (codes "id") 7 d
  level ← whole_in (codes "level") 3 d
  start ← bound_of (codes "start") d
  Some (record { id = id; level = level; start = start; end = end })

-- a range, in a report of so many nodes
unfoldable pub range_of : ℕ → Data → Option RangeRead
range_of nodes d = do
  size ← sized 7 d
  head ← head_of d
  lease ← lease_in d
  entries ← entries_in d
  replicas ← replicas_in nodes d
  Some (record {
    id = head.id;
    level = head.level;
    start = head.start;
    end = head.end;
    lease = lease;
    entries = entries;
    replicas = replicas;
  })

-- the numbers of ranges rise
abbrev pub ranges_rise : List RangeRead → Bool
ranges_rise [] = true
ranges_rise (x ∷ ranges) = list_all (λ p. nat_lt p.0.id p.1.id) (zip (x ∷ ranges) ranges)

unfoldable pub ranges_in : ℕ → Data → Option (List RangeRead)
ranges_in nodes d = do
  ds ← list_in (codes "ranges") d
  ranges ← each (range_of nodes) ds
  if ranges_rise ranges then Some ranges else None

unfoldable pub notes_in : Data → Option ⊤
notes_in d = do
  ds ← list_in (codes "notes") d
  if list_all is_note ds then Some tt else None

abbrev pub answers_in : Data → Option (List Answer)
answers_in d = option_and_then (each answer_of) (list_in (codes "replies") d)

-- the report that a value is
unfoldable pub report_of : Data → Option Report
report_of d = do
  size ← sized 4 d
  nodes ← option_and_then node_of (get (codes "nodes") d)
  notes ← notes_in d
  ranges ← ranges_in nodes d
  answers ← answers_in d
  Some (record { nodes = nodes; answers = answers; ranges = ranges })

-- what is read is what is meant, but for want of memory
abbrev pub Forms : {A : Type 0} → Result A FormFault → Option A → Type 0
Forms (Ok x) r = r ≡ Some x
Forms (Err NotReport) r = r ≡ None
Forms (Err NoMemory) r = Unit {0}

-- one item more is read and put behind the others
abbrev pub Puts : {A : Type 0} → Option A → (old new : List A) → Result ⊤ FormFault → Type 0
Puts {A} r old new (Ok done) = (x : A) × (r ≡ Some x) × (new ≡ old ++ x ∷ [])
Puts r old new (Err NotReport) = r ≡ None
Puts r old new (Err NoMemory) = Unit {0}
