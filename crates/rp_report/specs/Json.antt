-- The report as JSON (RFC 8259): one object, keys in the order of their bytes, with no space.
use Rattle.std.specs.Prelude.{ℕ, ◌+◌, List, [], ◌∷◌, ◌++◌, codes}
use Rattle.serde.specs.Event.{Log, Logs, field_key}
use Rattle.serde.specs.declared.name.Case.TheVariants.{AsIs}
use Rattle.serde_json.specs.Data.{Data, number, unsigned, string, array, object, Items, no_items, item, Members, no_members, member}
use Rattle.serde_json.specs.Events.{SendsValue}
use Rattle.serde_json.specs.Written.{compact_text}
use Rattle.rp_base.specs.Keys.{key_text, bound_text}
use Rattle.rp_base.specs.declared.Lease.{Lease}
use Rattle.rp_base.specs.declared.values.Value.{Value}
use Rattle.rp_base.specs.declared.values.Value.TheVariants.{Number, Text}
use Rattle.rp_request.specs.declared.items.Record.{Record}
use Rattle.rp_request.specs.declared.items.Record.TheVariants.{Took, Passed}
use Rattle.rp_request.specs.declared.notes.Note.{Note}
use Rattle.rp_request.specs.declared.notes.ReplyLine.{ReplyLine}
use Rattle.rp_report.specs.declared.views.Row.{Row}
use Rattle.rp_report.specs.declared.views.ReplicaView.{ReplicaView}
use Rattle.rp_report.specs.declared.views.ReplicaView.TheVariants.{Live, Removed, Absent}
use Rattle.rp_report.specs.declared.views.RangeView.{RangeView}
use Rattle.rp_report.specs.declared.views.View.{View}
use Rattle.rp_report.specs.Items.{item_text, why_text}
use Rattle.rp_report.specs.Outcomes.{end_text}

-- a number
abbrev pub count : ℕ → Data
count n = number (unsigned n)

-- the items of a list, and those of one whose items are numbered from n on
abbrev pub items_by : {A : Type 0} → (A → Data) → List A → Items
items_by value [] = no_items
items_by value (x ∷ xs) = item (value x) (items_by value xs)

abbrev pub items_from : {A : Type 0} → (ℕ → A → Data) → ℕ → List A → Items
items_from value n [] = no_items
items_from value n (x ∷ xs) = item (value n x) (items_from value (n + 1) xs)

-- what a line of the script has to tell
abbrev pub note_value : Note → Data
note_value note = object
    (member (codes "line") (count note.line)
    (member (codes "text") (string note.text)
    no_members))

-- how an attempt ended
abbrev pub reply_value : ReplyLine → Data
reply_value reply = object
    (member (codes "attempt") (count reply.attempt)
    (member (codes "client") (count reply.client)
    (member (codes "outcome") (string (end_text reply.end))
    (member (codes "seq") (count reply.seq)
    no_members))))

-- a lease: its holder, its number, and the tick at which it expires
abbrev pub lease_value : Lease → Data
lease_value lease = array (item (count lease.holder) (item (count lease.seq) (item (count lease.expires) no_items)))

-- what an entry did
abbrev pub record_text : Record → List ℕ
record_text (Took applied) = item_text applied
record_text (Passed why) = codes "pass " ++ why_text why

-- the record at an index
abbrev pub record_value : ℕ → Record → Data
record_value index kept = object
    (member (codes "index") (count index)
    (member (codes "text") (string (record_text kept))
    no_members))

-- a value: a number, or a text as it is
abbrev pub value_value : Value → Data
value_value (Number n) = count n
value_value (Text text) = string text

-- a key that has a value
abbrev pub row_value : Row → Data
row_value row = array (item (string (key_text row.key)) (item (value_value row.value) no_items))

-- what a node has of a range: a live replica, one that was removed, or none
abbrev pub live_tail : (node term : ℕ) → List Row → Members
live_tail node term rows =
    member (codes "node") (count node)
    (member (codes "rows") (array (items_by row_value rows))
    (member (codes "state") (string (codes "live"))
    (member (codes "term") (count term)
    no_members)))

abbrev pub replica_value : (node : ℕ) → ReplicaView → Data
replica_value node (Live term applied lai rows) = object
    (member (codes "applied") (count applied)
    (member (codes "lai") (count lai)
    (live_tail node term rows)))
replica_value node (Removed applied) = object
    (member (codes "applied") (count applied)
    (member (codes "node") (count node)
    (member (codes "state") (string (codes "removed"))
    no_members)))
replica_value node Absent = object
    (member (codes "node") (count node)
    (member (codes "state") (string (codes "none"))
    no_members))

-- a range, its records by index, and what the nodes have of it from node 1 on
abbrev pub range_tail : RangeView → Members
range_tail range =
    member (codes "list") (array (items_from record_value range.first range.records))
    (member (codes "replicas") (array (items_from replica_value 1 range.replicas))
    (member (codes "start") (string (bound_text range.desc.start))
    no_members))

abbrev pub range_body : RangeView → Members
range_body range =
    member (codes "lease") (lease_value range.lease)
    (member (codes "level") (count range.desc.level)
    (range_tail range))

abbrev pub range_value : RangeView → Data
range_value range = object
    (member (codes "end") (string (bound_text range.desc.end))
    (member (codes "id") (count range.desc.id)
    (range_body range)))

-- the whole report
abbrev pub view_value : View → Data
view_value view = object
    (member (codes "nodes") (count view.nodes)
    (member (codes "notes") (array (items_by note_value view.notes))
    (member (codes "ranges") (array (items_by range_value view.ranges))
    (member (codes "replies") (array (items_by reply_value view.replies))
    no_members))))

-- its text, and the line of it
unfoldable pub json_object : View → List ℕ
json_object view = compact_text (view_value view)

abbrev pub json_report : View → List ℕ
json_report view = json_object view ++ 10 ∷ []

-- a key and its value are sent, a part of an object
abbrev pub SendsMember : List ℕ → Data → Log → Log → Type 0
SendsMember key d old new = (named : Log) × Logs old named (field_key key AsIs) × SendsValue d named new
