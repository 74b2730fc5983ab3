-- No value of a report is a float.
use Rattle.std.proofs.Common.{◌≡◌, ℕ, ◌+◌, false, ◌||◌, Bool, List, [], ◌∷◌, refl}
use Rattle.serde_json.specs.Data.{Data}
use Rattle.serde_json.specs.Written.{has_float, items_have_float}
use Rattle.rp_base.specs.declared.values.Value.{Value}
use Rattle.rp_base.specs.declared.values.Value.TheVariants.{Number, Text}
use Rattle.rp_request.specs.declared.items.Record.{Record}
use Rattle.rp_report.specs.declared.views.Row.{Row}
use Rattle.rp_report.specs.declared.views.ReplicaView.{ReplicaView}
use Rattle.rp_report.specs.declared.views.ReplicaView.TheVariants.{Live, Removed, Absent}
use Rattle.rp_report.specs.declared.views.RangeView.{RangeView}
use Rattle.rp_report.specs.declared.views.View.{View}
use Rattle.rp_report.specs.Json.{items_by, items_from, note_value, reply_value, record_value, value_value, row_value, replica_value, range_value, view_value}

neither : (a b : Bool) → a ≡ false → b ≡ false → (a || b) ≡ false
neither a b ha hb = rw (ha, hb) refl

items_whole : {A : Type 0} (value : A → Data) → ((x : A) → has_float (value x) ≡ false) → (xs : List A) → items_have_float (items_by value xs) ≡ false
items_whole value each [] = refl
items_whole value each (x ∷ xs) = neither _ _ (each x) (items_whole value each xs)

numbered_whole : {A : Type 0} (value : ℕ → A → Data) → ((n : ℕ) (x : A) → has_float (value n x) ≡ false) → (n : ℕ) (xs : List A) → items_have_float (items_from value n xs) ≡ false
numbered_whole value each n [] = refl
numbered_whole value each n (x ∷ xs) = neither _ _ (each n x) (numbered_whole value each (n + 1) xs)

value_whole : (v : Value) → has_float (value_value v) ≡ false
value_whole (Number n) = refl
value_whole (Text text) = refl

row_whole : (r : Row) → has_float (row_value r) ≡ false
row_whole r = neither _ _ (value_whole r.value) refl

replica_whole : (n : ℕ) (r : ReplicaView) → has_float (replica_value n r) ≡ false
replica_whole n (Live term applied lai rows) = neither _ _ (items_whole row_value row_whole rows) refl
replica_whole n (Removed applied) = refl
replica_whole n Absent = refl

range_whole : (r : RangeView) → has_float (range_value r) ≡ false
range_whole r = neither _ _ (numbered_whole record_value (λ n kept. refl) r.first r.records)
    (neither _ _ (numbered_whole replica_value replica_whole 1 r.replicas) refl)

pub view_whole : (v : View) → has_float (view_value v) ≡ false
view_whole v = neither _ _ (items_whole note_value (λ note. refl) v.notes)
    (neither _ _ (items_whole range_value range_whole v.ranges)
    (neither _ _ (items_whole reply_value (λ reply. refl) v.replies) refl))
