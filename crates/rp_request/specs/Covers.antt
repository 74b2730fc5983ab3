-- Which keys a request may read and change.
use Rattle.std.specs.Prelude.{ℕ, ◌<◌, ◌≤◌, ◌-◌, ◌^◌, Bool, true, false, ◌==◌, ◌||◌, if◌then◌else◌, None, Some, IsTrue, IsFalse}
use Rattle.rp_base.specs.Keys.{end_of}
use Rattle.rp_base.specs.Spans.{one_key, span_of, whole, all_within}
use Rattle.rp_base.specs.declared.ranges.Desc.{Desc}
use Rattle.rp_base.specs.declared.spans.Span.{Span}
use Rattle.rp_base.specs.declared.spans.Spans.{Spans}
use Rattle.rp_request.specs.declared.requests.Request.{Request}
use Rattle.rp_request.specs.declared.requests.Request.TheVariants.{Put, Add, CPut, Del, Wipe, Move, Split}
use Rattle.rp_base.specs.Tables.{is_between}

-- one span
abbrev pub alone : Span → Spans
alone s = record { first = s; second = None }

-- the spans of two keys, or the one where they are the same
abbrev pub both : ℕ → ℕ → Spans
both from to = if from == to
    then alone (one_key from)
    else record { first = one_key from; second = Some (one_key to) }

-- the spans of a request: those of its keys; at a move that of the key that is taken from comes
-- first; at a split the whole key space
abbrev pub spans_of : Request → Spans
spans_of (Put key value) = alone (one_key key)
spans_of (Add key by) = alone (one_key key)
spans_of (CPut key expect value) = alone (one_key key)
spans_of (Del key) = alone (one_key key)
spans_of (Wipe span) = alone (span_of span)
spans_of (Move from to by) = both from to
spans_of (Split key) = alone whole

-- whether the request may read or change the key: one of its keys; at a split every key
abbrev pub covers : Request → ℕ → Bool
covers (Put key value) q = q == key
covers (Add key by) q = q == key
covers (CPut key expect value) q = q == key
covers (Del key) q = q == key
covers (Wipe span) q = is_between span.start (end_of span.end) q
covers (Move from to by) q = q == from || q == to
covers (Split key) q = true

-- whether the request splits the range
abbrev pub is_split : Request → Bool
is_split (Split key) = true
is_split r = false

-- each key that the request may change lies in the key space
abbrev pub HasKeys : Request → Type 0
HasKeys (Put key value) = key < 2 ^ 128 - 1
HasKeys (Add key by) = key < 2 ^ 128 - 1
HasKeys (CPut key expect value) = key < 2 ^ 128 - 1
HasKeys (Del key) = key < 2 ^ 128 - 1
HasKeys (Wipe span) = end_of span.end ≤ 2 ^ 128 - 1
HasKeys (Move from to by) = (from < 2 ^ 128 - 1) × (to < 2 ^ 128 - 1)
HasKeys (Split key) = Unit {0}

-- whether the request lies in the range's bounds: all its spans do; of a split, its key does
abbrev pub in_bounds : Desc → Request → Bool
in_bounds d (Split key) = is_between d.start d.end key
in_bounds d r = all_within d (spans_of r)

-- no key passes both tests
abbrev pub Apart : (ℕ → Bool) → (ℕ → Bool) → Type 0
Apart p r = (key : ℕ) → IsTrue (p key) → IsFalse (r key)
