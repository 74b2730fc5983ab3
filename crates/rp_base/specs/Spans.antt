-- Spans as sets of numbers.
use Rattle.std.specs.Prelude.{◌≡◌, ℕ, ◌+◌, ◌-◌, ◌^◌, ◌<◌, ◌≤◌, Bool, true, false, ◌&&◌, nat_lt, nat_le, Option, None, Some, List, [], ◌∷◌, refl}
use Rattle.std.specs.List.{list_any, list_all}
use Rattle.std.proofs.Common.{lit<, arith}
use Rattle.std.proofs.lemmas.Bool.Decides.{nat_tests}
use Rattle.std.proofs.Math.Numerals.{lt-add-one}
use Rattle.rp_base.specs.declared.ranges.Desc.{Desc}
use Rattle.rp_base.specs.declared.spans.Span.{Span}
use Rattle.rp_base.specs.declared.spans.KeySpan.{KeySpan}
use Rattle.rp_base.specs.declared.spans.Spans.{Spans}
use Rattle.rp_base.specs.Keys.{end_of}

-- the number lies in the span, its end left out
abbrev pub Holds : Span → ℕ → Type 0
Holds s n = (s.start ≤ n) × (n < s.end)

-- some number lies in both, and the test
abbrev pub Overlaps : Span → Span → Type 0
Overlaps s t = (n : ℕ) × Holds s n × Holds t n

abbrev pub meets : Span → Span → Bool
meets s t = nat_lt s.start t.end && nat_lt t.start s.end

-- each number of the span lies from the start on and below the end, and the test
abbrev pub LiesWithin : Span → ℕ → ℕ → Type 0
LiesWithin s start end = (n : ℕ) → Holds s n → (start ≤ n) × (n < end)

abbrev pub within : Span → ℕ → ℕ → Bool
within s start end = nat_le start s.start && nat_le s.end end

-- the span of one key alone
abbrev pub one_key : ℕ → Span
one_key key = record { start = key; end = key + 1; ordered = lt-add-one key }

-- the whole key space
abbrev pub whole : Span
whole = record { start = 0; end = 2 ^ 128 - 1; ordered = lit< tt }

-- from a key on, up to another or to the end of the key space
abbrev pub span_of : KeySpan → Span
span_of s = record { start = s.start; end = end_of s.end; ordered = s.ordered }

-- one span or two, in order
abbrev pub span_list : Spans → List Span
span_list s = elim s.second [ None ↦ s.first ∷ [] | Some more ↦ s.first ∷ more ∷ [] ]

-- whether the span meets one of these
abbrev pub meets_one : Spans → Span → Bool
meets_one spans s = list_any (meets s) (span_list spans)

-- whether some span of the one meets a span of the other
abbrev pub any_meet : Spans → Spans → Bool
any_meet x y = list_any (meets_one y) (span_list x)

-- each of the spans lies in the range's bounds
abbrev pub all_within : Desc → Spans → Bool
all_within d spans = list_all (λ s. within s d.start d.end) (span_list spans)

-- the start stands below the end where the test says so
pub start_below : (start end : ℕ) → nat_lt start end ≡ true → start < end
start_below start end test = grind (arith, nat_tests)

-- a span of keys from a key on, up to another or to the end of the key space: none where its end is
-- at or below its start
abbrev pub key_span_by : (start : ℕ) (end : Option ℕ) (low : Bool)
    → nat_lt start (end_of end) ≡ low → Option KeySpan
key_span_by start end true test =
    Some (record { start = start; end = end; ordered = start_below start (end_of end) test })
key_span_by start end false test = None

abbrev pub key_span_of : ℕ → Option ℕ → Option KeySpan
key_span_of start end = key_span_by start end (nat_lt start (end_of end)) refl
