-- What latches hold, and which held span stands in the way of spans that are asked (CockroachDB's
-- span latches).
use Rattle.std.specs.Prelude.{Bool, not, List, [], ◌∷◌, Option, None, Some, Result, Ok, Err, IsFalse}
use Rattle.std.specs.List.{find}
use Rattle.rp_base.specs.Ids.{same_id}
use Rattle.rp_base.specs.Spans.{span_list, meets_one, any_meet}
use Rattle.rp_base.specs.declared.ids.CmdId.{CmdId}
use Rattle.rp_base.specs.declared.spans.Span.{Span}
use Rattle.rp_base.specs.declared.spans.Spans.{Spans}
use Rattle.rp_latch.specs.declared.holds.Hold.{Hold}
use Rattle.rp_latch.specs.declared.holds.Held.{Held}

-- of the spans of a hold the first that meets one asked
abbrev pub met_in : Spans → Spans → Option Span
met_in held asked = find (meets_one asked) (span_list held)

-- the span that this attempt holds, where there is one, and else what stands in the way behind it
abbrev pub held_or : CmdId → Option Span → Option Held → Option Held
held_or id None later = later
held_or id (Some s) later = Some (record { by = id; held = s })

-- of a hold the first span that meets one asked
abbrev pub held_by : Hold → Spans → Option Held
held_by h asked = held_or h.id (met_in h.spans asked) None

-- a held span that meets one asked: of the oldest hold that has one, the first
abbrev pub conflict : List Hold → Spans → Option Held
conflict [] asked = None
conflict (h ∷ hs) asked = held_or h.id (met_in h.spans asked) (conflict hs asked)

-- refused by what stands in the way
abbrev pub refused_by : Option Held → Result (Unit {0}) Held
refused_by None = Ok tt
refused_by (Some held) = Err held

-- the answer to an attempt that asks for latches
abbrev pub answer : List Hold → Spans → Result (Unit {0}) Held
answer hs asked = refused_by (conflict hs asked)

-- the hold is another attempt's
abbrev pub is_of_other : CmdId → Hold → Bool
is_of_other id h = not (same_id h.id id)

-- no span of the one meets a span of the other
abbrev pub Apart : Hold → Hold → Type 0
Apart x y = IsFalse (any_meet x.spans y.spans)
