-- When two requests are one.
use Rattle.std.specs.Prelude.{ℕ, Bool, false, ◌&&◌, ◌==◌, Option}
use Rattle.std.specs.Option.{option_eq}
use Rattle.rp_base.specs.Values.{value_eq}
use Rattle.rp_base.specs.declared.spans.KeySpan.{KeySpan}
use Rattle.rp_base.specs.declared.values.Value.{Value}
use Rattle.rp_request.specs.declared.requests.Request.{Request}
use Rattle.rp_request.specs.declared.requests.Request.TheVariants.{Put, Add, CPut, Del, Wipe, Move, Split}

-- a put, an add, .. of just this
abbrev pub is_put : ℕ → Value → Request → Bool
is_put key value (Put other v) = key == other && value_eq value v
is_put key value _ = false

abbrev pub is_add : ℕ → ℕ → Request → Bool
is_add key by (Add other n) = key == other && by == n
is_add key by _ = false

abbrev pub is_cput : ℕ → Option Value → Value → Request → Bool
is_cput key expect value (CPut other e v) =
    key == other && option_eq value_eq expect e && value_eq value v
is_cput key expect value _ = false

abbrev pub is_del : ℕ → Request → Bool
is_del key (Del other) = key == other
is_del key _ = false

abbrev pub is_wipe : KeySpan → Request → Bool
is_wipe span (Wipe other) =
    span.start == other.start && option_eq (λ a b. a == b) span.end other.end
is_wipe span _ = false

abbrev pub is_move : (from to by : ℕ) → Request → Bool
is_move from to by (Move a b n) = from == a && to == b && by == n
is_move from to by _ = false

abbrev pub is_split : ℕ → Request → Bool
is_split key (Split other) = key == other
is_split key _ = false

-- two requests are one
abbrev pub same_request : Request → Request → Bool
same_request (Put key value) = is_put key value
same_request (Add key by) = is_add key by
same_request (CPut key expect value) = is_cput key expect value
same_request (Del key) = is_del key
same_request (Wipe span) = is_wipe span
same_request (Move from to by) = is_move from to by
same_request (Split key) = is_split key
