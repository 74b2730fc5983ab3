-- The effect of a request: what it makes of a table and of a range's description, and what it
-- answers; or why it is refused, which changes nothing. Of two refusals that would both hold, the
-- one that is tested first is named.
use Rattle.std.specs.Prelude.{ℕ, Bool, ◌+◌, ◌-◌, ◌==◌, nat_lt, if◌then◌else◌, Option, Result, Ok, Err}
use Rattle.std.specs.Option.{option_eq}
use Rattle.std.specs.FinMap.{get, insert, remove, retain_keys}
use Rattle.rp_base.specs.Keys.{end_of}
use Rattle.rp_base.specs.Splits.{split_of}
use Rattle.rp_base.specs.Values.{value_eq}
use Rattle.rp_base.specs.declared.ranges.Desc.{Desc}
use Rattle.rp_base.specs.declared.ranges.SplitFault.{SplitFault}
use Rattle.rp_base.specs.declared.ranges.SplitFault.TheVariants as faults
use Rattle.rp_base.specs.declared.values.Value.{Value}
use Rattle.rp_base.specs.declared.values.Value.TheVariants.{Number}
use Rattle.rp_request.specs.declared.requests.Request.{Request}
use Rattle.rp_request.specs.declared.requests.Request.TheVariants.{Put, Add, CPut, Del, Wipe, Move, Split}
use Rattle.rp_request.specs.declared.outcomes.Reply.{Reply}
use Rattle.rp_request.specs.declared.outcomes.Reply.TheVariants.{Old, Now, Set, Count, Range}
use Rattle.rp_request.specs.declared.outcomes.Refusal.{Refusal}
use Rattle.rp_request.specs.declared.outcomes.Refusal.TheVariants.{ConditionFailed, IsText, Overflow, Short, TooWide, NotInside, SplitLimit}
use Rattle.rp_base.specs.Tables.{Table, greatest, value_at, holds_text, count_in, without, below}

-- what a request leaves, and the reply
pub record Effect : Type 0 where
  pub table : Table
  pub desc : Desc
  pub reply : Reply

-- the table changes and the description stays
abbrev pub writes : Table → Desc → Reply → Result Effect Refusal
writes t d reply = Ok (record { table = t; desc = d; reply = reply })

-- the key's number rises by so much
abbrev pub raise : Table → Desc → ℕ → ℕ → Result Effect Refusal
raise t d key by = if nat_lt greatest (value_at t key + by)
    then Err (Overflow (value_at t key))
    else writes (insert t key (Number (value_at t key + by))) d (Now (value_at t key + by))

-- the key's number rises by so much, where it holds no text
abbrev pub add : Table → Desc → ℕ → ℕ → Result Effect Refusal
add t d key by = if holds_text t key then Err (IsText key) else raise t d key by

-- the key gets the value where it has the expected one
abbrev pub put_if : Table → Desc → ℕ → Option Value → Value → Result Effect Refusal
put_if t d key expect value = if option_eq value_eq (get t key) expect
    then writes (insert t key value) d Set
    else Err (ConditionFailed (get t key))

-- the keys from the start on and below the end go, where they are at most 16
abbrev pub wipe : Table → Desc → ℕ → ℕ → Result Effect Refusal
wipe t d start end = if nat_lt 16 (count_in t start end)
    then Err (TooWide (count_in t start end))
    else writes (without t start end) d (Count (count_in t start end))

-- so much goes from one key's number to another's
abbrev pub pass_on : Table → Desc → ℕ → ℕ → ℕ → Result Effect Refusal
pass_on t d from to by = if nat_lt greatest (value_at t to + by)
    then Err (Overflow (value_at t to))
    else writes (insert (insert t from (Number (value_at t from - by))) to (Number (value_at t to + by))) d
    (Now (value_at t from - by))

-- so much goes from one key's number to another's, which may be the same key
abbrev pub give : Table → Desc → ℕ → ℕ → ℕ → Result Effect Refusal
give t d from to by = if nat_lt (value_at t from) by
    then Err (Short (value_at t from))
    else (if from == to
    then writes (insert t from (Number (value_at t from))) d (Now (value_at t from))
    else pass_on t d from to by)

-- so much goes from one key's number to another's, where neither holds a text
abbrev pub move : Table → Desc → ℕ → ℕ → ℕ → Result Effect Refusal
move t d from to by = if holds_text t from then Err (IsText from)
    else (if holds_text t to then Err (IsText to) else give t d from to by)

-- the keys from this one on leave for a range of their own, whose number is the reply
abbrev pub split : Table → ℕ → Result (Desc × Desc) SplitFault → Result Effect Refusal
split t key (Ok parts) = Ok (record { table = below t key; desc = parts.0; reply = Range parts.1.id })
split t key (Err faults.NotInside) = Err NotInside
split t key (Err (faults.SplitLimit level)) = Err (SplitLimit level)

-- the effect of a request
abbrev pub effect : Table → Desc → Request → Result Effect Refusal
effect t d (Put key value) = writes (insert t key value) d (Old (get t key))
effect t d (Add key by) = add t d key by
effect t d (CPut key expect value) = put_if t d key expect value
effect t d (Del key) = writes (remove t key) d (Old (get t key))
effect t d (Wipe span) = wipe t d span.start (end_of span.end)
effect t d (Move from to by) = move t d from to by
effect t d (Split key) = split t key (split_of d key)

-- what is seen of an effect through a part of the keys: the table's part, the description, the
-- reply; or the refusal
abbrev pub seen : (ℕ → Bool) → Result Effect Refusal → Result Effect Refusal
seen p (Ok e) = Ok (record { table = retain_keys e.table p; desc = e.desc; reply = e.reply })
seen p (Err refusal) = Err refusal
