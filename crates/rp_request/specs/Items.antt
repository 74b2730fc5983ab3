-- What a range's applied items make of a state: its table, its description and its lease.
use Rattle.std.specs.Prelude.{List, [], ◌∷◌, Option, Some, None, option_and_then, Result, Ok, Err}
use Rattle.rp_base.specs.declared.ranges.Desc.{Desc}
use Rattle.rp_base.specs.declared.leases.Lease as lease_type
use Rattle.rp_request.specs.declared.requests.Request.{Request}
use Rattle.rp_request.specs.declared.requests.Request.TheVariants as requests
use Rattle.rp_request.specs.declared.outcomes.Refusal.{Refusal}
use Rattle.rp_request.specs.declared.items.Place.{Place}
use Rattle.rp_request.specs.declared.items.Place.TheVariants.{Write, Split, Lease}
use Rattle.rp_base.specs.Tables.{Table}
use Rattle.rp_request.specs.Effect.{Effect, effect}

-- the state of a range
pub record State : Type 0 where
  pub table : Table
  pub desc : Desc
  pub lease : lease_type.Lease

-- the state that an effect leaves: no state where the request is refused
abbrev pub left_by : State → Result Effect Refusal → Option State
left_by s (Ok e) = Some (record { table = e.table; desc = e.desc; lease = s.lease })
left_by s (Err refusal) = None

-- the state after a request: the effect is that of the whole request, evaluated again
abbrev pub after_request : State → Request → Option State
after_request s request = left_by s (effect s.table s.desc request)

-- the state after one item
abbrev pub after_item : State → Place → Option State
after_item s (Write id request seq reply) = after_request s request
after_item s (Split id key right seq) = after_request s (requests.Split key)
after_item s (Lease lease) = Some (record { table = s.table; desc = s.desc; lease = lease })

-- the state after a list of items: no state where one of them is refused
abbrev pub fold : State → List Place → Option State
fold s [] = Some s
fold s (item ∷ items) = option_and_then (λ t. fold t items) (after_item s item)
