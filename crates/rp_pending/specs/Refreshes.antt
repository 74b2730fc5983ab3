-- What waits for a lease index, which proposals a refresh concerns, and the first round of a list.
use Rattle.std.specs.Prelude.{ℕ, ◌-◌, Bool, ◌&&◌, ◌||◌, nat_lt, nat_le, if◌then◌else◌, min, map, filter_map, List, [], ◌∷◌, Option, None, Some}
use Rattle.std.specs.List.{filter, reduce}
use Rattle.rp_base.specs.declared.ids.CmdId.{CmdId}
use Rattle.rp_request.specs.declared.commands.Waiting.{Waiting}
use Rattle.rp_pending.specs.declared.proposals.Proposal.{Proposal}
use Rattle.rp_pending.specs.declared.refreshes.Refresh.{Refresh}
use Rattle.rp_pending.specs.Proposals.{is_proposed}

-- a Waiting proposal is listed with the lease sequence under which it was evaluated
abbrev pub waits : Proposal → Option Waiting
waits p = if is_proposed p.stage then None else Some (record { id = p.id; seq = p.seq })

abbrev pub waiting_of : List Proposal → List Waiting
waiting_of ps = filter_map waits ps

-- the least round of these proposals
abbrev pub first_round : List Proposal → Option ℕ
first_round ps = reduce min (filter_map (λ p. p.round) ps)

-- its lease index can no longer be taken: it waits for another
abbrev pub goes_back : ℕ → Proposal → Bool
goes_back lai p = is_proposed p.stage && nat_le p.max lai

-- it may have been lost, and is proposed again: at a refresh of all at once, else after five ticks
abbrev pub goes_again : ℕ → ℕ → Bool → Proposal → Bool
goes_again lai now all p =
    is_proposed p.stage && nat_lt lai p.max
    && (all || nat_le 5 (now - p.since))

-- before the first item whose key is not below its own
abbrev pub put_by : {X : Type 0} → (X → ℕ) → X → List X → List X
put_by key x [] = x ∷ []
put_by key x (y ∷ ys) = if nat_le (key x) (key y) then x ∷ y ∷ ys else y ∷ put_by key x ys

-- by ascending key, equal ones in the order of the list
abbrev pub by_key : {X : Type 0} → (X → ℕ) → List X → List X
by_key key [] = []
by_key key (x ∷ xs) = put_by key x (by_key key xs)

-- by ascending maximum
abbrev pub ids_by_max : List Proposal → List CmdId
ids_by_max ps = map (λ p. p.id) (by_key (λ p. p.max) ps)

-- a refresh under a lease applied index, at a tick (CockroachDB's refresh of pending commands)
abbrev pub to_refresh : ℕ → ℕ → Bool → List Proposal → Refresh
to_refresh lai now all ps = record {
  again = ids_by_max (filter (goes_again lai now all) ps);
  back = ids_by_max (filter (goes_back lai) ps);
}
