-- What a refresh is to do behind an event of Raft.
use Rattle.std.specs.Prelude.{◌≡◌, ◌⊎◌, ℕ, Bool, true, if◌then◌else◌, []}
use Rattle.rp_pending.specs.declared.refreshes.Refresh.{Refresh}
use Rattle.rp_raft.specs.Plans.{drafted_by, head_after, taken_in}
use Rattle.rp_raft.specs.declared.plans.RaftPlan.{RaftPlan}
use Rattle.rp_raftstep.specs.Step.{Draft}
use Rattle.rp_request.specs.Applied.{AppliedState}
use Rattle.rp_events.specs.Refreshes.{refreshing, with_taken}
use Rattle.rp_events.specs.Replicas.{Replica, Told, has_new_leader}

-- nothing is refreshed
abbrev pub no_refresh : Refresh
no_refresh = record { again = []; back = [] }

-- the refresh is one of the replica's at a tick, of all or not, or it is none
abbrev pub IsRefresh : Replica → Refresh → Type 0
IsRefresh r f = (f ≡ no_refresh) ⊎ ((ticks : ℕ) × (all : Bool) × (f ≡ refreshing r ticks all))

-- the event of Raft that was planned, and the replica once what it takes in is taken in
abbrev pub draft_in : Replica → RaftPlan AppliedState → Draft AppliedState
draft_in r p = drafted_by r.raft p

abbrev pub after_taken : Replica → RaftPlan AppliedState → Told
after_taken r p = with_taken r (taken_in p)

-- behind a message all is refreshed where it makes a new leader known, and else nothing
abbrev pub refresh_behind : Replica → RaftPlan AppliedState → (ticks : ℕ) → Refresh
refresh_behind r p ticks =
    if has_new_leader r.raft.head (head_after p)
    then refreshing (after_taken r p).replica ticks true
    else no_refresh
