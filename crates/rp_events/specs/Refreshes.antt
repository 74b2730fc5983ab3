-- Tick and Deliver: Raft's event, and behind it a refresh of what may have been lost (after
-- CockroachDB's refresh of pending commands at ticks and at a new leader).
use Rattle.std.specs.Prelude.{ℕ, Bool, true, if◌then◌else◌, List, [], map, ◌++◌, Option, None, Some}
use Rattle.rp_request.specs.Applied.{AppliedState}
use Rattle.rp_pending.specs.Refreshes.{to_refresh}
use Rattle.rp_pending.specs.declared.refreshes.Refresh.{Refresh}
use Rattle.rp_raftstep.specs.declared.messages.Message.{Message}
use Rattle.rp_raftstep.specs.Step.{Draft, tick, received}
use Rattle.rp_events.specs.Replicas.{Replica, Done, Told, untold, has_new_leader}
use Rattle.rp_events.specs.declared.moves.Move.{Move}
use Rattle.rp_events.specs.declared.moves.Move.TheVariants.{TakesBack, Repeats}
use Rattle.rp_events.specs.Moves.{moved_all, hands_to_raft}
use Rattle.rp_events.specs.Ends.{snapshot_taken}

-- what a refresh concerns here: all that is proposed, or what was proposed five ticks ago
abbrev pub refreshing : Replica → (ticks : ℕ) → (all : Bool) → Refresh
refreshing r ticks all = to_refresh r.applied.state.lai ticks all r.pending

-- what can be taken no more under its index waits again; the others are proposed once more
abbrev pub refresh_moves : Refresh → List Move
refresh_moves f = map TakesBack f.back ++ map Repeats f.again

-- Raft's event, with a refresh behind it
abbrev pub refreshed_by : Replica → Draft AppliedState → (ticks round : ℕ) → Told → Refresh → Done
refreshed_by r draft ticks round t f =
    hands_to_raft r draft (moved_all ticks round t (refresh_moves f)) [] f.again

-- a tick refreshes all where it made a new leader known
abbrev pub ticked_by : Replica → Draft AppliedState → (ticks round : ℕ) → Done
ticked_by r draft ticks round =
    refreshed_by r draft ticks round (untold r)
    (refreshing r ticks (has_new_leader r.raft.head draft.state.head))

-- Tick, which makes the node's tick this one, in a round of the node
abbrev pub ticked : Replica → (ticks round : ℕ) → Done
ticked r ticks round = ticked_by r (tick r.raft) ticks round

-- a snapshot that Raft took in is the applied state from now on
abbrev pub with_taken : Replica → Option (ℕ × AppliedState) → Told
with_taken r None = untold r
with_taken r (Some taken) = snapshot_taken r taken.0 taken.1

-- a message refreshes all where it made a new leader known, and else nothing
abbrev pub delivered_by : Replica → Draft AppliedState → (ticks round : ℕ) → Told → Done
delivered_by r draft ticks round t =
    if has_new_leader r.raft.head draft.state.head
    then refreshed_by r draft ticks round t (refreshing t.replica ticks true)
    else hands_to_raft r draft t [] []

-- Deliver: a message of another node's replica comes, at a tick and in a round of the node
abbrev pub delivered : Replica → (from : ℕ) → Message AppliedState → (ticks round : ℕ) → Done
delivered r from message ticks round =
    delivered_by r (received r.raft from message) ticks round
    (with_taken r (received r.raft from message).taken)
